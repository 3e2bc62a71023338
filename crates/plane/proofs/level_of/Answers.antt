-- `plane::level_of` meets its contract. Assumes nothing.
use Rattle.plane.proofs.Lengths.{level_at, level_none, level_some, level_no}
use Rattle.plane.proofs.level_of.Goals as goal

pub returns-then-level-ne0 : goal.returns-then-level-ne0
returns-then-level-ne0 c = level_some c.args.n (level_at c.args.n c.if-n-lt21.true).same c.if-level-ne0.true

pub returns-else-level-ne0 : goal.returns-else-level-ne0
returns-else-level-ne0 c = level_no c.args.n (level_at c.args.n c.if-n-lt21.true).same c.if-level-ne0.false

pub returns-else-n-lt21 : goal.returns-else-n-lt21
returns-else-n-lt21 c = level_none _ c.if-n-lt21.false
