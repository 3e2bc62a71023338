-- `level_place` meets its contract. Assumes nothing.
use Rattle.std.proofs.Common.{refl}
use Rattle.grid.proofs.level_place.Goals as goal

pub returns-then-spaced : goal.returns-then-spaced
returns-then-spaced c = rw c.if-spaced.true refl

pub returns-else-spaced : goal.returns-else-spaced
returns-else-spaced c = rw c.if-spaced.false refl
