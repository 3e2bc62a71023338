-- `has` meets its contract. Assumes nothing.
use Rattle.ordinary_read.proofs.Steps.{both_eight}
use Rattle.ordinary_read.proofs.has.Goals as goal

pub returns-then-s-eq8-2 : goal.returns-then-s-eq8-2
returns-then-s-eq8-2 c = rw (c.if-s-eq8.true, c.if-s-eq8-2.true) (both_eight c.args.column c.args.row)
