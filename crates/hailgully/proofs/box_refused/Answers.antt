-- `hailgully::box_refused` meets its contract. Assumes nothing.
use Rattle.hailgully.proofs.Boxes.{box_is}
use Rattle.hailgully.proofs.box_refused.Goals as goal

pub returns : goal.returns
returns c = box_is c.boxed.ensures c.from.ensures c.zeros.ensures
