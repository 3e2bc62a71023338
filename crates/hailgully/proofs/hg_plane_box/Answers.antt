-- `hailgully::hg_plane_box` meets its contract. Assumes nothing.
use Rattle.hailgully.proofs.Filling.{no_refusal_is}
use Rattle.hailgully.proofs.Boxes.{box_is, box_found, box_refused_as}
use Rattle.hailgully.proofs.hg_plane_box.Goals as goal

pub returns-in-Ok : goal.returns-in-Ok
returns-in-Ok c = box_found _ c.in-Ok.is c.plane_box.ensures (λ d o. box_is c.boxed.ensures (no_refusal_is c.default.ensures) o)

pub returns-in-Err : goal.returns-in-Err
returns-in-Err c = box_refused_as _ c.in-Err.is c.plane_box.ensures c.box_refused.ensures
