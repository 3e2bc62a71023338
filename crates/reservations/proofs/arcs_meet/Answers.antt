-- `reservations::arcs_meet` meets its contract. Assumes nothing.
use Rattle.std.proofs.Common.{◌∙◌, arith}
use mir.Facts.{to_z-of_z}
use Rattle.distances.specs.Distances.{between}
use Rattle.reservations.proofs.Arcs.{onward, not_onward}
use Rattle.reservations.proofs.arcs_meet.Goals as goal

pub returns-then-east-n : goal.returns-then-east-n
returns-then-east-n c =
    onward _ _ _ _ (c.apart-east.ensures.0 ∙ (λ i. between (to_z-of_z c.ranges.v i) (to_z-of_z c.ranges.w i))) (grind arith) (omega arith) c.if-m-gt0.true

pub returns-then-n-gt0 : goal.returns-then-n-gt0
returns-then-n-gt0 c =
    not_onward _ _ _ _ (c.apart-east.ensures.0 ∙ (λ i. between (to_z-of_z c.ranges.v i) (to_z-of_z c.ranges.w i))) (omega arith) c.if-n-gt0.true
