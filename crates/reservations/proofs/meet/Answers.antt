-- `reservations::meet` meets its contract. Assumes nothing.
use Rattle.std.proofs.Common.{arith}
use mir.Facts.{to_z-of_z}
use Rattle.reservations.proofs.meet.Goals as goal

pub returns : goal.returns
returns c = grind (arith, to_z-of_z)
