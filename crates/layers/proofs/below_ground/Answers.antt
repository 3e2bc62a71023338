-- `layers::below_ground` meets its contract. Assumes nothing.
use native.Mathlib.Omega.{arith}
use Rattle.layers.proofs.below_ground.Goals as goal

pub returns : goal.returns
returns c = omega arith
