-- `polar_write::third` meets its contract. Assumes nothing.
use mathlib.Core.Path.{refl, ap}
use native.Mathlib.Omega.{arith}
use Rattle.grid.specs.declared.Split.{Split}
use Rattle.polar_write.proofs.third.Goals as goal

pub nonzero_div-result : goal.nonzero_div-result
nonzero_div-result c = omega (arith, ap (λ (s : Split). s.ring) c.split_of.ensures)

pub returns : goal.returns
returns c = rw c.split_of.ensures refl
