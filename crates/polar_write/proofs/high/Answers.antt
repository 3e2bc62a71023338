-- `polar_write::high` meets its contract. Assumes nothing.
use mathlib.Core.Path.{refl, ap}
use native.Mathlib.Omega.{arith}
use Rattle.grid.specs.declared.Split.{Split}
use Rattle.polar_write.proofs.high.Goals as goal

pub nonzero_div-result : goal.nonzero_div-result
nonzero_div-result c = omega (arith, ap (λ (s : Split). s.inward) c.split_of.ensures)

pub nonzero_div-result-2 : goal.nonzero_div-result-2
nonzero_div-result-2 c = omega (arith, ap (λ (s : Split). s.inward) c.split_of-2.ensures)

pub returns : goal.returns
returns c = rw (c.split_of.ensures, c.split_of-2.ensures) refl
