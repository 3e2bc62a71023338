-- `space::length_of` meets its contract. Assumes nothing.
use mathlib.Core.Path.{◌∙◌, ap}
use Prim.Native.Nat.{ℕ, ◌+◌}
use native.Mathlib.Omega.{arith}
use Rattle.space.proofs.Tables.{length_at, length_few}
use Rattle.space.proofs.length_of.Goals as goal

pub overflow_add-result : goal.overflow_add-result
overflow_add-result c = omega (arith, length_few c.args.level c.requires.0 c.requires.1, c.length_of.ensures)

pub overflow_add-result-2 : goal.overflow_add-result-2
overflow_add-result-2 c = omega (arith, length_few c.args.level c.requires.0 c.requires.1, c.length_of.ensures)

pub returns : goal.returns
returns c = ap (λ (n : ℕ). n + 2 + c.args.level) c.length_of.ensures ∙ length_at c.args.level c.requires.0 c.requires.1
