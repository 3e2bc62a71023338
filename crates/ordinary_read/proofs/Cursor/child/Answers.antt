-- `Cursor::child` meets its contract: the child lies in the cursor's cell, so no sum leaves its type. Assumes nothing.
use mathlib.Core.Path.{sym, ◌∙◌}
use native.Mathlib.Omega.{arith}
use Rattle.ordinary_read.proofs.Steps.{lies}
use Rattle.ordinary_read.proofs.Cursor.child.Goals as goal

pub overflow_mul-result-then-has : goal.overflow_mul-result-then-has
overflow_mul-result-then-has c = omega (arith, lies c.requires (sym c.has.ensures ∙ c.if-has.true))

pub invariant_of-result : goal.invariant_of-result
invariant_of-result c = let l = lies c.requires (sym c.has.ensures ∙ c.if-has.true) in
    record { across = omega (arith, l.across); along = omega (arith, l.along); some_width = c.requires.some_width; some_height = c.requires.some_height }
