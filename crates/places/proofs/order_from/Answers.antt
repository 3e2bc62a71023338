-- `places::order_from` meets its contract. Assumes nothing.
use mathlib.Core.Path.{ap, ◌∙◌}
use Prim.Native.Nat.{◌+◌, ◌≤◌}
use lib.ListN.{length}
use native.Mathlib.Omega.{arith}
use Rattle.std.specs.Ordering.{ordering_index}
use Rattle.places.proofs.Names.{fours_decide}
use Rattle.places.proofs.order_from.Goals as goal

pub returns-then-d-min : goal.returns-then-d-min
returns-then-d-min c = let s = c.args in
    let h : s.d + 4 ≤ length s.a.now = omega arith in
    let k : s.d + 4 ≤ length s.b.now = omega arith in
    ap ordering_index c.cmp.ensures
    ∙ fours_decide s.a.now s.b.now s.d (λ j. omega (arith, c.type_inv.a j)) (λ j. omega (arith, c.type_inv.b j)) h k (c.requires.apart h k)
    c.four.ensures c.four-then-d-min.ensures
    ∙ c.requires.to.decides
