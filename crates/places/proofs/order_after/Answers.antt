-- `places::order_after` meets its contract. Assumes nothing.
use mathlib.Core.Path.{◌≡◌, refl, ap, ◌∙◌}
use mathlib.Core.List.{List}
use Prim.Native.Nat.{ℕ, ◌-◌, ◌≤◌}
use native.Mathlib.Omega.{arith}
use lib.ListN.{length, take, drop, length-drop}
use lib.Seq.{take_all}
use Rattle.std.specs.Ordering.{ordering_index, nat_cmp}
use Rattle.std.proofs.lemmas.Iterator.{YieldsList-from_slice}
use Rattle.std.proofs.lemmas.Iterator.Search.{cmp_from_yields_List}
use Rattle.places.proofs.Ordering.{index_order}
use Rattle.places.proofs.order_after.Goals as goal

-- a slice from d on is what is left from there
from_there : (d : ℕ) (s : List ℕ) → d ≤ length s → take (length s - d) (drop d s) ≡ drop d s
from_there d s h = take_all (length s - d) (drop d s) (rw length-drop (omega arith))

pub returns : goal.returns
returns c = let a = c.args.a.now in
    let b = c.args.b.now in
    let d = c.args.d in
    let u = from_there d a c.requires.inside_a in
    let v = from_there d b c.requires.inside_b in
    let r = cmp_from_yields_List (λ x y. y ≡ x) _ nat_cmp _ c.cmp.ensures.ran (YieldsList-from_slice (drop d a) (cc (c.iter.ensures.rest, u)))
    (λ it e. YieldsList-from_slice (drop d b) (cc (c.iter-2.ensures.rest, v))) (λ x y. refl) in
    ap ordering_index r ∙ index_order (drop d a) (drop d b) ∙ c.requires.decides
