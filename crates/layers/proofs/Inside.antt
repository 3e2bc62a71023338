-- The layers that height digits lead to lie in the range: what the test of the radices says to the laws of layers.
-- Assumes nothing.
use mathlib.Core.Path.{◌≡◌, refl}
use mathlib.Core.Bool.{Bool, true, ◌&&◌}
use mathlib.Core.List.{List, [], ◌∷◌, map}
use Prim.Native.Nat.{ℕ, zero, suc, ◌+◌, ◌*◌, ◌/◌, ◌≤◌, ◌<◌}
use native.Mathlib.Nat.{mul-div_right}
use lib.Dec.{ltb, leb, eqb}
use lib.ListN.{take}
use borrow.Author.Tests.{ltb-true, lt-ltb, le-leb, eq-eqb}
use Rattle.grid.specs.Tree.{ok}
use Rattle.grid.specs.Layers.{product, all, part, Radix, layers}
use Rattle.grid.proofs.Cut.{clash}
use Rattle.grid.proofs.Laws.{follow_good}
use Rattle.grid.proofs.LayerLaws.{fits_part, fits_all, layer_laws}
use Rattle.layers.specs.Heights.{later_height, height_levels, height_read}
use Rattle.layers.specs.inner.Steps.{fair_later, Fair, thickness_at}
use Rattle.layers.proofs.Radices.{later_fair, first_fair, product_some, thick_some}

-- one radix of at most m, and the levels after it
one_fits : (m r : ℕ) (rs : List ℕ) (ts : List Radix) → 0 < r → r ≤ m → fair_later rs ≡ true → fits_part ts (product rs) ≡ true
    → ((ltb 0 r && leb r m) && (eqb (r * (r * product rs / r)) (r * product rs) && (ltb 0 (r * product rs / r) && fits_part ts (r * product rs / r)))) ≡ true
one_fits m r rs ts more few fair rest =
    let P = product rs in
    rw (mul-div_right P {m = r} more, lt-ltb 0 r more, le-leb r m few, eq-eqb (r * P) (r * P) refl, lt-ltb 0 P (product_some rs fair)) rest

later_fits : (rs : List ℕ) (l : ℕ) → fair_later rs ≡ true → fits_part (take l (map later_height rs)) (product rs) ≡ true
later_fits rs zero e = lt-ltb 0 (product rs) (product_some rs e)
later_fits [] (suc l) e = refl
later_fits (r ∷ rs) (suc l) e =
    let f = later_fair r rs e in
    one_fits 32 r rs (take l (map later_height rs)) f.more f.few f.rest (later_fits rs l f.rest)

-- the levels divide the layers evenly
pub levels_fit : (rs : List ℕ) (l : ℕ) → Fair rs → fits_all (take l (height_levels rs)) (product rs) ≡ true
unfolding thickness_at
levels_fit rs zero e = lt-ltb 0 (product rs) (thick_some rs 0 e)
levels_fit [] (suc l) e = clash (let t = e.test in cc)
levels_fit (r ∷ rs) (suc l) e =
    let f = first_fair r rs e in
    one_fits 100 r rs (take l (map later_height rs)) f.more f.few f.rest (later_fits rs l f.rest)

-- what is read is some of the layers above ground, or below it
pub read_inside : (rs : List ℕ) (l : ℕ) (ds : List ℕ) {a : Bool} {low n : ℕ} → Fair rs → height_read rs l ds ≡ ok (part a low n) → (0 < n) × (low + n ≤ product rs)
unfolding height_read
read_inside rs l ds {a} {low} {n} e r =
    let g = follow_good (layers (product rs)) (layer_laws (product rs)) (take l (height_levels rs)) all ds (part a low n) (levels_fit rs l e) r in
    (ltb-true 0 n g.even, g.fit)
