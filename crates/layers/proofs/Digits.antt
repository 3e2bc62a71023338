-- The height digits straight from a layer's rise: what the writer lays down, level by level.
-- Assumes nothing.
use mathlib.Core.Path.{◌≡◌, refl, ◌∙◌, ap}
use mathlib.Core.Bool.{Bool, true}
use mathlib.Core.List.{List, [], ◌∷◌, map}
use Prim.Native.Nat.{ℕ, zero, suc, ◌+◌, ◌*◌, ◌/◌, ◌%◌, ◌≤◌, ◌<◌}
use native.Mathlib.Omega.{arith}
use native.Mathlib.Nat.{div-lt_iff_lt-mul, mod-lt, mul-div_right}
use native.Mathlib.Numerals.{add-one}
use lib.IntN.{ℤ}
use lib.ListN.{length, get_or, take, drop, length-take}
use lib.Seq.{get_or-take}
use borrow.Author.Tests.{lt-ltb}
use Rattle.grid.specs.Units.{side, index}
use Rattle.grid.specs.Tree.{code}
use Rattle.grid.specs.Layers.{product, rise, sign, part, layers}
use Rattle.grid.proofs.Cut.{clash, part_direct, begins_direct}
use Rattle.grid.proofs.LayerLaws.{rise_below, all_read}
use Rattle.layers.specs.Heights.{later_height}
use Rattle.layers.specs.inner.Steps.{height_digits, fair_later, Fair, thickness_at}
use Rattle.layers.proofs.Radices.{later_fair, first_fair, product_some, ten}

-- ---- the digits of the levels after the first

unfoldable pub direct : List ℕ → ℕ → List ℕ
direct [] X = []
direct (r ∷ rs) X = (X / product rs % r) ∷ direct rs X

code_later : (top : ℕ) (rs : List ℕ) (l : ℕ) (a : Bool) (z : ℤ) → fair_later rs ≡ true
    → code (layers top) (take l (map later_height rs)) (part a (rise top z / product rs * product rs) (product rs)) z ≡ take l (direct rs (rise top z))
unfolding code direct
code_later top rs zero a z e = refl
code_later top [] (suc l) a z e = refl
code_later top (r ∷ rs) (suc l) a z e =
    let f = later_fair r rs e in
    let X = rise top z in
    let P = product rs in
    let p : 0 < P = product_some rs f.rest in
    rw (
      mul-div_right P {m = r} f.more,
      part_direct X r P f.more p,
      lt-ltb (X / P % r) r (mod-lt (X / P) f.more),
      begins_direct X r P f.more p,
    )
    (ap (λ ds. (X / P % r) ∷ ds) (code_later top rs l a z f.rest))

pub length_direct : (rs : List ℕ) (X : ℕ) → length (direct rs X) ≡ length rs
unfolding direct
length_direct [] X = refl
length_direct (r ∷ rs) X = ap suc (length_direct rs X)

at_direct : (rs : List ℕ) (X j : ℕ) → j < length rs → get_or (direct rs X) j 0 ≡ X / product (drop (suc j) rs) % get_or rs j 0
unfolding direct
at_direct [] X j h = absurd (omega arith)
at_direct (r ∷ rs) X zero h = refl
at_direct (r ∷ rs) X (suc j) h = at_direct rs X j (omega arith)

-- ---- the sign and the two decimal digits

-- the digits of level l + 1
abbrev pub straight : ℕ → List ℕ → ℕ → Bool → ℕ → List ℕ
straight r rs l b X = sign b ∷ (X / product rs / 10) ∷ (X / product rs % 10) ∷ take l (direct rs X)

pub height_straight : (r : ℕ) (rs : List ℕ) (l : ℕ) (z : ℤ) → Fair (r ∷ rs) → index z < product (r ∷ rs)
    → height_digits (r ∷ rs) (suc l) z ≡ straight r rs l (side z) (rise (product (r ∷ rs)) z)
unfolding height_digits code
height_straight r rs l z e h =
    let f = first_fair r rs e in
    let X = rise (r * product rs) z in
    let P = product rs in
    let p : 0 < P = product_some rs f.rest in
    let q : r * P / r ≡ P = mul-div_right P {m = r} f.more in
    let d : X / (r * P / r) < r = rw q ((div-lt_iff_lt-mul p).1 (rise_below (r * P) z h)) in
    rw (all_read (r * P) (side z) r (X / (r * P / r)) d, q)
    (ap (λ ds. sign (side z) ∷ (X / P / 10) ∷ (X / P % 10) ∷ ds) (code_later (r * P) rs l (side z) z f.rest))

-- ---- a code's height digits, at every level

-- two more than the level
pub height_length : (rs : List ℕ) (l : ℕ) (z : ℤ) → Fair rs → index z < product rs → 1 ≤ l → l ≤ 10 → length (height_digits rs l z) ≡ 2 + l
height_length rs zero z e h a b = absurd (omega arith)
height_length [] (suc l) z e h a b = clash (let t = e.test in cc)
height_length (r ∷ rs) (suc l) z e h a b =
    let X = rise (product (r ∷ rs)) z in
    ap length (height_straight r rs l z e h)
    ∙ omega (arith, length-take l (direct rs X), length_direct rs X, ten (r ∷ rs) e)

-- the digit of level k + 1, a later one
pub height_at : (rs : List ℕ) (l k : ℕ) (z : ℤ) → Fair rs → index z < product rs → 1 ≤ k → k < l → l ≤ 10
    → get_or (height_digits rs l z) (k + 2) 0 ≡ rise (product rs) z / thickness_at rs (k + 1) % get_or rs k 0
unfolding thickness_at
height_at rs l zero z e h a b c = absurd (omega arith)
height_at rs zero (suc k) z e h a b c = absurd (omega arith)
height_at [] (suc l) (suc k) z e h a b c = clash (let t = e.test in cc)
height_at (r ∷ rs) (suc l) (suc k) z e h a b c =
    let X = rise (product (r ∷ rs)) z in
    let p : suc k + 2 ≡ suc (suc (suc k)) = omega arith in
    rw (height_straight r rs l z e h, p, add-one (suc k)) (get_or-take l (direct rs X) k 0 (omega arith) ∙ at_direct rs X k (omega (arith, ten (r ∷ rs) e)))
