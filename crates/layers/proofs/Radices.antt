-- What a fair list of radices says: each radix, and how many layers a cell of each level has.
-- Assumes nothing.
use mathlib.Core.Path.{◌≡◌, refl, sym, ap, subst}
use mathlib.Core.Bool.{true, ◌&&◌}
use mathlib.Core.List.{List, [], ◌∷◌}
use Prim.Native.Nat.{ℕ, zero, suc, ◌+◌, ◌*◌, ◌≤◌, ◌<◌}
use native.Mathlib.Omega.{arith}
use native.Mathlib.Nat.{mul-pos, mul-le-mul_right, le_trans}
use native.Mathlib.Numerals.{add-one}
use lib.Dec.{ltb, leb, eqb}
use lib.ListN.{length, get_or, drop, drop_of_length-le}
use lib.Seq.{drop-cons}
use borrow.Author.Tests.{ltb-true, leb-true, eqb-true}
use Rattle.grid.specs.Layers.{product}
use Rattle.grid.proofs.Cut.{and_true, clash}
use Rattle.layers.specs.declared.Edition.{Edition}
use Rattle.layers.specs.declared.Edition.TheVariants.{First, Second}
use Rattle.layers.specs.inner.Editions.{radices_of}
use Rattle.layers.specs.inner.Steps.{fair_later, Fair, thickness_at}

-- either edition's radices are fair
pub edition_fair : (edition : Edition) → Fair (radices_of edition)
edition_fair First = record { test = refl }
edition_fair Second = record { test = refl }

-- ---- the test taken apart

-- a radix of at most m, and fair ones after it
pub record Head (m r : ℕ) (rs : List ℕ) : Type 0 where
  pub more : 0 < r
  pub few : r ≤ m
  pub rest : fair_later rs ≡ true

pub later_fair : (r : ℕ) (rs : List ℕ) → fair_later (r ∷ rs) ≡ true → Head 32 r rs
later_fair r rs e =
    let a = and_true (ltb 0 r && leb r 32) (fair_later rs) e in
    let b = and_true (ltb 0 r) (leb r 32) a.0 in
    record { more = ltb-true 0 r b.0; few = leb-true r 32 b.1; rest = a.1 }

pub first_fair : (r : ℕ) (rs : List ℕ) → Fair (r ∷ rs) → Head 100 r rs
first_fair r rs e =
    let a = and_true (ltb 0 r && leb r 100) (fair_later rs) (and_true ((ltb 0 r && leb r 100) && fair_later rs) _ e.test).0 in
    let b = and_true (ltb 0 r) (leb r 100) a.0 in
    record { more = ltb-true 0 r b.0; few = leb-true r 100 b.1; rest = a.1 }

sizes : (r : ℕ) (rs : List ℕ) → Fair (r ∷ rs) → (eqb (length rs) 9 ≡ true) × (leb (r * product rs) 2147483648 ≡ true)
sizes r rs e = and_true (eqb (length rs) 9) _ (and_true ((ltb 0 r && leb r 100) && fair_later rs) _ e.test).1

pub ten : (rs : List ℕ) → Fair rs → length rs ≡ 10
ten [] e = clash (let t = e.test in cc)
ten (r ∷ rs) e = ap suc (eqb-true (length rs) 9 (sizes r rs e).0)

pub product_fits : (rs : List ℕ) → Fair rs → product rs ≤ 2147483648
product_fits [] e = clash (let t = e.test in cc)
product_fits (r ∷ rs) e = leb-true (r * product rs) 2147483648 (sizes r rs e).1

-- ---- products

pub product_some : (rs : List ℕ) → fair_later rs ≡ true → 0 < product rs
product_some [] e = omega arith
product_some (r ∷ rs) e = let f = later_fair r rs e in mul-pos f.more (product_some rs f.rest)

grows : (r p : ℕ) → 0 < r → p ≤ r * p
grows r p h = let m : 1 * p ≤ r * p = mul-le-mul_right p h in omega arith

later_drop : (rs : List ℕ) (k : ℕ) → fair_later rs ≡ true → fair_later (drop k rs) ≡ true
later_drop rs zero e = e
later_drop [] (suc k) e = e
later_drop (r ∷ rs) (suc k) e = later_drop rs k (later_fair r rs e).rest

later_most : (rs : List ℕ) (k : ℕ) → fair_later rs ≡ true → product (drop k rs) ≤ product rs
later_most rs zero e = omega arith
later_most [] (suc k) e = omega arith
later_most (r ∷ rs) (suc k) e =
    let f = later_fair r rs e in
    le_trans (later_most rs k f.rest) (grows r (product rs) f.more)

-- ---- radices and thicknesses

pub first_radix : (rs : List ℕ) → Fair rs → Head 100 (get_or rs 0 0) (drop 1 rs)
first_radix [] e = clash (let t = e.test in cc)
first_radix (r ∷ rs) e = first_fair r rs e

pub later_radix : (rs : List ℕ) (k : ℕ) → Fair rs → 1 ≤ k → k < 10 → Head 32 (get_or rs k 0) (drop (suc k) rs)
later_radix rs zero e l h = absurd (omega arith)
later_radix [] (suc k) e l h = clash (let t = e.test in cc)
later_radix (r ∷ rs) (suc k) e l h =
    later_fair _ _ (subst (λ d. fair_later d ≡ true) (drop-cons rs k 0 (omega (arith, ten (r ∷ rs) e))) (later_drop rs k (first_fair r rs e).rest))

pub thick_some : (rs : List ℕ) (k : ℕ) → Fair rs → 0 < thickness_at rs k
unfolding thickness_at
thick_some [] k e = clash (let t = e.test in cc)
thick_some (r ∷ rs) zero e = let f = first_fair r rs e in mul-pos f.more (product_some rs f.rest)
thick_some (r ∷ rs) (suc k) e = product_some (drop k rs) (later_drop rs k (first_fair r rs e).rest)

pub thick_most : (rs : List ℕ) (k : ℕ) → Fair rs → thickness_at rs k ≤ product rs
unfolding thickness_at
thick_most rs zero e = omega arith
thick_most [] (suc k) e = clash (let t = e.test in cc)
thick_most (r ∷ rs) (suc k) e =
    let f = first_fair r rs e in
    le_trans (later_most rs k f.rest) (grows r (product rs) f.more)

-- it fits the numbers that hold it
pub thick_fits : (rs : List ℕ) (k : ℕ) → Fair rs → thickness_at rs k ≤ 2147483648
thick_fits rs k e = le_trans (thick_most rs k e) (product_fits rs e)

-- at level 0 all the layers, at level 10 one
pub thick_top : (rs : List ℕ) → thickness_at rs 0 ≡ product rs
unfolding thickness_at
thick_top rs = refl

pub thick_last : (rs : List ℕ) → Fair rs → thickness_at rs 10 ≡ 1
unfolding thickness_at
thick_last rs e = ap product (drop_of_length-le rs {i = 10} (omega (arith, ten rs e)))

-- a cell of level k divides into those of the next
pub thick_step : (rs : List ℕ) (k : ℕ) → Fair rs → k < 10 → get_or rs k 0 * thickness_at rs (k + 1) ≡ thickness_at rs k
unfolding thickness_at
thick_step rs k e h = rw (add-one k) (sym (ap product (drop-cons rs k 0 (omega (arith, ten rs e)))))

-- and no radix is 0
pub radix_some : (rs : List ℕ) (k : ℕ) → Fair rs → k < 10 → 0 < get_or rs k 0
radix_some rs zero e h = (first_radix rs e).more
radix_some rs (suc k) e h = (later_radix rs (suc k) e (omega arith) h).more
