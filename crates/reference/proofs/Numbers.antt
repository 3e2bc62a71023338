-- Offsets along one axis: the digit that leads from one number to another leads there, and no other digit does.
-- Assumes nothing.
use mathlib.Core.Path.{◌≡◌, refl, sym, ◌∙◌, ap, subst}
use mathlib.Core.Bool.{Bool, true, false, cond, ◌&&◌, ◌||◌}
use mathlib.Core.Logic.{◌⊎◌, inl, inr}
use Prim.Native.Nat.{ℕ, zero, suc, ◌+◌, ◌-◌, ◌*◌, ◌/◌, ◌%◌, ◌≤◌, ◌<◌, ◌∣◌}
use native.Mathlib.Omega.{arith}
use native.Mathlib.Nat.{dvd-add, dvd-sub, dvd-mul_left, le_of_dvd, dvd-mod_iff, div-mul_cancel, mul-div_left, le-div_iff_mul-le, mul-le-mul, mul-le-mul_right, zero-mul, div-eq_of_lt}
use lib.Dec.{ltb, leb}
use lib.IntN.{ℤ, pos, negsuc, neg_ℤ, ◌+ℤ◌, ◌*ℤ◌}
use borrow.Author.Tests.{ltb-true, leb-true, ltb-false, lt-ltb, le-ltb, le-leb}
use Rattle.grid.specs.Units.{HALF, index, eastward}
use Rattle.grid.specs.Cells.{around, Within}
use Rattle.grid.specs.Plane.{longitude_at}
use Rattle.grid.proofs.Cut.{and_true}
use Rattle.grid.proofs.PlaneLaws.{eastward_longitude_at, index_longitude_at}
use Rattle.distances.specs.Distances.{between}
use Rattle.distances.proofs.Turning.{around_below, around_on}
use Rattle.reference.specs.Offsets.{offset_digit, offset, moved_to, moved, span_in, span_of}

-- ---- numbers and their remainders

around_eastward : (u : ℤ) → index u < 1327104000 → around u ≡ eastward u
around_eastward (pos k) h = omega arith
around_eastward (negsuc k) h = omega arith

pub around_longitude_at : (e : ℕ) → e < 2654208000 → around (longitude_at e) ≡ e
around_longitude_at e h = around_eastward (longitude_at e) (index_longitude_at e h) ∙ eastward_longitude_at e h

pub longitude_at_around : (z : ℤ) → index z < 1327104000 → longitude_at (around z) ≡ z
longitude_at_around (pos n) h =
    let e : n % 2654208000 ≡ n = omega arith in
    rw (e, lt-ltb n HALF h) refl
longitude_at_around (negsuc n) h =
    let e : 2654207999 - n % 2654208000 ≡ 2654207999 - n = omega arith in
    let f : 2654207999 - (2654207999 - n) ≡ n = omega arith in
    rw (e, le-ltb (2654207999 - n) HALF (omega arith), f) refl

-- numbers in their range with one remainder are equal
pub around_one : (a b : ℤ) → index a < 1327104000 → index b < 1327104000 → around a ≡ around b → a ≡ b
around_one a b p q e = sym (longitude_at_around a p) ∙ ap longitude_at e ∙ longitude_at_around b q

-- a moved number has the remainder that it was moved to
pub moved_below : (size v : ℕ) (z : ℤ) → moved_to size v z < 2654208000
unfolding moved_to
moved_below size v z = around_below (z +ℤ offset v *ℤ pos size)

pub around_moved : (size v : ℕ) (z : ℤ) → around (moved size v z) ≡ moved_to size v z
around_moved size v z = around_longitude_at (moved_to size v z) (moved_below size v z)

-- ---- a digit is cells onward, or cells back

pub digit_ways : (v : ℕ) → offset_digit v ≡ true → (v < 8) ⊎ ((10 ≤ v) × (v ≤ 16))
digit_ways v h = go (ltb v 8) refl h
  where
    go : (q : Bool) → ltb v 8 ≡ q → (q || (leb 10 v && leb v 16)) ≡ true → (v < 8) ⊎ ((10 ≤ v) × (v ≤ 16))
    go true e h = inl (ltb-true v 8 e)
    go false e h = let a = and_true (leb 10 v) (leb v 16) h in inr (leb-true 10 v a.0, leb-true v 16 a.1)

pub digit_fits : (v : ℕ) → offset_digit v ≡ true → v ≤ 16
digit_fits v h = elim (digit_ways v h) [
  | inl a ↦ omega arith
  | inr a ↦ a.1
]

-- the units that it stands for, onward round a turn
unfoldable pub onward : ℕ → ℕ → ℕ
onward size v = cond (ltb v 8) (v * size) (2654208000 - (v - 9) * size)

on_back : (z : ℤ) (p : ℕ) → 0 < p → p ≤ 57344 → around (z +ℤ neg_ℤ (pos p)) ≡ (around z + (2654208000 - p)) % 2654208000
on_back z zero a h = absurd (omega arith)
on_back (pos n) (suc p) a h = go (ltb n (suc p)) refl
  where
    go : (q : Bool) → ltb n (suc p) ≡ q → around (cond q (negsuc (suc p - suc n)) (pos (n - suc p))) ≡ (n % 2654208000 + (2654208000 - suc p)) % 2654208000
    go true e = let l : n < suc p = ltb-true n (suc p) e in omega arith
    go false e = let l : suc p ≤ n = ltb-false n (suc p) e in omega arith
on_back (negsuc n) (suc p) a h = omega arith

index_forward : (z : ℤ) (p : ℕ) → index (z +ℤ pos p) ≤ index z + p
index_forward (pos n) p = omega arith
index_forward (negsuc n) p = go (ltb p (suc n)) refl
  where
    go : (q : Bool) → ltb p (suc n) ≡ q → index (cond q (negsuc (suc n - suc p)) (pos (p - suc n))) ≤ n + p
    go true e = omega arith
    go false e = omega arith

index_back : (z : ℤ) (p : ℕ) → index (z +ℤ neg_ℤ (pos p)) ≤ index z + p
index_back z zero = index_forward z zero
index_back (pos n) (suc p) = go (ltb n (suc p)) refl
  where
    go : (q : Bool) → ltb n (suc p) ≡ q → index (cond q (negsuc (suc p - suc n)) (pos (n - suc p))) ≤ n + suc p
    go true e = omega arith
    go false e = omega arith
index_back (negsuc n) (suc p) = omega arith

neg_mul : (k s : ℕ) → neg_ℤ (pos k) *ℤ pos s ≡ neg_ℤ (pos (k * s))
neg_mul zero s = rw (zero-mul s) refl
neg_mul (suc k) s = refl

module _ (size : ℕ) (some : 0 < size) (small : size ≤ 8192) where
  pub up_to_seven : (k : ℕ) → k ≤ 7 → k * size ≤ 57344
  up_to_seven k h = mul-le-mul h small

  pub at_least_one : (k : ℕ) → 1 ≤ k → 0 < k * size
  at_least_one k h = let m : 1 * size ≤ k * size = mul-le-mul_right size h in omega arith

  -- moving by the digit, in whole numbers
  pub moved_on : (v : ℕ) (z : ℤ) → offset_digit v ≡ true → moved_to size v z ≡ (around z + onward size v) % 2654208000
  unfolding moved_to onward
  moved_on v z h = elim (digit_ways v h) [
    | inl a ↦ rw (lt-ltb v 8 a) (around_on z (v * size))
    | inr a ↦ (let l : 10 ≤ v = a.0 in let u : v ≤ 16 = a.1 in
        rw (le-ltb v 8 (omega arith), neg_mul (v - 9) size)
        (on_back z ((v - 9) * size) (at_least_one (v - 9) (omega arith)) (up_to_seven (v - 9) (omega arith))))
  ]

  -- away from the poles a moved number is the sum itself
  pub moved_sum : (v : ℕ) (z : ℤ) → offset_digit v ≡ true → index z < 648806400 → moved size v z ≡ z +ℤ offset v *ℤ pos size
  unfolding moved_to
  moved_sum v z h i = elim (digit_ways v h) [
    | inl a ↦ (let u : v * size ≤ 57344 = up_to_seven v (omega arith) in
        let e : index (z +ℤ pos (v * size)) ≤ index z + v * size = index_forward z (v * size) in
        rw (lt-ltb v 8 a) (longitude_at_around (z +ℤ pos (v * size)) (omega arith)))
    | inr a ↦ (let l : 10 ≤ v = a.0 in
        let r : v ≤ 16 = a.1 in
        let u : (v - 9) * size ≤ 57344 = up_to_seven (v - 9) (omega arith) in
        let e : index (z +ℤ neg_ℤ (pos ((v - 9) * size))) ≤ index z + (v - 9) * size = index_back z ((v - 9) * size) in
        rw (le-ltb v 8 (omega arith), neg_mul (v - 9) size) (longitude_at_around (z +ℤ neg_ℤ (pos ((v - 9) * size))) (omega arith)))
  ]

  -- a digit that is read and written again
  pub span_of_moved : (v : ℕ) (a b : ℤ) → offset_digit v ≡ true → around b ≡ moved_to size v a → span_of size a b ≡ v
  unfolding onward between span_in
  span_of_moved v a b h e = elim (digit_ways v h) [
    | inl l ↦ (let p = v * size in
        let hp : p ≤ 57344 = up_to_seven v (omega arith) in
        let f : onward size v ≡ p = rw (lt-ltb v 8 l) refl in
        let m : around b ≡ (around a + p) % 2654208000 = e ∙ moved_on v a h ∙ ap (λ (x : ℕ). (around a + x) % 2654208000) f in
        let r : around a < 2654208000 = around_below a in
        let d : (around b + (2654208000 - around a)) % 2654208000 ≡ p = omega arith in
        rw (d, mul-div_left v {n = size} some, lt-ltb v 8 l) refl)
    | inr l ↦ (let q = (v - 9) * size in
        let lo : 10 ≤ v = l.0 in
        let hi : v ≤ 16 = l.1 in
        let hq : q ≤ 57344 = up_to_seven (v - 9) (omega arith) in
        let sq : 0 < q = at_least_one (v - 9) (omega arith) in
        let f : onward size v ≡ 2654208000 - q = rw (le-ltb v 8 (omega arith)) refl in
        let m : around b ≡ (around a + (2654208000 - q)) % 2654208000 = e ∙ moved_on v a h ∙ ap (λ (x : ℕ). (around a + x) % 2654208000) f in
        let r : around a < 2654208000 = around_below a in
        let d : (around b + (2654208000 - around a)) % 2654208000 ≡ 2654208000 - q = omega arith in
        let g : 8 ≤ (2654208000 - q) / size = (le-div_iff_mul-le some).1 (omega arith) in
        let k : 2654208000 - (2654208000 - q) ≡ q = omega arith in
        rw (d, le-ltb ((2654208000 - q) / size) 8 g, k, mul-div_left (v - 9) {n = size} some) (omega arith))
  ]

  -- the digit of whole cells stands for as many units
  span_whole : size ∣ 2654208000 → (d : ℕ) → size ∣ d → d < 2654208000 → span_in size d ≤ 16 → (offset_digit (span_in size d) ≡ true) × (onward size (span_in size d) ≡ d)
  unfolding onward span_in
  span_whole turn d w l h = go (ltb (d / size) 8) refl
    where
      go : (q : Bool) → ltb (d / size) 8 ≡ q → (offset_digit (span_in size d) ≡ true) × (onward size (span_in size d) ≡ d)
      go true e = (rw (e, e) refl, rw (e, e) (div-mul_cancel size w))
      go false e =
          let k = (2654208000 - d) / size in
          let m : size ∣ 2654208000 - d = dvd-sub size turn w in
          let f : span_in size d ≡ 9 + k = rw e refl in
          let one : 1 ≤ k = (le-div_iff_mul-le some).1 (let z : size ≤ 2654208000 - d = le_of_dvd (omega arith) m in omega arith) in
          let c : k * size ≡ 2654208000 - d = div-mul_cancel size m in
          let g : 9 + k - 9 ≡ k = omega arith in
          let u : 9 + k ≤ 16 = subst (λ (x : ℕ). x ≤ 16) f h in
          rw f (rw (le-ltb (9 + k) 8 (omega arith), le-leb 10 (9 + k) (omega arith), le-leb (9 + k) 16 u, g, c) (refl, omega arith))

  onward_whole : (v : ℕ) → size ∣ 2654208000 → size ∣ onward size v
  unfolding onward
  onward_whole v turn = go (ltb v 8)
    where
      go : (q : Bool) → size ∣ cond q (v * size) (2654208000 - (v - 9) * size)
      go true = dvd-mul_left size v
      go false = dvd-sub size turn (dvd-mul_left size (v - 9))

  -- from whole cells an offset leads to whole cells
  pub moved_whole : (v : ℕ) (z : ℤ) → size ∣ 2654208000 → size ∣ around z → offset_digit v ≡ true → size ∣ moved_to size v z
  moved_whole v z turn w h = rw (moved_on v z h) ((dvd-mod_iff size turn).1 (dvd-add size w (onward_whole v turn)))

  module _ (turn : size ∣ 2654208000) (a b : ℤ) (ha : size ∣ around a) (hb : size ∣ around b) where
    -- the units between two numbers of whole cells are whole cells
    pub between_whole : size ∣ between a b
    unfolding between
    between_whole = (dvd-mod_iff size turn).1 (dvd-add size hb (dvd-sub size turn ha))

    -- fewer than one cell are none
    pub between_none : index a < 1327104000 → index b < 1327104000 → between a b < size → a ≡ b
    unfolding between
    between_none p q h =
        let c : between a b / size * size ≡ between a b = div-mul_cancel size between_whole in
        let z : between a b / size ≡ 0 = div-eq_of_lt h in
        let n : 0 * size ≡ between a b = subst (λ (x : ℕ). x * size ≡ between a b) z c in
        let m : (around b + (2654208000 - around a)) % 2654208000 ≡ 0 = sym n ∙ zero-mul size in
        let r : around a < 2654208000 = around_below a in
        let s : around b < 2654208000 = around_below b in
        around_one a b p q (omega arith)

    -- a digit that is written and read again
    pub span_leads : span_of size a b ≤ 16 → (offset_digit (span_of size a b) ≡ true) × (moved_to size (span_of size a b) a ≡ around b)
    unfolding between
    span_leads h =
        let r : around a < 2654208000 = around_below a in
        let s : around b < 2654208000 = around_below b in
        let d : between a b < 2654208000 = omega arith in
        let w = span_whole turn (between a b) between_whole d h in
        let m : moved_to size (span_of size a b) a ≡ (around a + between a b) % 2654208000 = moved_on (span_of size a b) a w.0 ∙ ap (λ (x : ℕ). (around a + x) % 2654208000) w.1 in
        (w.0, omega arith)

-- ---- numbers that stand within so many of another

pub within_between : (a b : ℤ) (n : ℕ) → index a < 1327104000 → index b < 1327104000 → Within a n b → between a b < n
unfolding between
within_between (pos a) (pos b) n p q w = omega (arith, w.starts, w.ends)
within_between (pos a) (negsuc b) n p q w = omega (arith, w.starts, w.ends)
within_between (negsuc a) (pos b) n p q w = omega (arith, w.starts, w.ends)
within_between (negsuc a) (negsuc b) n p q w = omega (arith, w.starts, w.ends)
