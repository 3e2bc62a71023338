-- What one reading comes to, in the terms of the comparisons, and that an exact u / 2048 reads as u.
-- Assumes nothing.
use mathlib.Core.Path.{◌≡◌, refl, sym, ap, ap₂, ◌∙◌, subst}
use mathlib.Core.Bool.{Bool, true, false, not, ◌||◌}
use mathlib.Core.Logic.{◌⊎◌, inl, inr}
use Prim.Native.Nat.{ℕ, suc, ◌-◌, ◌*◌, ◌/◌, ◌≤◌}
use native.Mathlib.Nat.{mul_comm, mul-le-mul_right, not-le_of_lt}
use native.Mathlib.Omega.{arith}
use borrow.Author.Tests.{leb-true, leb-false, le-leb}
use lib.IntN.{ℤ, pos, negsuc, nat_abs}
use lib.Dec.{T, leb, lit<}
use lib.Ieee.{Float, nan, inf, fin, up, down, is_nan}
use lib.Ieee.Fits.{down_pos}
use lib.Ieee.Bits.{is_false}
use Rattle.grid.specs.Units.{HALF, QUARTER, side}
use Rattle.grid.specs.Answers.{Answer, accepted, refused, refusal, unless}
use Rattle.grid.proofs.Cut.{clash}
use Rattle.arcseconds.specs.declared.Units.{Units}
use Rattle.arcseconds.specs.Readings.{greatest_whole, reading_of, units, units_at, units_of, Floors, ReadsIn, Beyond, Why, eleven, two, three, position}
use Rattle.arcseconds.specs.Boxes.{SecondsOf}
use Rattle.arcseconds.proofs.Whole.{whole_same, whole_is, whole_index, one_floor, size_within, within_size, times}
use Rattle.arcseconds.proofs.Number.{decided, is_eleven}

-- ---- one reading

module _ (k H : ℕ) where
  -- its whole units, which are the greatest not above it, where it lies in the range; or the refusal
  ways : (x : Float) → ((u : ℤ) × (reading_of k H x ≡ accepted u) × ReadsIn H x × Floors x u) ⊎ ((reading_of k H x ≡ refused (refusal k 0)) × Beyond H x)
  unfolding reading_of Floors ReadsIn
  ways nan = inr (refl, λ h. h)
  ways (inf s) = inr (refl, λ h. h)
  ways (fin s m e) = go (leb n (H * down e)) refl
    where
      n : ℕ
      n = 2048 * (m * up e)

      w : ℤ
      w = greatest_whole s n (down e)

      go : (q : Bool) → leb n (H * down e) ≡ q
          → ((u : ℤ) × (unless (leb n (H * down e)) (refusal k 0) (accepted w) ≡ accepted u) × ReadsIn H (fin s m e) × Floors (fin s m e) u)
          ⊎ ((unless (leb n (H * down e)) (refusal k 0) (accepted w) ≡ refused (refusal k 0)) × Beyond H (fin s m e))
      go true l = inl (w, rw l refl, size_within s n (H * down e) (leb-true n (H * down e) l), whole_is s n (down e) (down_pos e))
      go false l = inr (rw l refl, λ h. not-le_of_lt (leb-false n (H * down e) l) (within_size s n (H * down e) h.0 h.1))

  -- a reading in the range has whole units
  reads_some : (x : Float) → ReadsIn H x → (u : ℤ) × (reading_of k H x ≡ accepted u)
  reads_some x r = elim (ways x) [
    | inl f ↦ (f.0, f.1)
    | inr f ↦ absurd (f.1 r)
  ]

  -- and they are no others
  pub reads_floor : (x : Float) (u : ℤ) → ReadsIn H x → Floors x u → reading_of k H x ≡ accepted u
  reads_floor x u r g = elim (ways x) [
    | inl f ↦ f.1 ∙ ap accepted (one_floor x f.0 u f.3 g)
    | inr f ↦ absurd (f.1 r)
  ]

  beyond_outside : (x : Float) → Beyond H x → reading_of k H x ≡ refused (refusal k 0)
  beyond_outside x b = elim (ways x) [
    | inl f ↦ absurd (b f.2)
    | inr f ↦ f.0
  ]

-- ---- both readings

-- whole units come from a number
whole_number : (k H : ℕ) (x : Float) (u : ℤ) → reading_of k H x ≡ accepted u → is_nan x ≡ false
unfolding reading_of is_nan
whole_number k H nan u h = clash (cc)
whole_number k H (inf s) u h = refl
whole_number k H (fin s m e) u h = refl

pub both_whole : (x y : Float) (u v : ℤ) → reading_of 2 HALF x ≡ accepted u → reading_of 3 QUARTER y ≡ accepted v → units_of x y ≡ accepted (units u v)
unfolding units_at
both_whole x y u v a b = decided x y false (accepted u) (accepted v) (ap₂ ◌||◌ (whole_number 2 HALF x u a) (whole_number 3 QUARTER y v b)) a b

-- what is answered has its reason
pub why : (x y : Float) → Why x y (units_of x y)
unfolding units_at
why x y = go (is_nan x || is_nan y) refl (ways 2 HALF x) (ways 3 QUARTER y)
  where
    go : (q : Bool) → (is_nan x || is_nan y) ≡ q
        → ((u : ℤ) × (reading_of 2 HALF x ≡ accepted u) × ReadsIn HALF x × Floors x u) ⊎ ((reading_of 2 HALF x ≡ refused (refusal 2 0)) × Beyond HALF x)
        → ((v : ℤ) × (reading_of 3 QUARTER y ≡ accepted v) × ReadsIn QUARTER y × Floors y v) ⊎ ((reading_of 3 QUARTER y ≡ refused (refusal 3 0)) × Beyond QUARTER y)
        → Why x y (units_of x y)
    go true e f g = rw (is_eleven x y (subst T (sym e) tt)) (eleven (subst T (sym e) tt))
    go false e (inr (f, b)) g = rw (decided x y false _ _ e f refl) (two (subst (λ (q : Bool). T (not q)) (sym e) tt) b)
    go false e (inl (u, f, i, l)) (inr (g, b)) = rw (decided x y false _ _ e f g) (three (subst (λ (q : Bool). T (not q)) (sym e) tt) i b)
    go false e (inl (u, f, i, l)) (inl (v, g, j, m)) = rw (both_whole x y u v f g) (position i j l m)

-- and what has its reason is answered
pub so : (x y : Float) (a : Answer Units) → Why x y a → units_of x y ≡ a
unfolding units_at
so x y _ (eleven t) = is_eleven x y t
so x y _ (two t b) = decided x y false (refused (refusal 2 0)) _ (is_false _ t) (beyond_outside 2 HALF x b) refl
so x y _ (three t r b) = let f = reads_some 2 HALF x r in decided x y false (accepted f.0) (refused (refusal 3 0)) (is_false _ t) f.1 (beyond_outside 3 QUARTER y b)
so x y _ (position {u} {v} i j f g) = both_whole x y u v (reads_floor 2 HALF x u i f) (reads_floor 3 QUARTER y v j g)

-- ---- an exact u / 2048 reads as u

whole_part : (n : ℕ) → 2048 * n / 2048 ≡ n
whole_part n = omega arith

before_whole : (n : ℕ) → (2048 * suc n - 1) / 2048 ≡ n
before_whole n = omega arith

whole_back : (u : ℤ) → greatest_whole (not (side u)) (2048 * nat_abs u) 2048 ≡ u
whole_back (pos n) = ap pos (whole_part n)
whole_back (negsuc n) = whole_index true (2048 * suc n) 2048 (omega arith) ∙ ap negsuc (before_whole n)

pub seconds_whole : (k H : ℕ) (u : ℤ) (x : Float) → nat_abs u ≤ H → SecondsOf u x → reading_of k H x ≡ accepted u
unfolding SecondsOf reading_of
seconds_whole k H u nan h v = absurd v
seconds_whole k H u (inf s) h v = absurd v
seconds_whole k H u (fin s m e) h v =
    ap (λ (t : Bool). unless t (refusal k 0) (accepted (greatest_whole s (2048 * (m * up e)) (down e)))) (le-leb (2048 * (m * up e)) (H * down e) reach)
    ∙ ap accepted (ap (λ (t : Bool). greatest_whole t (2048 * (m * up e)) (down e)) v.0 ∙ whole_same (not (side u)) (2048 * (m * up e)) (down e) (2048 * nat_abs u) 2048 (down_pos e) (lit< tt) (times (m * up e) (down e) (nat_abs u) 2048 v.1) ∙ whole_back u)
  where
    reach : 2048 * (m * up e) ≤ H * down e
    reach = subst (λ (n : ℕ). n ≤ H * down e) (sym (mul_comm 2048 (m * up e) ∙ v.1)) (mul-le-mul_right (down e) h)
