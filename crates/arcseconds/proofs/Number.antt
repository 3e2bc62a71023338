-- Refusal 11, and how the answer goes on from there.
-- Assumes nothing.
use mathlib.Core.Path.{◌≡◌, refl, sym, ◌∙◌, subst}
use mathlib.Core.Bool.{Bool, true, false, not, ◌||◌}
use Prim.Native.Nat.{ℕ}
use lib.IntN.{ℤ}
use lib.Dec.{T}
use lib.Ieee.{Float, is_nan}
use lib.Ieee.Bits.{is_true}
use Rattle.std.proofs.Common.{Option, Some, None, Result, Ok, Err, ok_or}
use Rattle.grid.specs.declared.Refusal.{Refusal}
use Rattle.grid.specs.Units.{HALF, QUARTER}
use Rattle.grid.specs.Answers.{Answer, accepted, refused, refusal, unless}
use Rattle.grid.proofs.Cut.{clash}
use Rattle.arcseconds.specs.Readings.{reading_of, units_at, units_of}
use Rattle.arcseconds.specs.inner.Axis.{reading_answer}

-- what `is_nan` said no to is a number
pub no_nan : (x : Float) {q : Bool} → q ≡ is_nan x → q ≡ false → T (not (is_nan x))
no_nan x e f = subst (λ (b : Bool). T (not b)) (sym f ∙ e) tt

-- the answer, given whether either is not a number and what each reading comes to
pub decided : (x y : Float) (q : Bool) (a b : Answer ℤ) → (is_nan x || is_nan y) ≡ q → reading_of 2 HALF x ≡ a → reading_of 3 QUARTER y ≡ b → units_of x y ≡ unless (not q) (refusal 11 0) (units_at a b)
unfolding units_of
decided x y q a b e f g = rw (e, f, g)

pub is_eleven : (x y : Float) → T (is_nan x || is_nan y) → units_of x y ≡ refused (refusal 11 0)
is_eleven x y t = decided x y true _ _ (is_true _ t) refl refl

-- the first of the two is not a number, or the second
pub first_nan : (x y : Float) → is_nan x ≡ true → units_of x y ≡ refused (refusal 11 0)
first_nan x y h = is_eleven x y (subst (λ (q : Bool). T (q || is_nan y)) (sym h) tt)

pub second_nan : (x y : Float) → is_nan y ≡ true → units_of x y ≡ refused (refusal 11 0)
second_nan x y h = is_eleven x y (subst (λ (q : Bool). T (is_nan x || q)) (sym h) (either (is_nan x)))
  where
    either : (q : Bool) → T (q || true)
    either true = tt
    either false = tt

-- what `ok_or` makes of one reading's answer: its units, or the refusal
pub found : (n : ℕ) (o : Option ℤ) (q : Refusal) {r : Result ℤ Refusal} (u : ℤ) → r ≡ ok_or o q → r ≡ Ok u → reading_answer n o ≡ accepted u
found n (Some v) q u e f = let g : ◌≡◌ {A = Result ℤ Refusal} (Ok v) (Ok u) = sym e ∙ f in cc
found n None q u e f = clash (let g : ◌≡◌ {A = Result ℤ Refusal} (Err q) (Ok u) = sym e ∙ f in cc)

pub outside : (n : ℕ) (o : Option ℤ) (q s : Refusal) {r : Result ℤ Refusal} → r ≡ ok_or o q → r ≡ Err s → q ≡ refusal n 0 → (reading_answer n o ≡ refused (refusal n 0)) × (s ≡ refusal n 0)
outside n (Some v) q s e f g = clash (let h : ◌≡◌ {A = Result ℤ Refusal} (Ok v) (Err s) = sym e ∙ f in cc)
outside n None q s e f g = let h : ◌≡◌ {A = Result ℤ Refusal} (Err q) (Err s) = sym e ∙ f in (refl, cc)
