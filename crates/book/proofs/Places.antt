-- The first place of a book whose record passes a test: what it says of the records.
-- Assumes nothing.
use mathlib.Core.Path.{◌≡◌, refl, sym, ◌∙◌, ap}
use mathlib.Core.Bool.{Bool, true, false, false≢true}
use Prim.Native.Nat.{ℕ, ◌+◌, ◌-◌, ◌<◌, ◌≤◌, min}
use native.Mathlib.Omega.{arith}
use mathlib.Core.List.{List}
use lib.Dec.{ltb}
use lib.ListN.{length, take, drop}
use borrow.Author.Count.{below_more}
use borrow.Author.Tests.{ltb-true, ltb-false, lt-ltb}
use Rattle.std.specs.Prelude.{Some, None, position}
use Rattle.std.proofs.lemmas.List.Quantifiers.{position-Some}
use Rattle.std.proofs.lemmas.List.Sums.{position_or_len_is, prefix_len_passes}
use Rattle.std.proofs.lemmas.List.{take_all, length-drop}
use Rattle.std.proofs.lemmas.Bool.{not-true}
use Rattle.reservations.specs.declared.Reservation.{Reservation}
use Rattle.book.specs.Asking.{blank}
use Rattle.book.specs.Book.{record_at, first_with}

-- the part of a book from a place on
pub rest_is : (book : List Reservation) (i : ℕ) → drop i book ≡ take (length book - i) (drop i book)
rest_is book i = sym (take_all (length book - i) (drop i book) (omega (arith, length-drop i book)))

module _ (p : Reservation → Bool) (book : List Reservation) where
  pub first_holds : first_with p book < length book → p (record_at book (first_with p book)) ≡ true
  first_holds l = (position-Some p book (first_with p book) blank (rw (lt-ltb (first_with p book) (length book) l) refl)).1

  pub first_before : (j : ℕ) → j < first_with p book → p (record_at book j) ≡ false
  first_before j l = not-true _ (prefix_len_passes _ book j blank l)

  -- where some record passes, the first place is inside and not past it
  pub first_at_most : (k : ℕ) → p (record_at book k) ≡ true → first_with p book ≤ k
  first_at_most k t = go (ltb k (first_with p book)) refl
    where
      go : (b : Bool) → ltb k (first_with p book) ≡ b → first_with p book ≤ k
      go true e = absurd (false≢true (sym (first_before k (ltb-true _ _ e)) ∙ t))
      go false e = ltb-false _ _ e

  -- where none passes, the first place is past the end
  pub first_past : ((k : ℕ) → k < length book → p (record_at book k) ≡ false) → first_with p book ≡ length book
  first_past none = position_or_len_is p book (length book) blank (omega arith) none (λ l. absurd (omega (arith, l)))

  -- a record that passes, and none before it
  pub first_there : (k : ℕ) → k < length book → p (record_at book k) ≡ true → ((j : ℕ) → j < k → p (record_at book j) ≡ false) → first_with p book ≡ k
  first_there k l t none = position_or_len_is p book k blank (omega arith) none (λ h. t)

  -- none passes where there is no first place
  pub none_passes : position p book ≡ None → (k : ℕ) → k < length book → p (record_at book k) ≡ false
  none_passes e k l = go (ltb (first_with p book) (length book)) refl
    where
      go : (b : Bool) → ltb (first_with p book) (length book) ≡ b → p (record_at book k) ≡ false
      go true t = absurd (let f : position p book ≡ Some (first_with p book) = rw t refl in let g : Some (first_with p book) ≡ None = sym f ∙ e in cc)
      go false t = let h : length book ≤ first_with p book = ltb-false _ _ t in first_before k (omega arith)

  -- the record at the first place passes
  pub some_passes : (k : ℕ) → position p book ≡ Some k → (k < length book) × (p (record_at book k) ≡ true)
  some_passes k e = let s = position-Some p book k blank e in (s.0, s.1)

-- ---- what is known of the first place after some records

-- of i records f is the first whose record passes, or the count of the whole book where none does
pub record FirstSoFar (p : Reservation → Bool) (book : List Reservation) (i f : ℕ) : Type 0 where
  pub inside : f ≤ length book
  pub none_before : (k : ℕ) → k < i → k < f → p (record_at book k) ≡ false
  pub there : f < length book → p (record_at book f) ≡ true

module _ {p : Reservation → Bool} {book : List Reservation} {i f : ℕ} (known : FirstSoFar p book i f) where
  -- one record more, which passes
  pub one_passes : i < length book → p (record_at book i) ≡ true → {g : ℕ} → g ≡ min f i → FirstSoFar p book (i + 1) g
  one_passes l t {g} e =
      record {
        inside = omega (arith, known.inside);
        none_before = λ k h j. known.none_before k (omega arith) (omega arith);
        there = λ h. go h (ltb f i) refl;
      }
    where
      go : g < length book → (b : Bool) → ltb f i ≡ b → p (record_at book g) ≡ true
      go h true b = let x : f < i = ltb-true _ _ b in let y : g ≡ f = omega arith in ap (λ (k : ℕ). p (record_at book k)) y ∙ known.there (omega arith)
      go h false b = let x : i ≤ f = ltb-false _ _ b in let y : g ≡ i = omega arith in ap (λ (k : ℕ). p (record_at book k)) y ∙ t

  -- and which does not
  pub one_fails : p (record_at book i) ≡ false → {g : ℕ} → g ≡ f → FirstSoFar p book (i + 1) g
  one_fails t e = rw e (record { inside = known.inside; none_before = below_more _ _ known.none_before (λ h. t); there = known.there })

  -- once the whole book has been seen
  pub first_known : length book ≤ i → first_with p book ≡ f
  first_known l = position_or_len_is p book f blank known.inside (λ k h. known.none_before k (omega (arith, known.inside)) h) known.there
