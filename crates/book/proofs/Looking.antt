-- What looking at one record says of it, and what is answered once all that decide have been seen.
-- Assumes nothing.
use mathlib.Core.Path.{◌≡◌, refl, sym, ◌∙◌, ap}
use mathlib.Core.Bool.{Bool, true, false, cond, and-false}
use Prim.Native.Nat.{ℕ, ◌<◌, ◌≤◌}
use native.Mathlib.Omega.{arith}
use mathlib.Core.List.{List}
use lib.Dec.{ltb}
use lib.ListN.{length}
use borrow.Author.Tests.{eq-eqb, ne_eqb, ltb-true, ltb-false}
use Rattle.std.specs.Prelude.{Option, Some, None, position}
use Rattle.std.specs.Option.{ok_or}
use Rattle.grid.specs.declared.Refusal.{Refusal}
use Rattle.grid.specs.Answers.{accepted, refused, refusal, answer_of}
use Rattle.grid.proofs.Cut.{and_make}
use Rattle.reservations.specs.declared.Reservation.{Reservation}
use Rattle.reservations.specs.Meeting.{conflict_test}
use Rattle.book.specs.declared.Task.TheVariants.{Add, Release}
use Rattle.book.specs.Book.{live, free, flies, conflicting, record_at, first_with, asked}
use Rattle.book.proofs.Places.{FirstSoFar, first_known, first_at_most, first_past, first_there}
use Rattle.book.proofs.Ways.{add_same, add_conflict, add_used, add_full, release_used, release_not}

-- neither of the flight nor in conflict, as far as it is live
pub record Passed (a r : Reservation) : Type 0 where
  pub other_flight : flies a.flight r ≡ false
  pub no_conflict : conflicting a r ≡ false

-- ---- one record

module _ (a r : Reservation) where
  pub dead_passed : live r ≡ false → Passed a r
  dead_passed e = record { other_flight = rw e refl; no_conflict = rw e refl }

  pub live_passed : (a.flight ≡ r.flight → ⊥) → conflict_test a r ≡ false → Passed a r
  live_passed f t = record { other_flight = rw (ne_eqb a.flight r.flight f) (and-false (live r)); no_conflict = rw t (and-false (live r)) }

  pub flown : live r ≡ true → a.flight ≡ r.flight → flies a.flight r ≡ true
  flown l e = and_make _ _ l (eq-eqb a.flight r.flight e)

-- ---- what is answered

module _ (a : Reservation) (book : List Reservation) where
  -- 15: a record has the flight
  pub says_15 : (k : ℕ) → k < length book → flies a.flight (record_at book k) ≡ true → {e : Refusal} → e ≡ refusal 15 0 → refused e ≡ asked (Add a) book
  says_15 k l t g = let h : first_with (flies a.flight) book ≤ k = first_at_most (flies a.flight) book k t in add_same _ _ _ _ (omega arith) g

  module _ (i : ℕ) (passed : (k : ℕ) → k < i → Passed a (record_at book k)) where
    -- 16: the record at i is in conflict, and none from there on has the flight
    pub says_16 : i < length book → conflicting a (record_at book i) ≡ true → ((k : ℕ) → i ≤ k → k < length book → flies a.flight (record_at book k) ≡ false)
        → {e : Refusal} → e ≡ refusal 16 i → refused e ≡ asked (Add a) book
    says_16 l t rest g =
        let s : first_with (flies a.flight) book ≡ length book = first_past (flies a.flight) book (λ k h. go k h (ltb k i) refl) in
        let c : first_with (conflicting a) book ≡ i = first_there (conflicting a) book i l t (λ j h. (passed j h).no_conflict) in
        add_conflict _ _ _ _ (omega arith) (omega arith) (rw c g)
      where
        go : (k : ℕ) → k < length book → (b : Bool) → ltb k i ≡ b → flies a.flight (record_at book k) ≡ false
        go k h true e = (passed k (ltb-true _ _ e)).other_flight
        go k h false e = rest k (ltb-false _ _ e) h

    -- all records are passed by, and the first place not live is known
    module _ (l : length book ≤ i) (f : ℕ) (known : FirstSoFar free book i f) where
      s : first_with (flies a.flight) book ≡ length book
      s = first_past (flies a.flight) book (λ k h. (passed k (omega arith)).other_flight)

      c : first_with (conflicting a) book ≡ length book
      c = first_past (conflicting a) book (λ k h. (passed k (omega arith)).no_conflict)

      first : first_with free book ≡ f
      first = first_known known l

      -- that place
      pub says_used : f < length book → accepted f ≡ asked (Add a) book
      says_used h = ap accepted (sym first) ∙ add_used _ _ _ _ (omega (arith, s)) (omega (arith, c)) (omega (arith, first))

      -- 17
      pub says_17 : length book ≤ f → {e : Refusal} → e ≡ refusal 17 0 → refused e ≡ asked (Add a) book
      says_17 h g = add_full _ _ _ _ (omega (arith, s)) (omega (arith, c)) (omega (arith, first)) g

-- 18, or the first place of the flight
pub says_release : (flight : ℕ) (book : List Reservation) (o : Option ℕ) → o ≡ position (flies flight) book → {e : Refusal} → e ≡ refusal 18 0 → answer_of (ok_or o e) ≡ asked (Release flight) book
says_release flight book o f {e} g = rw f (go (ltb (first_with (flies flight) book) (length book)) refl)
  where
    go : (b : Bool) → ltb (first_with (flies flight) book) (length book) ≡ b → answer_of (ok_or (cond b (Some (first_with (flies flight) book)) None) e) ≡ asked (Release flight) book
    go true t = release_used _ _ 0 0 (ltb-true _ _ t)
    go false t = release_not _ _ 0 0 (ltb-false _ _ t) g
