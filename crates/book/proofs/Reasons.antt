-- Each answer has its reason, and each reason its answer.
-- Assumes nothing.
use mathlib.Core.Path.{◌≡◌, refl, sym, ◌∙◌, ap, subst}
use mathlib.Core.Logic.{◌↔◌}
use mathlib.Core.Bool.{Bool, true, false, false≢true}
use Prim.Native.Nat.{ℕ, ◌<◌, ◌≤◌}
use native.Mathlib.Omega.{arith}
use mathlib.Core.List.{List}
use lib.Dec.{ltb, leb}
use lib.ListN.{length}
use borrow.Author.Tests.{ltb-true, ltb-false, leb-true, leb-false, lt-ltb, le-ltb, le-leb, lt-leb}
use Rattle.grid.specs.Answers.{Answer, accepted, refused, refusal, unless}
use Rattle.grid.proofs.Answers.{accepted_inj}
use Rattle.grid.proofs.Cut.{clash}
use Rattle.reservations.specs.declared.Reservation.{Reservation}
use Rattle.book.specs.declared.Task.TheVariants.{Add}
use Rattle.book.specs.Asking.{to_add, to_release}
use Rattle.book.specs.Book.{record_at, free, flies, conflicting, first_with, add_at, release_at, asked, answer_to, carried}
use Rattle.book.specs.Reasons.{FliesAt, ConflictAt, FreeAt, Nowhere, First, Ready, WhyAdd, add_too_long, no_record, already, conflict, full, added, WhyRelease, release_too_long, not_live, released}
use Rattle.book.proofs.Ways.{answer_long}
use Rattle.book.proofs.Places.{first_holds, first_before, first_at_most, first_past}
use Rattle.book.proofs.Tells.{Tells, flies_tells, conflict_tells, free_tells}

-- ---- the first place

module _ {p : Reservation → Bool} {book : List Reservation} {P : ℕ → Type 0} (t : Tells p book P) where
  pub first_is : first_with p book < length book → First P (first_with p book)
  first_is l =
      record {
        holds = t.says (first_with p book) l (first_holds p book l);
        before = λ j h f. false≢true (sym (first_before p book j h) ∙ t.passes j f);
      }

  pub nowhere_is : length book ≤ first_with p book → Nowhere P
  nowhere_is l k f = let h : first_with p book ≤ k = first_at_most p book k (t.passes k f) in let i : k < length book = t.inside k f in absurd (omega (arith, l))

  pub is_inside : (k : ℕ) → P k → first_with p book < length book
  is_inside k f = let h : first_with p book ≤ k = first_at_most p book k (t.passes k f) in let i : k < length book = t.inside k f in omega arith

  pub is_first : (k : ℕ) → First P k → first_with p book ≡ k
  is_first k f =
      let h : first_with p book ≤ k = first_at_most p book k (t.passes k f.holds) in
      let l : first_with p book < length book = is_inside k f.holds in
      go (ltb (first_with p book) k) refl h l
    where
      go : (b : Bool) → ltb (first_with p book) k ≡ b → first_with p book ≤ k → first_with p book < length book → first_with p book ≡ k
      go true e h l = absurd (f.before (first_with p book) (ltb-true _ _ e) (t.says (first_with p book) l (first_holds p book l)))
      go false e h l = let g : k ≤ first_with p book = ltb-false _ _ e in omega arith

  pub is_nowhere : Nowhere P → length book ≤ first_with p book
  is_nowhere none = let h : first_with p book ≡ length book = first_past p book (λ k l. go k l (p (record_at book k)) refl) in omega arith
    where
      go : (k : ℕ) → k < length book → (b : Bool) → p (record_at book k) ≡ b → p (record_at book k) ≡ false
      go k l true e = absurd (none k (t.says k l e))
      go k l false e = e

-- ---- adding

module _ (a : Reservation) (book : List Reservation) where
  abbrev same : ℕ
  same = first_with (flies a.flight) book

  abbrev conflict_place : ℕ
  conflict_place = first_with (conflicting a) book

  abbrev free_place : ℕ
  free_place = first_with free book

  abbrev f : Tells (flies a.flight) book (FliesAt a.flight book)
  f = flies_tells book a.flight

  abbrev c : Tells (conflicting a) book (ConflictAt a book)
  c = conflict_tells book a

  why_at : length book ≤ 256 → WhyAdd (accepted a) book (add_at (length book) same conflict_place free_place)
  unfolding add_at
  why_at short = go (leb (length book) same) refl (leb (length book) conflict_place) refl (ltb free_place (length book)) refl
    where
      ready : Ready (accepted a) book a
      ready = record { short = short; record_is = refl }

      go : (x : Bool) → leb (length book) same ≡ x → (y : Bool) → leb (length book) conflict_place ≡ y → (z : Bool) → ltb free_place (length book) ≡ z
          → WhyAdd (accepted a) book (add_at (length book) same conflict_place free_place)
      go false ex y ey z ez = rw ex (already a ready same (first_is f (leb-false _ _ ex)).holds)
      go true ex false ey z ez = rw (ex, ey) (conflict a ready (nowhere_is f (leb-true _ _ ex)) conflict_place (first_is c (leb-false _ _ ey)))
      go true ex true ey false ez = rw (ex, ey, ez) (full a ready (nowhere_is f (leb-true _ _ ex)) (nowhere_is c (leb-true _ _ ey)) (nowhere_is (free_tells book) (ltb-false _ _ ez)))
      go true ex true ey true ez = rw (ex, ey, ez) (added a ready (nowhere_is f (leb-true _ _ ex)) (nowhere_is c (leb-true _ _ ey)) free_place (first_is (free_tells book) (ltb-true _ _ ez)))

  -- what is answered where the tests are known
  module _ (s : length book ≤ 256) where
    so_already : same < length book → answer_to (to_add (accepted a)) book ≡ refused (refusal 15 0)
    unfolding answer_to add_at
    so_already l = rw (le-leb (length book) 256 s, lt-leb (length book) same l) refl

    module _ (n : length book ≤ same) where
      so_conflict : conflict_place < length book → answer_to (to_add (accepted a)) book ≡ refused (refusal 16 conflict_place)
      unfolding answer_to add_at
      so_conflict l = rw (le-leb (length book) 256 s, le-leb (length book) same n, lt-leb (length book) conflict_place l) refl

      module _ (m : length book ≤ conflict_place) where
        so_full : length book ≤ free_place → answer_to (to_add (accepted a)) book ≡ refused (refusal 17 0)
        unfolding answer_to add_at
        so_full l = rw (le-leb (length book) 256 s, le-leb (length book) same n, le-leb (length book) conflict_place m, le-ltb free_place (length book) l) refl

        so_added : free_place < length book → answer_to (to_add (accepted a)) book ≡ accepted free_place
        unfolding answer_to add_at
        so_added l = rw (le-leb (length book) 256 s, le-leb (length book) same n, le-leb (length book) conflict_place m, lt-ltb free_place (length book) l) refl

module _ (made : Answer Reservation) (book : List Reservation) where
  why_add : (made : Answer Reservation) → WhyAdd made book (answer_to (to_add made) book)
  unfolding answer_to
  why_add (accepted a) = go (leb (length book) 256) refl
    where
      go : (x : Bool) → leb (length book) 256 ≡ x → WhyAdd (accepted a) book (unless x (refusal 19 0) (asked (Add a) book))
      go true e = why_at a book (leb-true _ _ e)
      go false e = add_too_long (leb-false _ _ e)
  why_add (refused r) = go (leb (length book) 256) refl
    where
      go : (x : Bool) → leb (length book) 256 ≡ x → WhyAdd (refused r) book (unless x (refusal 19 0) (refused r))
      go true e = no_record (leb-true _ _ e) r refl
      go false e = add_too_long (leb-false _ _ e)

  -- the record to add is known
  known : (a : Reservation) → Ready made book a → {x : Answer ℕ} → answer_to (to_add (accepted a)) book ≡ x → answer_to (to_add made) book ≡ x
  known a y e = ap (λ (m : Answer Reservation). answer_to (to_add m) book) y.record_is ∙ e

  so_add : (x : Answer ℕ) → WhyAdd made book x → answer_to (to_add made) book ≡ x
  unfolding answer_to
  so_add x (add_too_long l) = answer_long (to_add made) book l
  so_add x (no_record s r e) = ap (λ (m : Answer Reservation). answer_to (to_add m) book) e ∙ (rw (le-leb (length book) 256 s) refl)
  so_add x (already a y k w) = known a y (so_already a book y.short (is_inside (flies_tells book a.flight) k w))
  so_add x (conflict a y m k w) =
      known a y (so_conflict a book y.short (is_nowhere (flies_tells book a.flight) m) (is_inside (conflict_tells book a) k w.holds) ∙ ap (λ (j : ℕ). refused (refusal 16 j)) (is_first (conflict_tells book a) k w))
  so_add x (full a y m w o) =
      known a y (so_full a book y.short (is_nowhere (flies_tells book a.flight) m) (is_nowhere (conflict_tells book a) w) (is_nowhere (free_tells book) o))
  so_add x (added a y m w k o) =
      known a y (so_added a book y.short (is_nowhere (flies_tells book a.flight) m) (is_nowhere (conflict_tells book a) w) (is_inside (free_tells book) k o.holds) ∙ ap accepted (is_first (free_tells book) k o))

  -- each answer to adding exactly when its reason holds, and none before it
  pub added_exactly_when : (x : Answer ℕ) → ((carried (to_add made) book).0 ≡ x) ↔ WhyAdd made book x
  unfolding carried
  added_exactly_when x = (λ e. subst (WhyAdd made book) e (why_add made), so_add x)

-- ---- releasing

module _ (flight : ℕ) (book : List Reservation) where
  abbrev g : Tells (flies flight) book (FliesAt flight book)
  g = flies_tells book flight

  why_release : WhyRelease flight book (answer_to (to_release flight) book)
  unfolding answer_to release_at
  why_release = go (leb (length book) 256) refl (ltb (first_with (flies flight) book) (length book)) refl
    where
      go : (x : Bool) → leb (length book) 256 ≡ x → (y : Bool) → ltb (first_with (flies flight) book) (length book) ≡ y
          → WhyRelease flight book (unless x (refusal 19 0) (unless y (refusal 18 0) (accepted (first_with (flies flight) book))))
      go false e y ey = release_too_long (leb-false _ _ e)
      go true e false ey = not_live (leb-true _ _ e) (nowhere_is g (ltb-false _ _ ey))
      go true e true ey = released (leb-true _ _ e) (first_with (flies flight) book) (first_is g (ltb-true _ _ ey))

  so_release : (x : Answer ℕ) → WhyRelease flight book x → answer_to (to_release flight) book ≡ x
  unfolding answer_to release_at
  so_release x (release_too_long l) = answer_long (to_release flight) book l
  so_release x (not_live s m) = rw (le-leb (length book) 256 s, le-ltb (first_with (flies flight) book) (length book) (is_nowhere g m)) refl
  so_release x (released s k w) = rw (le-leb (length book) 256 s, lt-ltb (first_with (flies flight) book) (length book) (is_inside g k w.holds), is_first g k w) refl

  -- each answer to releasing exactly when its reason holds, and none before it
  pub released_exactly_when : (x : Answer ℕ) → ((carried (to_release flight) book).0 ≡ x) ↔ WhyRelease flight book x
  unfolding carried
  released_exactly_when x = (λ e. subst (WhyRelease flight book) e why_release, so_release x)

-- ---- the record that a call uses

-- adding uses one that is not live
pub added_free : (made : Answer Reservation) (book : List Reservation) (j : ℕ) → (carried (to_add made) book).0 ≡ accepted j → (length book ≤ 256) × FreeAt book j
added_free made book j e = go (accepted j) ((added_exactly_when made book (accepted j)).0 e) refl
  where
    go : (x : Answer ℕ) → WhyAdd made book x → x ≡ accepted j → (length book ≤ 256) × FreeAt book j
    go x (add_too_long l) f = clash (cc)
    go x (no_record s r g) f = clash (cc)
    go x (already b y i w) f = clash (cc)
    go x (conflict b y m i w) f = clash (cc)
    go x (full b y m w o) f = clash (cc)
    go x (added b y m w i o) f = (y.short, subst (FreeAt book) (accepted_inj f) o.holds)

-- releasing uses one of the flight
pub released_flies : (flight : ℕ) (book : List Reservation) (j : ℕ) → (carried (to_release flight) book).0 ≡ accepted j → FliesAt flight book j
released_flies flight book j e = go (accepted j) ((released_exactly_when flight book (accepted j)).0 e) refl
  where
    go : (x : Answer ℕ) → WhyRelease flight book x → x ≡ accepted j → FliesAt flight book j
    go x (release_too_long l) f = clash (cc)
    go x (not_live s m) f = clash (cc)
    go x (released s i w) f = subst (FliesAt flight book) (accepted_inj f) w.holds
