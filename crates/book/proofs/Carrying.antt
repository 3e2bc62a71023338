-- What is written is what is said to be left of the book: where a record is used, and where none is.
-- Assumes nothing.
use mathlib.Core.Path.{◌≡◌, refl, sym, subst}
use Prim.Native.Nat.{ℕ, ◌<◌, ◌≤◌}
use mathlib.Core.List.{List}
use lib.Dec.{leb}
use lib.ListN.{length, set}
use lib.Seq.{get_or-set_same}
use borrow.Author.Tests.{le-leb}
use Rattle.std.specs.Prelude.{Ok, Err}
use Rattle.grid.specs.declared.Refusal.{Refusal}
use Rattle.grid.specs.Answers.{Answer, accepted, refused, refusal}
use Rattle.grid.proofs.Answers.{unless_accepted}
use Rattle.grid.proofs.Cut.{clash}
use Rattle.reservations.specs.declared.Reservation.{Reservation}
use Rattle.book.specs.declared.Task.{Task}
use Rattle.book.specs.declared.Task.TheVariants.{Add, Release}
use Rattle.book.specs.Asking.{Ask, blank}
use Rattle.book.proofs.Reasons.{added_free, released_flies}
use Rattle.book.specs.Book.{record_at, asked, answer_to, becomes, leaves, carried, used_in}

-- what a call hands back: the answer, the record used, and the book
abbrev pub Carried : Ask → List Reservation → Answer ℕ → Reservation → List Reservation → Type 0
Carried q book x r zs = (x ≡ (carried q book).0) × (r ≡ used_in (carried q book)) × (zs ≡ (carried q book).1)

module _ (q : Ask) (book : List Reservation) where
  -- a refusal uses no record, and leaves the book
  pub carried_refused : (e : Refusal) → answer_to q book ≡ refused e → Carried q book (refused e) blank book
  unfolding carried
  carried_refused e a = subst (λ (x : Answer ℕ). (refused e ≡ x) × (blank ≡ used_in (x, leaves q x book)) × (book ≡ leaves q x book)) (sym a) (refl, refl, refl)

  -- the record at the place becomes what it is said to become
  pub carried_used : (k : ℕ) → answer_to q book ≡ accepted k → k < length book → (r : Reservation) → r ≡ becomes q (record_at book k) → Carried q book (accepted k) r (set book k r)
  unfolding carried
  carried_used k a l r e =
      subst (λ (x : Answer ℕ). (accepted k ≡ x) × (r ≡ used_in (x, leaves q x book)) × (set book k r ≡ leaves q x book)) (sym a)
      (rw e (refl, sym (get_or-set_same book k (becomes q (record_at book k)) blank l), refl))

-- in a book that is not too long: what the call is refused already, else by the task
pub answer_refused : (q : Ask) (book : List Reservation) → length book ≤ 256 → (e : Refusal) → q ≡ Err e → answer_to q book ≡ refused e
unfolding answer_to
answer_refused q book l e w = rw (w, le-leb (length book) 256 l) refl

pub answer_asked : (q : Ask) (book : List Reservation) → length book ≤ 256 → (t : Task) → q ≡ Ok t → {x : Answer ℕ} → x ≡ asked t book → answer_to q book ≡ x
unfolding answer_to
answer_asked q book l t w e = rw (w, le-leb (length book) 256 l) (sym e)

-- the place that is answered is inside the book
answered_inside : (q : Ask) (book : List Reservation) (k : ℕ) → answer_to q book ≡ accepted k → k < length book
unfolding answer_to carried
answered_inside (Ok (Add a)) book k e = (added_free (accepted a) book k e).1.inside
answered_inside (Ok (Release flight)) book k e = (released_flies flight book k e).live.inside
answered_inside (Err r) book k e = clash (let f : ◌≡◌ {A = Answer ℕ} (refused r) (accepted k) = (unless_accepted (leb (length book) 256) (refusal 19 0) (refused r) k e).1 in cc)

pub asked_inside : (t : Task) (book : List Reservation) (k : ℕ) → length book ≤ 256 → asked t book ≡ accepted k → k < length book
asked_inside t book k l e = answered_inside (Ok t) book k (answer_asked (Ok t) book l t refl (sym e))
