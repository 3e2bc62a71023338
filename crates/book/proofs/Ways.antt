-- What the functions answer, for each way out of them.
-- Assumes nothing.
use mathlib.Core.Path.{◌≡◌, refl}
use Prim.Native.Nat.{ℕ, ◌<◌, ◌≤◌}
use mathlib.Core.List.{List}
use lib.ListN.{length}
use borrow.Author.Tests.{lt-ltb, le-ltb, le-leb, lt-leb}
use Rattle.grid.specs.declared.Refusal.{Refusal}
use Rattle.grid.specs.Answers.{accepted, refused, refusal}
use Rattle.reservations.specs.declared.Reservation.{Reservation}
use Rattle.book.specs.Asking.{Ask}
use Rattle.book.specs.Book.{add_at, release_at, answer_to}

-- ---- what is decided

module _ (n s c o : ℕ) where
  pub add_same : s < n → {e : Refusal} → e ≡ refusal 15 0 → refused e ≡ add_at n s c o
  unfolding add_at
  add_same l g = rw (g, lt-leb n s l) refl

  pub add_conflict : n ≤ s → c < n → {e : Refusal} → e ≡ refusal 16 c → refused e ≡ add_at n s c o
  unfolding add_at
  add_conflict l k g = rw (g, le-leb n s l, lt-leb n c k) refl

  pub add_used : n ≤ s → n ≤ c → o < n → accepted o ≡ add_at n s c o
  unfolding add_at
  add_used l k h = rw (le-leb n s l, le-leb n c k, lt-ltb o n h) refl

  pub add_full : n ≤ s → n ≤ c → n ≤ o → {e : Refusal} → e ≡ refusal 17 0 → refused e ≡ add_at n s c o
  unfolding add_at
  add_full l k h g = rw (g, le-leb n s l, le-leb n c k, le-ltb o n h) refl

  pub release_used : s < n → accepted s ≡ release_at n s
  unfolding release_at
  release_used l = rw (lt-ltb s n l) refl

  pub release_not : n ≤ s → {e : Refusal} → e ≡ refusal 18 0 → refused e ≡ release_at n s
  unfolding release_at
  release_not l g = rw (g, le-ltb s n l) refl

-- 19, whatever is asked
pub answer_long : (q : Ask) (book : List Reservation) → 256 < length book → answer_to q book ≡ refused (refusal 19 0)
unfolding answer_to
answer_long q book l = rw (lt-leb (length book) 256 l) refl
