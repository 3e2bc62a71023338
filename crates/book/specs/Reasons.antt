-- Why a call gets its answer: each refusal exactly when its reason holds and none before it does.
-- Assumes nothing.
use Rattle.std.specs.Prelude.{◌≡◌, List, ℕ, ◌≤◌, ◌<◌, length}
use Rattle.grid.specs.declared.Refusal.{Refusal}
use Rattle.grid.specs.Answers.{Answer, accepted, refused, refusal}
use Rattle.reservations.specs.declared.Reservation.{Reservation}
use Rattle.reservations.specs.Naming.{Conflict}
use Rattle.book.specs.Book.{record_at}
use Rattle.book.specs.Safety.{LiveAt}

-- a record at the place is live and has the flight number
pub record FliesAt (flight : ℕ) (book : List Reservation) (k : ℕ) : Type 0 where
  pub live : LiveAt book k
  pub same : (record_at book k).flight ≡ flight

-- the record at the place is live and conflicts with a
pub record ConflictAt (a : Reservation) (book : List Reservation) (k : ℕ) : Type 0 where
  pub live : LiveAt book k
  pub conflict : Conflict a (record_at book k)

-- the record at the place is not live
pub record FreeAt (book : List Reservation) (k : ℕ) : Type 0 where
  pub inside : k < length book
  pub dead : (record_at book k).live ≡ 0

-- it holds at no place
abbrev pub Nowhere : (ℕ → Type 0) → Type 0
Nowhere P = (k : ℕ) → P k → ⊥

-- it holds at the place, and at none before it
pub record First (P : ℕ → Type 0) (k : ℕ) : Type 0 where
  pub holds : P k
  pub before : (j : ℕ) → j < k → P j → ⊥

-- the book is not too long, and there is a record to add
pub record Ready (made : Answer Reservation) (book : List Reservation) (a : Reservation) : Type 0 where
  pub short : length book ≤ 256
  pub record_is : made ≡ accepted a

-- adding to a book the record that was made of a code, a flight and minutes (`plane_record`, `ground_record`, `space_record`)
pub data WhyAdd (made : Answer Reservation) (book : List Reservation) : Answer ℕ → Type 0 where
  -- 19: the book is too long
  add_too_long : 256 < length book → WhyAdd made book (refused (refusal 19 0))
  -- 6, 7, 20, 14: there is no record to add
  no_record : length book ≤ 256 → (r : Refusal) → made ≡ refused r → WhyAdd made book (refused r)
  -- 15: the flight number is live already
  already : (a : Reservation) → Ready made book a → (k : ℕ) → FliesAt a.flight book k → WhyAdd made book (refused (refusal 15 0))
  -- 16: the first record in conflict
  conflict : (a : Reservation) → Ready made book a → Nowhere (FliesAt a.flight book) → (k : ℕ) → First (ConflictAt a book) k → WhyAdd made book (refused (refusal 16 k))
  -- 17: every record is live
  full : (a : Reservation) → Ready made book a → Nowhere (FliesAt a.flight book) → Nowhere (ConflictAt a book) → Nowhere (FreeAt book) → WhyAdd made book (refused (refusal 17 0))
  -- the first record not live is used
  added : (a : Reservation) → Ready made book a → Nowhere (FliesAt a.flight book) → Nowhere (ConflictAt a book) → (k : ℕ) → First (FreeAt book) k → WhyAdd made book (accepted k)

-- releasing a flight
pub data WhyRelease (flight : ℕ) (book : List Reservation) : Answer ℕ → Type 0 where
  -- 19: the book is too long
  release_too_long : 256 < length book → WhyRelease flight book (refused (refusal 19 0))
  -- 18: the flight number is not live
  not_live : length book ≤ 256 → Nowhere (FliesAt flight book) → WhyRelease flight book (refused (refusal 18 0))
  -- the first live record with that number is used
  released : length book ≤ 256 → (k : ℕ) → First (FliesAt flight book) k → WhyRelease flight book (accepted k)
