-- What the book promises: no two live records conflict, whatever calls are made.
-- Assumes nothing.
use Rattle.std.specs.Prelude.{◌≢◌, List, [], ◌∷◌, ℕ, ◌<◌, length}
use Rattle.reservations.specs.declared.Reservation.{Reservation}
use Rattle.reservations.specs.Naming.{Conflict}
use Rattle.book.specs.Asking.{Ask, plane_record, ground_record, space_record, to_add, to_release}
use Rattle.book.specs.Book.{record_at, carried}

-- there is a live record at the place
pub record LiveAt (book : List Reservation) (k : ℕ) : Type 0 where
  pub inside : k < length book
  pub alive : 0 < (record_at book k).live

-- no two live records, at different places, conflict
abbrev pub Safe : List Reservation → Type 0
Safe book = (i j : ℕ) → i ≢ j → LiveAt book i → LiveAt book j → Conflict (record_at book i) (record_at book j) → ⊥

-- nothing is live
abbrev pub NothingLive : List Reservation → Type 0
NothingLive book = (k : ℕ) → LiveAt book k → ⊥

-- a call, with any arguments: code, flight, start and end; or flight
pub data Call : Type 0 where
  add_plane : List ℕ → ℕ → ℕ → ℕ → Call
  add_ground : List ℕ → ℕ → ℕ → ℕ → Call
  add_space : List ℕ → ℕ → ℕ → ℕ → Call
  release : ℕ → Call

-- what it asks of the book
abbrev pub ask_of : Call → Ask
ask_of (add_plane code flight start end) = to_add (plane_record code flight start end)
ask_of (add_ground code flight start end) = to_add (ground_record code flight start end)
ask_of (add_space code flight start end) = to_add (space_record code flight start end)
ask_of (release flight) = to_release flight

-- the book after calls, each lent the book as the last one left it
abbrev pub after : List Call → List Reservation → List Reservation
after [] book = book
after (c ∷ cs) book = after cs (carried (ask_of c) book).1
