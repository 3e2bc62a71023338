-- The book: what each call answers, and the book afterwards. Every definition is total: any list of records is a book.
-- Assumes nothing.
use Rattle.std.specs.Prelude.{Bool, ◌&&◌, not, List, ℕ, ltb, leb, eqb, length, get_or, set, Result, Ok, Err}
use Rattle.grid.specs.declared.Refusal.{Refusal}
use Rattle.grid.specs.Answers.{Answer, accepted, refused, refusal, unless, and_then, answer_of}
use Rattle.std.specs.List.{position_or_len}
use Rattle.reservations.specs.declared.Reservation.{Reservation}
use Rattle.reservations.specs.Meeting.{conflict_test}
use Rattle.book.specs.declared.Done.{Done}
use Rattle.book.specs.declared.Task.{Task}
use Rattle.book.specs.declared.Task.TheVariants.{Add, Release}
use Rattle.book.specs.Asking.{Ask, blank}

-- ---- one record

-- 0 is not live, any other number is
abbrev pub live : Reservation → Bool
live r = ltb 0 r.live

-- a record not live
abbrev pub free : Reservation → Bool
free r = not (live r)

-- a live record with that flight number
abbrev pub flies : ℕ → Reservation → Bool
flies flight r = live r && eqb flight r.flight

-- a live record that conflicts with a
abbrev pub conflicting : Reservation → Reservation → Bool
conflicting a r = live r && conflict_test a r

-- the record with its live mark off, and nothing else changed
abbrev pub off : Reservation → Reservation
off r = record { live = 0; flight = r.flight; space = r.space; start = r.start; end = r.end }

-- ---- places

-- the record at a place
abbrev pub record_at : List Reservation → ℕ → Reservation
record_at book k = get_or book k blank

-- the first place of the book whose record passes the test, counted from 0; the count of records where none does
abbrev pub first_with : (Reservation → Bool) → List Reservation → ℕ
first_with p book = position_or_len p book

-- ---- what is answered

-- adding, by the first places of a live record with the flight, of one in conflict and of one not live (the count n for none):
-- 15, 16 with the place, 17; else the first record not live is used
unfoldable pub add_at : ℕ → ℕ → ℕ → ℕ → Answer ℕ
add_at n same conflict free_place =
    unless (leb n same) (refusal 15 0) (unless (leb n conflict) (refusal 16 conflict) (unless (ltb free_place n) (refusal 17 0) (accepted free_place)))

-- releasing, by the first place of a live record with the flight: 18; else that record is used
unfoldable pub release_at : ℕ → ℕ → Answer ℕ
release_at n same = unless (ltb same n) (refusal 18 0) (accepted same)

-- the place of the record that is used, or a refusal, in a book that is not too long: by the task
abbrev pub asked : Task → List Reservation → Answer ℕ
asked (Add a) book =
    add_at (length book) (first_with (flies a.flight) book) (first_with (conflicting a) book) (first_with free book)
asked (Release flight) book = release_at (length book) (first_with (flies flight) book)

-- 19, more than 256 records, before all others; then what the call is refused already
unfoldable pub answer_to : Ask → List Reservation → Answer ℕ
answer_to q book = unless (leb (length book) 256) (refusal 19 0) (and_then (answer_of q) (λ t. asked t book))

-- ---- the book afterwards

-- what the record that is used becomes: the one to add, or itself with its live mark off
abbrev pub becomes_by : Task → Reservation → Reservation
becomes_by (Add a) r = a
becomes_by (Release flight) r = off r

-- the same of what was asked
abbrev pub becomes : Ask → Reservation → Reservation
becomes (Ok t) r = becomes_by t r
becomes (Err e) r = r

-- only the record at the place that is used changes; a refusal changes nothing
abbrev pub leaves : Ask → Answer ℕ → List Reservation → List Reservation
leaves q (accepted k) book = set book k (becomes q (record_at book k))
leaves q (refused r) book = book

-- what is asked, carried out: the answer, and the book afterwards
unfoldable pub carried : Ask → List Reservation → Answer ℕ × List Reservation
carried q book = (answer_to q book, leaves q (answer_to q book) book)

-- the record that was used, as it is now; a blank one where none was
abbrev pub used_in : Answer ℕ × List Reservation → Reservation
used_in (accepted k, book) = record_at book k
used_in (refused r, book) = blank

-- what a call hands back, in the paper's numbers: the place of the record used or released, or the refusal
abbrev pub booked : Result Done Refusal → Answer ℕ
booked (Ok d) = accepted d.at
booked (Err r) = refused r

-- and the record that it used, as it is now; a blank one where none was
abbrev pub used_by : Result Done Refusal → Reservation
used_by (Ok d) = d.used
used_by (Err r) = blank
