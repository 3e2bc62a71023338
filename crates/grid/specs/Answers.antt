-- What a call answers: a result, or one refusal of the documents' tables with its place and ordinal.
-- Assumes nothing.
use Rattle.std.specs.Prelude.{ℕ, Bool, true, false, cond, List, Result, Ok, Err, slice_index}
use Rattle.grid.specs.declared.Reason.{Reason}
use Rattle.grid.specs.declared.Reason.TheVariants.{Level, Longitude, Latitude, Layer, Room, Length, Garbled, ReferenceCell, LevelsDiffer, Offset, NotANumber, PolarTarget, Edition, Minutes, AlreadyLive, Conflict, AllLive, NotLive, BookTooLong, Misplaced, BadlyFormed, NotInBook}
use Rattle.grid.specs.declared.Refusal.{Refusal}
use Rattle.grid.specs.Characters.{code_character}

-- what a reader or a writer answers: a result, or one refusal
pub data Answer (C : Type 0) : Type 0 where
  accepted : C → Answer C
  refused : Refusal → Answer C

-- the number of a reason in the documents' table
abbrev pub number_of : Reason → ℕ
number_of Level = 1
number_of Longitude = 2
number_of Latitude = 3
number_of Layer = 4
number_of Room = 5
number_of Length = 6
number_of Garbled = 7
number_of ReferenceCell = 8
number_of LevelsDiffer = 9
number_of Offset = 10
number_of NotANumber = 11
number_of PolarTarget = 12
number_of Edition = 13
number_of Minutes = 14
number_of AlreadyLive = 15
number_of Conflict = 16
number_of AllLive = 17
number_of NotLive = 18
number_of BookTooLong = 19
number_of Misplaced = 20
number_of BadlyFormed = 21
number_of NotInBook = 22

-- a refusal of the only or the first code or position: ordinal 1
abbrev pub refusal : ℕ → ℕ → Refusal
refusal n p = record { number = n; place = p; ordinal = 1 }

-- the same refusal, about the code or position k of the call
abbrev pub about : ℕ → Refusal → Refusal
about k r = record { number = r.number; place = r.place; ordinal = k }

-- the refusal where the test fails, else go on
abbrev pub unless : {C : Type 0} → Bool → Refusal → Answer C → Answer C
unless true r a = a
unless false r a = refused r

-- what follows from a result; a refusal stays
abbrev pub and_then : {C D : Type 0} → Answer C → (C → Answer D) → Answer D
and_then (accepted c) f = f c
and_then (refused r) f = refused r

-- 6: a code's length is none of its kind
abbrev pub wrong_length : Refusal
wrong_length = refusal 6 0

-- the number of a character b that is not allowed at its place, given those before it: 20, misplaced, where it counts as a code character; else 7, garbled
unfoldable pub wrong_number : ℕ → ℕ
wrong_number b = cond (code_character b) 20 7

-- 7 or 20: the character b is not allowed at place p
abbrev pub wrong_character : ℕ → ℕ → Refusal
wrong_character p b = refusal (wrong_number b) p

-- 7 or 20 of the code w: its character at place p is not allowed there
abbrev pub wrong_at : List ℕ → ℕ → Refusal
wrong_at w p = wrong_character p (slice_index w p)

-- the answer that a call hands back as a Result: what it found, or the refusal in the paper's numbers
abbrev pub answer_of : {C : Type 0} → Result C Refusal → Answer C
answer_of (Ok c) = accepted c
answer_of (Err r) = refused r
