-- What the roads of plane codes share: the square of a place, a level's characters and where they begin, what tells a digit, and reading on from level 1.
-- Assumes nothing.
use Rattle.std.specs.Prelude.{◌≡◌, ℕ, ◌+◌, ◌-◌, ◌*◌, ◌<◌, ◌≤◌, min, cond, List, [], map, length, take, drop, ◌==◌, ◌≢◌, nat_lt}
use Rattle.grid.specs.declared.Cell.{Cell}
use Rattle.grid.specs.declared.Digits.{Digits}
use Rattle.grid.specs.declared.Place.{Place}
use Rattle.grid.specs.declared.Refusal.{Refusal}
use Rattle.grid.specs.declared.Split.{Split}
use Rattle.grid.specs.Units.{unit, Square}
use Rattle.grid.specs.Characters.{char_of, digit_of}
use Rattle.grid.specs.Tree.{shift, follow}
use Rattle.grid.specs.Answers.{Answer}
use Rattle.grid.specs.Codes.{answer}
use Rattle.grid.specs.Splits.{splits}
use Rattle.grid.specs.Plane.{Node, form_of, write, plane, plane_codes}

-- the square of a place: its sides and outward indices
abbrev pub square_of : Place → Square
square_of p = record { longitude = unit p.east p.x; latitude = unit p.north p.y }

-- where a level's characters begin in a code
abbrev pub place_of : Split → ℕ
place_of t = t.length - t.characters

-- the one digit of a column and a row: 2·row + column, or row + column in a cap of three columns
abbrev pub single_of : Digits → ℕ
single_of d = cond (d.columns == 2) (2 * d.row + d.column) (d.row + d.column)

-- a level's digits, in one character or in two
abbrev pub digits_in : Split → Digits → List ℕ
digits_in t d = write (form_of t.characters d.columns) d.column d.row

-- the characters of level k + 1 in a code of a level; none where the code ends before them
unfoldable pub level_chars : ℕ → ℕ → Split → Digits → List ℕ
level_chars level k t d = cond (nat_lt k level) (map char_of (digits_in t d)) []

-- the digits of level k + 1 have characters, and the line has room for them from a place on
pub record LevelFits (level k : ℕ) (t : Split) (d : Digits) (line : List ℕ) (at : ℕ) : Type 0 where
  pub room : k < level → at + t.characters ≤ length line
  pub some : 1 ≤ t.characters
  pub column : d.column < 32
  pub row : d.row < 32
  pub single : (t.characters ≢ 2) → single_of d < 32

-- the same refusal, at the place p
abbrev pub at_place : ℕ → Refusal → Refusal
at_place p r = record { number = r.number; place = p; ordinal = r.ordinal }

-- r tells a byte's digit below n: it is that digit, or both are n or more
pub record DigitBelow (n b r : ℕ) : Type 0 where
  pub tells : min r n ≡ min (digit_of b) n

-- what reading on from a cell of level 1 answers: the rest of the code w of level l, after its first four characters
unfoldable pub later_read : ℕ → Node → List ℕ → Answer Cell
unfolding plane_codes
later_read l n w = answer plane_codes w l (shift 4 (follow plane (drop 1 (take l splits)) n (map digit_of (drop 4 w))))
