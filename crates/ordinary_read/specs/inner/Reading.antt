-- What a cursor of the ordinary reader means, and what each of its methods makes of it.
-- Assumes nothing.
use Rattle.std.specs.Prelude.{◌≡◌, Bool, cond, List, map, ℕ, zero, suc, ◌+◌, ◌-◌, ◌*◌, ◌≤◌, ◌<◌, ltb, leb, length, take, drop, Result, Ok, Err}
use Rattle.grid.specs.declared.Split.{Split}
use Rattle.grid.specs.declared.Cell.{Cell}
use Rattle.grid.specs.Characters.{digit_of}
use Rattle.grid.specs.Tree.{Read, ok, bad, guard, next}
use Rattle.grid.specs.Answers.{Answer}
use Rattle.grid.specs.Codes.{answer}
use Rattle.grid.specs.Splits.{first, split_at}
use Rattle.grid.specs.Plane.{Box, Node, cell, ordinary, plain_part, sub, sheet, child_of, plane_codes}
use Rattle.grid.specs.inner.Roads.{place_of}
use Rattle.grid.specs.inner.Standing.{level_place}
use Rattle.ordinary_read.specs.declared.Cursor.{Cursor}

-- ---- what a cursor means

-- from where its cell begins, as large as it is
abbrev pub ordinary_box : Cursor → Box
ordinary_box c = record { x = c.x; w = c.width; y = c.y; h = c.height }

-- its cell, as the grid has it
abbrev pub ordinary_node : Cursor → Node
ordinary_node c = cell (ordinary c.north c.east) (ordinary_box c)

-- the cell read so far, or the place of the first character that is not allowed
abbrev pub ordinary_read : Result Cursor ℕ → Read Node
ordinary_read (Ok c) = ok (ordinary_node c)
ordinary_read (Err p) = bad p

-- ---- what reading does

-- the digits of the level s, whose characters begin at a place of the code w
abbrev pub level_digits : Split → ℕ → List ℕ → List ℕ
level_digits s at w = map digit_of (take s.characters (drop at w))

-- what was read, and then the level s, where the code w has it; a bad character's place is the one in a plane code
abbrev pub onward : Split → ℕ → List ℕ → Read Node → Read Node
onward s at w r = cond (leb (at + s.characters) (length w)) (next (place_of s) r (λ n. child_of s n (level_digits s at w))) r

-- the same of level k + 1, where it stands
abbrev pub level_on : Bool → List ℕ → ℕ → Read Node → Read Node
level_on spaced w k r = onward (split_at k) (level_place spaced k (split_at k)) w r

-- what was read, and then the levels after the first, as far as level k + 1
abbrev pub read_to : Bool → List ℕ → ℕ → Read Node → Read Node
read_to spaced w zero r = r
read_to spaced w (suc k) r = level_on spaced w (suc k) (read_to spaced w k r)

-- the child in a column and a row of the cursor's cell: a column that the level s has not is bad at its first character, a row at its last
abbrev pub ordinary_child : Split → ℕ → ℕ → Cursor → Read Node
ordinary_child s column row c =
    guard (place_of s) (ltb column s.columns)
    (guard (s.length - 1) (ltb row s.rows)
    (ok (cell (ordinary c.north c.east) (sub (plain_part s) (ordinary_box c) column row))))

-- what a plane reader answers for what was read in the code w of level l
unfoldable pub ordinary_answer : List ℕ → ℕ → Read Node → Answer Cell
unfolding plane_codes
ordinary_answer w l r = answer plane_codes w l r

-- ---- where a cursor stands

-- its cell is as large as those of the level s
pub record LevelCell (s : Split) (c : Cursor) : Type 0 where
  pub wide : c.width ≡ s.width
  pub high : c.height ≡ s.height

-- the level s divides its cell, and has characters
pub record DividedBy (s : Split) (c : Cursor) : Type 0 where
  pub wide : s.columns * s.width ≡ c.width
  pub high : s.rows * s.height ≡ c.height
  pub some_width : 0 < s.width
  pub some_height : 0 < s.height
  pub some_characters : 1 ≤ s.characters
  pub placed : s.characters ≤ s.length
  pub near : s.length ≤ 20

-- where a code of n characters has level k + 1, it divides the cursor's cell
abbrev pub LevelNext : Bool → ℕ → ℕ → Cursor → Type 0
LevelNext spaced k n c = k < 10 → level_place spaced k (split_at k) + (split_at k).characters ≤ n → LevelCell (split_at (k - 1)) c

-- ---- what each method makes

-- the cell of level 1
pub record AtSheet (north : Bool) (zone row : ℕ) (c : Cursor) : Type 0 where
  pub read : ordinary_node c ≡ sheet north zone row
  pub stands : LevelCell first c

-- the child in a column and a row
pub record Child (s : Split) (column row : ℕ) (c : Cursor) (r : Result Cursor ℕ) : Type 0 where
  pub read : ordinary_read r ≡ ordinary_child s column row c
  pub reached : (m : Cursor) → r ≡ Ok m → LevelCell s m

-- level k + 1 more
pub record Onward (spaced : Bool) (k : ℕ) (w : List ℕ) (c : Cursor) (r : Result Cursor ℕ) : Type 0 where
  pub read : ordinary_read r ≡ level_on spaced w k (ok (ordinary_node c))
  pub reached : (m : Cursor) → r ≡ Ok m → LevelNext spaced (k + 1) (length w) m
