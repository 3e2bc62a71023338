-- What a cursor of a polar code means, where one level's characters lead, and what reading some levels finds.
-- Assumes nothing.
use Rattle.std.specs.Prelude.{Bool, cond, List, map, ℕ, zero, suc, ◌+◌, ◌-◌, ◌*◌, ◌/◌, ◌≤◌, leb, length, take, drop, Result, Ok, Err}
use Rattle.grid.specs.declared.Split.{Split}
use Rattle.grid.specs.Units.{TURN}
use Rattle.grid.specs.Characters.{digit_of}
use Rattle.grid.specs.Tree.{Read, ok, bad, guard, next}
use Rattle.grid.specs.Splits.{second, split_at}
use Rattle.grid.specs.Plane.{
  Frame,
  belt,
  disc,
  Box,
  Node,
  pole,
  cell,
  cap,
  form_of,
  Part,
  cap_part,
  polar_part,
  sub,
  ring_node,
  allowed,
  pole_height,
  child_of,
}
use Rattle.grid.specs.inner.Roads.{place_of}
use Rattle.grid.specs.inner.Standing.{level_place}
use Rattle.polar_read.specs.declared.Cursor.{Cursor}

-- ---- a cursor

-- where the columns and rows of its cell count
abbrev pub frame_of : Cursor → Frame
frame_of c = cond c.disc (disc c.north) (belt c.north c.east)

-- from where its cell begins, as large as it is
abbrev pub polar_box : Cursor → Box
polar_box c = record { x = c.x; w = c.w; y = c.y; h = c.h }

-- its cell, as the grid has it
abbrev pub node_of : Cursor → Node
node_of c = cond c.cap (cap c.north c.h) (cell (frame_of c) (polar_box c))

-- what was read: the cell, or the place of the first character that is not allowed
abbrev pub polar_reading : Result Cursor ℕ → Read Node
polar_reading (Ok c) = ok (node_of c)
polar_reading (Err p) = bad p

-- ---- one division

-- into how many columns the cursor's cell divides
abbrev pub columns_of : Cursor → Split → ℕ
columns_of c s = cond c.cap s.ring s.columns

-- how the cursor's cell divides
abbrev pub divided : Cursor → Split → Part
divided c s =
    record {
      columns = columns_of c s;
      rows = s.inward;
      width = cond c.cap (TURN / s.ring) (c.w / s.columns);
      height = c.h / s.inward;
      form = form_of s.characters (columns_of c s);
    }

-- the child of the cursor's cell in a column and a row
abbrev pub polar_child : Cursor → Split → ℕ → ℕ → Node
polar_child c s i j =
    cond c.cap
    (ring_node c.north (cap_part s c.h) c.h i j)
    (cell (frame_of c) (sub (polar_part s c.w c.h) (polar_box c) i j))

-- that child, where the division has it; else the character at a place is not allowed
abbrev pub settled_of : Cursor → Split → ℕ → ℕ → ℕ → Read Node
settled_of c s i j at = guard at (allowed c.cap (divided c s) i j) (ok (polar_child c s i j))

-- a level of one character has at most five columns and rows, one of two at most fifteen
pub record PolarDigits (s : Split) : Type 0 where
  pub columns : s.columns ≤ 10 * s.characters - 5
  pub ring : s.ring ≤ 10 * s.characters - 5
  pub inward : s.inward ≤ 10 * s.characters - 5
  pub some : 1 ≤ s.characters
  pub most : s.characters ≤ 2
  pub placed : s.characters ≤ s.length
  pub near : s.length ≤ 20

-- ---- one level's characters, where the code w has them

-- the digits of the level s, whose characters begin at a place of the code w
abbrev pub polar_level_digits : Split → ℕ → List ℕ → List ℕ
polar_level_digits s at w = map digit_of (take s.characters (drop at w))

-- what follows where the code has the level s, whose characters begin at a place, and what where it has not
abbrev pub where_has : Split → ℕ → List ℕ → Read Node → Read Node → Read Node
where_has s at w r q = cond (leb (at + s.characters) (length w)) r q

-- where the level's characters lead from a node; a bad one's place is the one in a plane code
abbrev pub led : Split → ℕ → List ℕ → Read Node → Read Node
led s at w r = next (place_of s) r (λ n. child_of s n (polar_level_digits s at w))

-- what was read, and then level k + 1
abbrev pub polar_level_on : Bool → List ℕ → ℕ → Read Node → Read Node
polar_level_on spaced w k r =
    where_has (split_at k) (level_place spaced k (split_at k)) w (led (split_at k) (level_place spaced k (split_at k)) w r) r

-- level 2 from N000 or S000 on, which is seen as a cap where the code ends there
abbrev pub second_read : Bool → Bool → List ℕ → Read Node
second_read spaced n w =
    where_has second (level_place spaced 1 second) w (led second (level_place spaced 1 second) w (ok (pole n))) (ok (cap n pole_height))

-- N000 or S000, and then the levels after it, as far as level k + 1
abbrev pub polar_read_to : Bool → Bool → List ℕ → ℕ → Read Node
polar_read_to spaced n w zero = ok (cap n pole_height)
polar_read_to spaced n w (suc zero) = second_read spaced n w
polar_read_to spaced n w (suc (suc k)) = polar_level_on spaced w (suc (suc k)) (polar_read_to spaced n w (suc k))
