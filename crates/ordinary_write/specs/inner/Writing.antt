-- What the writer of ordinary plane codes is given, and the digits of each level after the first.
-- Assumes nothing.
use Rattle.std.specs.Prelude.{Bool, List, ℕ, ◌/◌, ◌%◌, ◌≤◌, ◌<◌, length}
use Rattle.grid.specs.declared.Digits.{Digits}
use Rattle.grid.specs.declared.Place.{Place}
use Rattle.grid.specs.declared.Split.{Split}
use Rattle.grid.specs.Units.{HALF, POLAR}
use Rattle.grid.specs.inner.Standing.{length_in}

-- a level, an ordinary position, and a line with room for its plane code, or for its space code
pub record OrdinaryWritable (spaced : Bool) (level : ℕ) (p : Place) (line : List ℕ) : Type 0 where
  pub some_level : 1 ≤ level
  pub ten_levels : level ≤ 10
  pub x_inside : p.x < HALF
  pub y_inside : p.y < POLAR
  pub room : length_in spaced level ≤ length line

-- the column and the row of the outward indices x and y, in the cell of the level before
abbrev pub ordinary_digits : Split → ℕ → ℕ → Digits
ordinary_digits s x y = record { columns = s.columns; column = x / s.width % s.columns; row = y / s.height % s.rows }

-- a level's divisions have divisors
pub record OrdinaryDivides (s : Split) : Type 0 where
  pub wide : 0 < s.width
  pub high : 0 < s.height
  pub some_columns : 0 < s.columns
  pub some_rows : 0 < s.rows
