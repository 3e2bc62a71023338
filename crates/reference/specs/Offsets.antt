-- An offset of a reference code: how many cells to go, as a digit, along the parallel or along the meridian.
-- Both are counted round a full turn. Longitudes a turn apart are the same; a latitude comes to a pole long before it has gone round.
-- Assumes nothing.
use Rattle.std.specs.Prelude.{Bool, cond, ◌&&◌, ◌||◌, ℕ, ◌+◌, ◌-◌, ◌/◌, ltb, leb, ℤ, pos, neg_ℤ, ◌+ℤ◌, ◌*ℤ◌}
use Rattle.grid.specs.Units.{TURN}
use Rattle.grid.specs.Cells.{around}
use Rattle.grid.specs.Plane.{longitude_at}
use Rattle.distances.specs.Distances.{between}

-- the characters of an offset are 0 to 7, and A to G (10 to 16) for -1 to -7
abbrev pub offset_digit : ℕ → Bool
offset_digit v = ltb v 8 || (leb 10 v && leb v 16)

-- the number that such a digit stands for
abbrev pub offset : ℕ → ℤ
offset v = cond (ltb v 8) (pos v) (neg_ℤ (pos (v - 9)))

-- the remainder by a turn of a longitude or latitude that is moved by it, eastward or northward, in cells of a size
unfoldable pub moved_to : ℕ → ℕ → ℤ → ℕ
moved_to size v z = around (z +ℤ offset v *ℤ pos size)

-- that longitude or latitude, as a square has it
abbrev pub moved : ℕ → ℕ → ℤ → ℤ
moved size v z = longitude_at (moved_to size v z)

-- the digit of so many units: the cells onward, or else the cells back; above 16 where they are beyond 7 both ways
unfoldable pub span_in : ℕ → ℕ → ℕ
span_in size d = cond (ltb (d / size) 8) (d / size) (9 + (TURN - d) / size)

-- the digit of the offset that leads from one number to another
abbrev pub span_of : ℕ → ℤ → ℤ → ℕ
span_of size a b = span_in size (between a b)
