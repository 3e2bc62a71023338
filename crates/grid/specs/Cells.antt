-- What a reader hands back: which unit squares and cubes it has, and that it lies in the ranges.
-- Assumes nothing.
use Rattle.std.specs.Prelude.{◌≡◌, ℕ, ◌+◌, ◌-◌, ◌%◌, ◌<◌, ◌≤◌, ℤ, pos, negsuc, ◌+ℤ◌, ◌≤ℤ◌}
use Rattle.grid.specs.declared.Cell.{Cell}
use Rattle.grid.specs.declared.SpaceCell.{SpaceCell}
use Rattle.grid.specs.Units.{TURN, HALF, QUARTER, index, Square, Cube}

-- a longitude's remainder by a full turn: longitudes a full turn apart are the same
abbrev pub around : ℤ → ℕ
around (pos n) = n % TURN
around (negsuc n) = TURN - 1 - n % TURN

-- how far the second number lies above the first; 0 where it does not
abbrev pub above : ℤ → ℤ → ℕ
above (pos a) (pos b) = b - a
above (pos a) (negsuc b) = 0
above (negsuc a) (pos b) = a + 1 + b
above (negsuc a) (negsuc b) = a - b

-- v is one of the n whole numbers from `from` on: not below it, and less than n above it
pub record Within (from : ℤ) (n : ℕ) (v : ℤ) : Type 0 where
  pub starts : above v from ≡ 0
  pub ends : above from v < n

-- the cell has the square: eastward from its west edge, past 180° if need be, and northward from its south edge
pub record Covers (c : Cell) (s : Square) : Type 0 where
  pub across : (around s.longitude + (TURN - around c.west)) % TURN < c.width
  pub along : Within c.south c.height s.latitude

-- the space cell has the cube: its plane cell has the square, and its layers have the layer
pub record CoversCube (c : SpaceCell) (s : Cube) : Type 0 where
  pub plan : Covers c.cell s.0
  pub high : Within c.floor c.thickness s.1

-- the n numbers from `from` on, at least one, lie in the range of so many numbers below 0 and as many from 0 on
pub record RunIn (most : ℕ) (from : ℤ) (n : ℕ) : Type 0 where
  pub begins_in : index from < most
  pub some : 0 < n
  pub ends_in : (from +ℤ pos n) ≤ℤ pos most

-- west is a longitude of the globe, and the cell runs eastward from it by at most a turn; its rows, from south to the north edge, lie from -90° to 90°
pub record InRanges (c : Cell) : Type 0 where
  pub west_in : index c.west < HALF
  pub wide : 0 < c.width
  pub at_most_a_turn : c.width ≤ TURN
  pub rows_in : RunIn QUARTER c.south c.height

-- the same of its plane cell, and its layers, from floor to top, lie in the range of so many layers above ground and as many below
pub record SpaceInRanges (most : ℕ) (c : SpaceCell) : Type 0 where
  pub plan_in : InRanges c.cell
  pub layers_in : RunIn most c.floor c.thickness
