-- Where a polar square stands in its cell from level 2 on, how one level moves it on, and what the functions of the writer are given and leave.
-- A cell that is no cap is seen as wide as it is high: x counts its width in as many parts as it has units of height.
-- Assumes nothing.
use Rattle.std.specs.Prelude.{◌≡◌, Bool, true, List, [], ◌∷◌, map, ℕ, zero, suc, ◌+◌, ◌-◌, ◌/◌, ◌%◌, ◌≤◌, ◌<◌, length}
use Rattle.grid.specs.declared.Digits.{Digits}
use Rattle.grid.specs.declared.Split.{Split}
use Rattle.grid.specs.declared.Place.{Place}
use Rattle.grid.specs.Units.{TURN, HALF, QUARTER, POLAR, eastward, from_pole, Square}
use Rattle.grid.specs.Splits.{polar_cell_at}
use Rattle.grid.specs.inner.Roads.{square_of}
use Rattle.grid.specs.inner.Standing.{length_in}
use Rattle.grid.specs.Characters.{char_of}
use Rattle.grid.specs.Plane.{Node, globe, pole, cell, cap, x_in, y_in, letter, polar_holds, polar_cell_of, polar_node}
use Rattle.polar_write.specs.declared.Spot.{Spot}
use Rattle.polar_write.specs.declared.Spot.TheVariants as spot
use Rattle.polar_write.specs.declared.Step.{Step}

-- columns, the column and the row, and where in that child
abbrev pub step : ℕ → ℕ → ℕ → Spot → Step
step n c r s = record { digits = record { columns = n; column = c; row = r }; rest = s }

-- where a square stands in a node: in a cap eastward and from the pole, in another cell from its corner in its own frame.
-- The globe and N000 and S000 have no spots
unfoldable pub spot_in : Node → Square → Spot
spot_in globe s = spot.Cell 0 0
spot_in (pole n) s = spot.Cell 0 0
spot_in (cell f b) s = spot.Cell ((x_in f s - b.x) / (b.w / b.h)) (y_in f s - b.y)
spot_in (cap n h) s = spot.Cap (eastward s.longitude) (from_pole s.latitude)

-- the width of a column of a cap's ring
abbrev pub ring_width : Split → ℕ
ring_width t = TURN / t.ring

-- a cap, e eastward and q from the pole: row 0 is the new cap, another row leaves it
abbrev pub cap_step : Split → ℕ → ℕ → ℕ → Step
cap_step t e q zero = step t.ring 0 0 (spot.Cap e q)
cap_step t e q (suc r) =
    step t.ring (e / ring_width t) (suc r) (spot.Cell (e % ring_width t / (ring_width t / t.width)) (q % t.width))

-- one level: near a pole the children of every cell are as high as the table's width
unfoldable pub spot_step : Split → Spot → Step
spot_step t (spot.Cap e q) = cap_step t e q (q / t.width)
spot_step t (spot.Cell x y) = step t.columns (x / t.width) (y / t.width) (spot.Cell (x % t.width) (y % t.width))

-- the digits of the polar cell k: of four columns, and four rows
abbrev pub polar_digits : ℕ → Digits
polar_digits k = record { columns = 4; column = k / 4; row = k % 4 }

-- N000 or S000
abbrev pub first_chars : Bool → List ℕ
first_chars north = map char_of (letter north ∷ 0 ∷ 0 ∷ 0 ∷ [])

-- a level's divisions have divisors
pub record SpotDivides (t : Split) : Type 0 where
  pub wide : 0 < t.width
  pub round : 0 < t.ring
  pub parts : 0 < ring_width t / t.width

-- a polar place
pub record Polar (p : Place) : Type 0 where
  pub x_inside : p.x < HALF
  pub near : POLAR ≤ p.y
  pub y_inside : p.y < QUARTER

-- the place lies in the polar cell k
pub record Lies (k : ℕ) (p : Place) : Type 0 where
  pub polar : Polar p
  pub few : k < 16
  pub holds : polar_holds (square_of p) k ≡ true

-- the place lies in the belt cell k of the outer row, or in the one between it and the pole, whose second digit is 2 more
pub record LiesInColumn (k : ℕ) (p : Place) : Type 0 where
  pub belt : 4 ≤ k
  pub outer : p.y < (polar_cell_at 6).low → Lies k p
  pub inner : (polar_cell_at 6).low ≤ p.y → Lies (k + 2) p

-- the place's polar cell, by its two digits, and where the place stands in it
pub record Begun (p : Place) (r : Step) : Type 0 where
  pub digits : r.digits ≡ polar_digits (polar_cell_of (square_of p))
  pub stands : r.rest ≡ spot_in (polar_node p.north (polar_cell_of (square_of p))) (square_of p)

-- what the writer is called with
pub record PolarWritable (spaced : Bool) (level : ℕ) (p : Place) (line : List ℕ) : Type 0 where
  pub level_low : 1 ≤ level
  pub level_high : level ≤ 10
  pub polar : Polar p
  pub room : length_in spaced level ≤ length line
