-- What a position writer is asked for, once refusals 1, 2 and 3 are decided, and what is needed to write it.
-- Assumes nothing.
use Rattle.std.specs.Prelude.{ℕ, ◌<◌, ◌≤◌, Bool, List, Option, Some, None, Result, Ok, Err, length, ℤ}
use Rattle.grid.specs.declared.Place.{Place}
use Rattle.grid.specs.declared.Refusal.{Refusal}
use Rattle.grid.specs.Units.{HALF, QUARTER, Square}
use Rattle.grid.specs.Answers.{Answer, accepted, refused}
use Rattle.grid.specs.inner.Roads.{square_of}
use Rattle.grid.specs.inner.Standing.{length_in}

-- the unit that a number stands for, or the refusal of a number outside its range
abbrev pub standing_answer : Refusal → Option ℤ → Answer ℤ
standing_answer r (Some u) = accepted u
standing_answer r None = refused r

-- the square of the place that was asked for, or the refusal
abbrev pub position_asked : Result Place Refusal → Answer Square
position_asked (Ok p) = accepted (square_of p)
position_asked (Err r) = refused r

-- the place that has these parts
abbrev pub place_at : Bool → Bool → ℕ → ℕ → Place
place_at east north x y = record { east = east; north = north; x = x; y = y }

-- a level, a position on the globe, and a line with room for its plane code, or for its space code
pub record PlaneWritable (spaced : Bool) (level : ℕ) (p : Place) (line : List ℕ) : Type 0 where
  pub level_low : 1 ≤ level
  pub level_high : level ≤ 10
  pub wide : p.x < HALF
  pub high : p.y < QUARTER
  pub room : length_in spaced level ≤ length line
