-- What a reservation keeps out, from the call that makes it until its flight is released.
-- Assumes nothing.
use Rattle.std.specs.Prelude.{◌≡◌, ◌≢◌, List, [], ◌∷◌, ℕ, ◌≤◌, ◌<◌}
use Rattle.grid.specs.declared.Cell.{Cell}
use Rattle.grid.specs.declared.SpaceCell.{SpaceCell}
use Rattle.grid.specs.Units.{Square}
use Rattle.grid.specs.Answers.{Answer, accepted, refused, refusal}
use Rattle.grid.specs.Cells.{Covers}
use Rattle.grid.specs.Layers.{ours}
use Rattle.grid.specs.Plane.{cell_of}
use Rattle.grid.specs.Space.{space_cell_of}
use Rattle.book.specs.Safety.{Call, release}

-- none of the calls releases the flight
abbrev pub NotReleased : ℕ → List Call → Type 0
NotReleased flight [] = Unit {0}
NotReleased flight (c ∷ cs) = (c ≢ release flight) × NotReleased flight cs

-- a plane code and its minutes, a space code of edition 1 and its minutes: their plane cells share a square, and the minutes one; nothing is asked of layers
pub record Crossing (plane : List ℕ) (start end : ℕ) (space : List ℕ) (from to : ℕ) : Type 0 where
  pub plane_cell : Cell
  pub plane_read_law : cell_of plane ≡ accepted plane_cell
  pub space_cell : SpaceCell
  pub space_read_law : space_cell_of ours space ≡ accepted space_cell
  pub square : Square
  pub squares : Covers plane_cell square × Covers space_cell.cell square
  pub minute : ℕ
  pub plane_minute : (start ≤ minute) × (minute < end)
  pub space_minute : (from ≤ minute) × (minute < to)

-- kept out by the live record at a place: 15, or 16 with this place or one before it
pub data KeptOut (k : ℕ) : Answer ℕ → Type 0 where
  flight_live : KeptOut k (refused (refusal 15 0))
  in_conflict : (j : ℕ) → j ≤ k → KeptOut k (refused (refusal 16 j))
