-- Which unit cubes and minutes a record names, and when two records conflict. Its numbers are taken as whole numbers, whatever they are.
-- Assumes nothing.
use Rattle.std.specs.Prelude.{◌≡◌, ℕ, ◌*◌, ◌≤◌, ◌<◌, ℤ, pos, ◌+ℤ◌}
use Rattle.grid.specs.Units.{TURN, Square, Cube}
use Rattle.grid.specs.Cells.{around, Within, Covers, CoversCube}
use Rattle.reservations.specs.declared.Reservation.{Reservation}

-- the record names the square: its plane cell has it, longitudes a full turn apart being the same
abbrev pub NamesSquare : Reservation → Square → Type 0
NamesSquare r s = Covers r.space.cell s

-- the record names the layer: one of so many from its floor on
abbrev pub NamesLayer : Reservation → ℤ → Type 0
NamesLayer r z = Within r.space.floor r.space.thickness z

-- the record names the unit cube: the square and the layer
abbrev pub NamesCube : Reservation → Cube → Type 0
NamesCube r s = CoversCube r.space s

-- the record names the minute: the end is not included
pub record NamesMinute (r : Reservation) (m : ℕ) : Type 0 where
  pub begun : r.start ≤ m
  pub going : m < r.end

-- some layer is named by both
pub record ShareLayer (a b : Reservation) : Type 0 where
  pub layer : ℤ
  pub named : NamesLayer a layer × NamesLayer b layer

-- two records conflict: they share a unit cube, which is a square and a layer, and a minute
pub record Conflict (a b : Reservation) : Type 0 where
  pub minute : ℕ
  pub minutes : NamesMinute a minute × NamesMinute b minute
  pub layers : ShareLayer a b
  pub square : Square
  pub squares : NamesSquare a square × NamesSquare b square

-- ---- the same, counted: proofs/Naming.antt shows that they name just these

-- v is one of from, from + 1, .. up to from + n - 1
pub record CountedFrom (from : ℤ) (n : ℕ) (v : ℤ) : Type 0 where
  pub step : ℕ
  pub below : step < n
  pub is : v ≡ from +ℤ pos step

-- u is one of west, west + 1, .. up to west + n - 1, or lies a number of full turns from one: it has its remainder
pub record CountedRound (west : ℤ) (n : ℕ) (u : ℤ) : Type 0 where
  pub step : ℕ
  pub below : step < n
  pub same : around u ≡ around (west +ℤ pos step)

-- v is a number of full turns on from u
pub record TurnsOn (u v : ℤ) : Type 0 where
  pub turns : ℕ
  pub is : v ≡ u +ℤ pos (turns * TURN)
