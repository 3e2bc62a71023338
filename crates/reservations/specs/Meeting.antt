-- The test for a conflict, as it is computed: minutes, squares, layers. proofs/Exactly.antt shows that it holds exactly when two records conflict.
-- Assumes nothing.
use Rattle.std.specs.Prelude.{Bool, ◌&&◌, ◌||◌, ℕ, min, max, ltb, ℤ}
use Rattle.grid.specs.Cells.{above}
use Rattle.grid.specs.declared.Cell.{Cell}
use Rattle.distances.specs.Distances.{between}
use Rattle.reservations.specs.declared.Reservation.{Reservation}

-- the minutes from a to b and those from c to d, the ends not included, have one in common
unfoldable pub minutes_meet : ℕ → ℕ → ℕ → ℕ → Bool
minutes_meet a b c d = ltb (max a c) (min b d)

-- the n whole numbers from f on and the m from g on have one in common: neither begins at or past the other's end
unfoldable pub runs_meet : ℤ → ℕ → ℤ → ℕ → Bool
runs_meet f n g m = ltb (above f g) n && ltb (above g f) m

-- the n longitudes from v on and the m from w on have one in common: both have some, and one arc begins within the other
unfoldable pub arcs_meet : ℤ → ℕ → ℤ → ℕ → Bool
arcs_meet v n w m = (ltb (between v w) n && ltb 0 m) || (ltb (between w v) m && ltb 0 n)

-- the cells share a latitude and a longitude
unfoldable pub squares_meet : Cell → Cell → Bool
squares_meet c d = runs_meet c.south c.height d.south d.height && arcs_meet c.west c.width d.west d.width

-- the records share a layer
unfoldable pub layers_meet : Reservation → Reservation → Bool
layers_meet a b = runs_meet a.space.floor a.space.thickness b.space.floor b.space.thickness

-- the records share a minute, a square and a layer
unfoldable pub conflict_test : Reservation → Reservation → Bool
conflict_test a b = minutes_meet a.start a.end b.start b.end && (squares_meet a.space.cell b.space.cell && layers_meet a b)
