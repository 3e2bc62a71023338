-- How far it is from one number to another, round a full turn. Longitudes a turn apart are the same.
-- Assumes nothing.
use Rattle.std.specs.Prelude.{ℕ, ◌+◌, ◌-◌, ◌%◌, ℤ}
use Rattle.grid.specs.Units.{TURN}
use Rattle.grid.specs.Cells.{around}

-- the units from one number to another, eastward or northward
unfoldable pub between : ℤ → ℤ → ℕ
between a b = (around b + (TURN - around a)) % TURN
