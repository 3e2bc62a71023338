-- What the ordinary reader is given: the zone and the row of a code, and its level, which its length n tells.
-- Assumes nothing.
use Rattle.std.specs.Prelude.{◌≡◌, Bool, ℕ, ◌≤◌, ◌<◌}
use Rattle.grid.specs.Splits.{first}
use Rattle.grid.specs.inner.Standing.{length_in}

pub record SheetCode (spaced : Bool) (level zone row n : ℕ) : Type 0 where
  pub some_level : 1 ≤ level
  pub last_level : level ≤ 10
  pub some_zone : 1 ≤ zone
  pub last_zone : zone ≤ first.columns
  pub last_row : row < first.rows
  pub length_is : n ≡ length_in spaced level
