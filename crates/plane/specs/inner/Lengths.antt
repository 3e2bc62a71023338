-- The level that a code's length tells, as a number; and the length of a level's space codes.
-- Assumes nothing.
use Rattle.std.specs.Prelude.{◌≡◌, ℕ, ◌≤◌, true, map, Option, Some, None}
use Rattle.std.proofs.Math.Option as math
use Rattle.grid.specs.Splits.{splits}
use Rattle.grid.specs.Codes.{place_in}
use Rattle.grid.specs.inner.Standing.{length_in}

-- the place that was found, as the code hands it back
abbrev pub found : math.Option ℕ → Option ℕ
found math.none = None
found (math.some l) = Some l

-- the level of the plane codes that are n bytes long, if there is one
unfoldable pub level_of : ℕ → Option ℕ
level_of n = found (place_in n 1 (map (λ t. t.length) splits))

-- a level, and the length of its space codes
pub record SpaceCode (level n : ℕ) : Type 0 where
  pub some : 1 ≤ level
  pub most : level ≤ 10
  pub long : n ≡ length_in true level
