-- What the polar reader is given.
-- Assumes nothing.
use Rattle.std.specs.Prelude.{◌≡◌, Bool, List, ℕ, ◌≤◌, length}
use Rattle.grid.specs.inner.Standing.{length_in}

-- the code w, of space where `spaced` is true, is as long as one of its level
pub record OfLevel (spaced : Bool) (level : ℕ) (w : List ℕ) : Type 0 where
  pub some : 1 ≤ level
  pub most : level ≤ 10
  pub long : length w ≡ length_in spaced level
