-- Where the height characters of a space code stand: within the code.
-- Assumes nothing.
use mathlib.Core.Path.{◌≡◌, refl}
use mathlib.Core.Bool.{Bool, true}
use Prim.Native.Nat.{ℕ, ◌+◌, ◌≤◌, ◌<◌}
use native.Mathlib.Omega.{arith}
use lib.Dec.{ltb}
use borrow.Author.Tests.{ltb-true}
use Rattle.grid.specs.inner.Standing.{length_in, height_place}
use Rattle.grid.proofs.Cut.{all_below, below}

-- one test of each level and each of its height characters
reach : (level p : ℕ) → level ≤ 10 → p < 2 + level → height_place p < length_in true level
unfolding height_place
reach level p h l = ltb-true _ _ (below (at level) (2 + level) p (below (λ n. all_below (at n) (2 + n)) 11 level refl (omega arith)) l)
  where
    at : ℕ → ℕ → Bool
    at level p = ltb (height_place p) (length_in true level)

pub place_in : (level i : ℕ) {p n : ℕ} → level ≤ 10 → length_in true level ≤ n → i < 2 + level → p ≡ height_place i → p < n
place_in level i h r l e = omega (arith, reach level i h l)
