-- The ranges of longitude and latitude, and the unit that stands for each of their numbers (document 02, Wish 2).
-- Assumes nothing.
use Rattle.std.specs.Prelude.{ℕ, ◌-◌, ◌*◌, Bool, cond, ℤ, pos, negsuc, ◌==◌, nat_le, unsigned_abs}
use Rattle.grid.specs.declared.Refusal.{Refusal}
use Rattle.grid.specs.Units.{unit}
use Rattle.grid.specs.Answers.{Answer, accepted, unless}

-- a size n / d lies in the range that ends half units either way from 0: both ends lie in it
abbrev pub in_range : ℕ → ℕ → ℕ → Bool
in_range half n d = nat_le n (half * d)

-- the unit that a number stands for: the upper end for the last unit of a side (up: from 0 on, else below 0), every other number for itself
abbrev pub stands_for : ℕ → Bool → ℤ → ℤ
stands_for half up (pos n) = cond (n == half) (unit up (half - 1)) (pos n)
stands_for half up (negsuc n) = negsuc n

-- the unit that a number of the range -half to half stands for, or the refusal r
unfoldable pub unit_in : Refusal → ℕ → Bool → ℤ → Answer ℤ
unit_in r half up u = unless (in_range half (unsigned_abs u) 1) r (accepted (stands_for half up u))
