-- The test of two ranges of whole numbers, as it is computed.
-- Assumes nothing.
use Rattle.std.specs.Prelude.{Bool, ℤ}
use Rattle.std.specs.Int.{int_max, int_min}
use Rattle.std.specs.Int.Signed.{lt_z}

-- the numbers from a to b and those from c to d, the ends not included, have one in common: the higher beginning stands below the lower end
abbrev pub spans_meet : ℤ → ℤ → ℤ → ℤ → Bool
spans_meet a b c d = lt_z (int_max a c) (int_min b d)
