-- `shifted` meets its contract: of a number below 2 ^ 53 nothing is left by a shift of 64 and more.
-- Assumes nothing.
use mathlib.Core.Path.{refl, sym}
use native.Mathlib.Nat.{div-eq_of_lt, lt_of_lt_of_le}
use native.Mathlib.Omega.{arith}
use lib.Pow.{pow_mono}
use Rattle.arcseconds.proofs.shifted.Goals as goal

pub returns-then-exponent-lt1001 : goal.returns-then-exponent-lt1001
returns-then-exponent-lt1001 c = sym (div-eq_of_lt (lt_of_lt_of_le c.requires.0 (pow_mono {i = 53} (omega arith))))

pub returns : goal.returns
returns c = refl
