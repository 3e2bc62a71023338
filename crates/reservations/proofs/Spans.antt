-- The test of two ranges, as it is computed over i64: at the minutes of two records, and at two runs of whole numbers.
-- Assumes nothing.
use mathlib.Core.Path.{◌≡◌}
use mathlib.Core.Bool.{true}
use Prim.Native.Nat.{ℕ, ◌+◌, ◌-◌, ◌<◌}
use native.Mathlib.Omega.{arith}
use borrow.Author.Differences.{up, down}
use lib.Dec.{ltb}
use lib.IntN.{ℤ, pos, negsuc, ◌+ℤ◌}
use Rattle.std.specs.Int.{int_max, int_min}
use lib.Signed.{lt_z, ◌<ℤ◌}
use borrow.Author.Tests.{ltb-true, lt-ltb}
use Rattle.std.proofs.lemmas.Int.{ints, clamps}
use mir.Facts.{to_z-of_z}
use Rattle.grid.specs.Cells.{above}
use Rattle.std.proofs.lemmas.Float.{T_from_true}
use Rattle.grid.proofs.Cut.{and_true, and_make, same_bool}
use Rattle.reservations.specs.Meeting.{minutes_meet, runs_meet}
use Rattle.reservations.specs.inner.Spans.{spans_meet}

pub minutes_computed : (a b c d : ℕ) → spans_meet (pos a) (pos b) (pos c) (pos d) ≡ minutes_meet a b c d
unfolding minutes_meet
minutes_computed a b c d = grind (arith, ints, clamps)

above_is : (f g : ℤ) → above f g ≡ up g + down f - (up f + down g)
above_is (pos a) (pos b) = omega arith
above_is (pos a) (negsuc b) = omega arith
above_is (negsuc a) (pos b) = omega arith
above_is (negsuc a) (negsuc b) = omega arith

below_is : (a b : ℤ) → a <ℤ b → lt_z a b ≡ true
below_is a b h = grind (arith, ints)

pub runs_computed : (f g : ℤ) (n m : ℕ) → spans_meet f (f +ℤ pos n) g (g +ℤ pos m) ≡ runs_meet f n g m
unfolding runs_meet
runs_computed f g n m =
    same_bool _ _
    (λ e. let h : int_max f g <ℤ int_min (f +ℤ pos n) (g +ℤ pos m) = record { lt = T_from_true _ e } in
    and_make _ _ (lt-ltb (above f g) n (omega (arith, ints, clamps, above_is f g))) (lt-ltb (above g f) m (omega (arith, ints, clamps, above_is g f))))
    (λ e. let k = and_true (ltb (above f g) n) (ltb (above g f) m) e in
    let h : above f g < n = ltb-true _ _ k.0 in
    let l : above g f < m = ltb-true _ _ k.1 in
    below_is (int_max f g) (int_min (f +ℤ pos n) (g +ℤ pos m)) (omega (arith, ints, clamps, above_is f g, above_is g f)))

-- for the functions that compute the tests
pub ruleset computed = (to_z-of_z, minutes_computed, runs_computed)
