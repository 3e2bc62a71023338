-- Arc-second readings in whole units (document 01, "Arc-seconds", with the ends of document 02's Wish 2; refusals 11, 2, 3).
-- A finite f64 is its sign s, whole significand m and power of two e: m * 2 ^ e, below 0 where s is true; 2 ^ e is `up e` / `down e`.
-- Assumes nothing.
use Rattle.std.specs.Prelude.{Bool, true, false, not, ◌||◌, ℕ, zero, suc, ◌*◌, ◌/◌, ℤ, pos, negsuc, neg_ℤ, ◌*ℤ◌, ◌≤ℤ◌, ◌<ℤ◌, T, Float}
use Rattle.std.proofs.Math.IntN.{suc_ℤ}
use Rattle.std.specs.Float.{nan, inf, fin}
use Rattle.std.specs.Float.Ieee.{up, down, is_nan}
use Rattle.grid.specs.Units.{HALF, QUARTER}
use Rattle.grid.specs.Ends.{in_range}
use Rattle.grid.specs.Answers.{Answer, accepted, refused, refusal, unless, and_then}
use Rattle.arcseconds.specs.declared.Units.{Units}

-- the greatest whole number not above n / d, or not above - n / d where s is true
abbrev pub greatest_whole : Bool → ℕ → ℕ → ℤ
greatest_whole false n d = pos (n / d)
greatest_whole true zero d = pos 0
greatest_whole true (suc n) d = negsuc (n / d)

-- one reading: the greatest whole units not above 2048 times it, or refusal n where the reading itself lies outside the range, as either infinity does
unfoldable pub reading_of : ℕ → ℕ → Float → Answer ℤ
reading_of n half nan = refused (refusal n 0)
reading_of n half (inf s) = refused (refusal n 0)
reading_of n half (fin s m e) =
    unless (in_range half (2048 * (m * up e)) (down e)) (refusal n 0) (accepted (greatest_whole s (2048 * (m * up e)) (down e)))

-- a position in whole units
abbrev pub units : ℤ → ℤ → Units
units u v = record { longitude = u; latitude = v }

-- the longitude's refusal, then the latitude's, else the position
unfoldable pub units_at : Answer ℤ → Answer ℤ → Answer Units
units_at x y = and_then x (λ u. and_then y (λ v. accepted (units u v)))

-- 11: either reading is not a number; then 2: longitude outside its range; then 3: latitude outside its range
unfoldable pub units_of : Float → Float → Answer Units
units_of x y =
    unless (not (is_nan x || is_nan y)) (refusal 11 0) (units_at (reading_of 2 HALF x) (reading_of 3 QUARTER y))

-- ---- what it means that units are the greatest whole ones not above a reading

-- n, or - n where s is true
abbrev pub signed : Bool → ℕ → ℤ
signed false n = pos n
signed true n = neg_ℤ (pos n)

-- u ≤ 2048 * x < u + 1, multiplied clear of the power of two
unfoldable pub Floors : Float → ℤ → Type 0
Floors nan u = ⊥
Floors (inf s) u = ⊥
Floors (fin s m e) u =
    ((u *ℤ pos (down e)) ≤ℤ signed s (2048 * (m * up e))) × (signed s (2048 * (m * up e)) <ℤ (suc_ℤ u *ℤ pos (down e)))

-- -half ≤ 2048 * x ≤ half, multiplied clear of the power of two: both ends of a range lie in it
unfoldable pub ReadsIn : ℕ → Float → Type 0
ReadsIn half nan = ⊥
ReadsIn half (inf s) = ⊥
ReadsIn half (fin s m e) =
    (neg_ℤ (pos (half * down e)) ≤ℤ signed s (2048 * (m * up e))) × (signed s (2048 * (m * up e)) ≤ℤ pos (half * down e))

-- x is not finite, or lies outside the range
abbrev pub Beyond : ℕ → Float → Type 0
Beyond half x = ReadsIn half x → ⊥

-- the answers to two readings, each with its reason, in the paper's order
pub data Why (x y : Float) : Answer Units → Type 0 where
  -- 11: either is not a number
  eleven : T (is_nan x || is_nan y) → Why x y (refused (refusal 11 0))
  -- 2: both are numbers, and the longitude lies outside its range
  two : T (not (is_nan x || is_nan y)) → Beyond HALF x → Why x y (refused (refusal 2 0))
  -- 3: both are numbers, the longitude lies in its range, and the latitude outside its own
  three : T (not (is_nan x || is_nan y)) → ReadsIn HALF x → Beyond QUARTER y → Why x y (refused (refusal 3 0))
  -- the position: both lie in their ranges, and these are the greatest whole units not above either
  position : {u v : ℤ} → ReadsIn HALF x → ReadsIn QUARTER y → Floors x u → Floors y v → Why x y (accepted (units u v))
