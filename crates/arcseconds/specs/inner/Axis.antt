-- What one axis answers: its whole units, or that the reading lies outside the range; and what it works out before the upper end is looked at.
-- Assumes nothing.
use Rattle.std.specs.Prelude.{◌≡◌, ℕ, ◌*◌, ◌^◌, ◌<◌, ltb, ℤ, nat_abs, Float, Option, Some, None}
use Rattle.std.specs.Float.{nan, inf, fin, binary64}
use Rattle.std.specs.Float.Ieee.{up, down, of_int}
use Rattle.grid.specs.Units.{index}
use Rattle.grid.specs.Answers.{Answer, accepted, refused, refusal, unless}
use Rattle.arcseconds.specs.Readings.{greatest_whole}
use Rattle.arcseconds.specs.Boxes.{Exactly}

-- the answer in the paper's numbers: the units, or the axis's refusal n, which is 2 for a longitude and 3 for a latitude
abbrev pub reading_answer : ℕ → Option ℤ → Answer ℤ
reading_answer n (Some u) = accepted u
reading_answer n None = refused (refusal n 0)

-- a number whose outward index is below half, or refusal n
abbrev pub index_below : ℕ → ℕ → ℤ → Answer ℤ
index_below n half u = unless (ltb (index u) half) (refusal n 0) (accepted u)

-- what `axis` works out: the greatest whole units not above 2048 times a reading, where their outward index is below half
unfoldable pub indexed_of : ℕ → ℕ → Float → Answer ℤ
indexed_of n half nan = refused (refusal n 0)
indexed_of n half (inf s) = refused (refusal n 0)
indexed_of n half (fin s m e) = index_below n half (greatest_whole s (2048 * (m * up e)) (down e))

-- x is u / 2048, where u is the whole number below 2 ^ 53 that becomes each f64 that is given
abbrev pub SecondsFrom : (Float → Type 0) → Float → Type 0
SecondsFrom given x = (u : ℤ) → nat_abs u < 2 ^ 53 → ((f : Float) → given f → f ≡ of_int binary64 u) → Exactly u x
