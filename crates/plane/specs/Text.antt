-- What a plane code writer is to write: refusals 1, 2 and 3, or the code.
-- Assumes nothing.
use Rattle.std.specs.Prelude.{ℕ, true, false, ◌&&◌, List, ℤ, pos, negsuc, nat_le, nat_lt}
use Rattle.grid.specs.Units.{HALF, QUARTER, Square}
use Rattle.grid.specs.Ends.{unit_in}
use Rattle.grid.specs.Answers.{Answer, accepted, refused, refusal, about, unless, and_then}
use Rattle.grid.specs.Plane.{code_of}

-- the level, or 1 where it is outside 1 to 10
unfoldable pub level_in : ℤ → Answer ℕ
level_in (pos n) = unless (nat_lt 0 n && nat_le n 10) (refusal 1 0) (accepted n)
level_in (negsuc n) = refused (refusal 1 0)

-- the square of a position, or 2 and 3 in that order; k says which of its call's positions it is. Longitude 1,327,104,000 is -1,327,104,000, the last
-- unit below 0 (false); latitude 663,552,000 is 663,551,999, the last from 0 on (true)
unfoldable pub square_in : ℕ → ℤ → ℤ → Answer Square
square_in k longitude latitude =
    and_then (unit_in (about k (refusal 2 0)) HALF false longitude) (λ u.
    and_then (unit_in (about k (refusal 3 0)) QUARTER true latitude) (λ v. accepted (record { longitude = u; latitude = v })))

-- 2 and 3 in that order, else the plane code of level l
abbrev pub plane_text_at : ℕ → ℤ → ℤ → Answer (List ℕ)
plane_text_at l longitude latitude = and_then (square_in 1 longitude latitude) (λ s. accepted (code_of l s))

-- 1, 2 and 3 in that order, else the plane code
unfoldable pub plane_text : ℤ → ℤ → ℤ → Answer (List ℕ)
plane_text level longitude latitude = and_then (level_in level) (λ l. plane_text_at l longitude latitude)
