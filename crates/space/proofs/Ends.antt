-- The space code at the ends of the ranges: plane's laws about the square, at every edition, level and layer (document 02, Wish 2).
-- Assumes nothing.
use mathlib.Core.Path.{◌≡◌, ap}
use mathlib.Core.List.{List}
use Prim.Native.Nat.{ℕ, ◌-◌}
use lib.IntN.{ℤ, pos, negsuc}
use Rattle.grid.specs.Units.{HALF, QUARTER, Square, OnGlobe}
use Rattle.grid.specs.Answers.{Answer, and_then}
use Rattle.grid.specs.Layers.{edition_in}
use Rattle.plane.specs.Text.{level_in}
use Rattle.plane.proofs.Ends as plane
use Rattle.space.specs.Space.{layered_text, space_text}

module _ (edition level layer : ℤ) where
  -- what is written, once the square is answered
  abbrev over : Answer Square → Answer (List ℕ)
  over q = and_then (level_in level) (λ l. and_then (edition_in edition) (λ rs. and_then q (λ s. layered_text rs l s layer)))

  -- a position on the globe gets the code of its own square, as it did in document 01
  pub own_code : (s : Square) → OnGlobe s
      → space_text edition level s.longitude s.latitude layer ≡ and_then (level_in level) (λ l. and_then (edition_in edition) (λ rs. layered_text rs l s layer))
  unfolding space_text
  own_code s o = ap over (plane.own_square 1 s o)

  -- 180° is -180°, at every latitude
  pub half_turn_code : (latitude : ℤ) → space_text edition level (pos HALF) latitude layer ≡ space_text edition level (negsuc (HALF - 1)) latitude layer
  unfolding space_text
  half_turn_code latitude = ap over (plane.half_turn 1 latitude)

  -- 90° is one unit south of it, at every longitude
  pub pole_code : (longitude : ℤ) → space_text edition level longitude (pos QUARTER) layer ≡ space_text edition level longitude (pos (QUARTER - 1)) layer
  unfolding space_text
  pole_code longitude = ap over (plane.pole 1 longitude)
