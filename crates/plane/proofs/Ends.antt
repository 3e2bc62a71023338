-- What a position at the upper end of a range gets, and that every other position gets what it did before (document 02, Wish 2).
-- Assumes nothing.
use Rattle.std.proofs.Common.{◌≡◌, ℕ, ◌-◌, ◌<◌, ◌≤◌, true, false, List, ℤ, pos, negsuc, sym, ap, ◌∙◌, ap₂, arith}
use Rattle.grid.specs.Units.{HALF, QUARTER, index, Square, OnGlobe}
use Rattle.grid.specs.Ends.{unit_in}
use Rattle.grid.specs.Answers.{Answer, accepted, refused, refusal, about, and_then}
use Rattle.grid.specs.Plane.{code_of}
use Rattle.grid.proofs.Ends.{unit_own, unit_end, unit_outside}
use Rattle.plane.specs.Text.{level_in, square_in, plane_text}

-- ---- the square of the k-th position of a call

module _ (k : ℕ) where
  -- what is answered, once both numbers are
  abbrev of_units : Answer ℤ → Answer ℤ → Answer Square
  of_units a b = and_then a (λ u. and_then b (λ v. accepted (record { longitude = u; latitude = v })))

  -- a position on the globe is its own square, as in document 01
  pub own_square : (s : Square) → OnGlobe s → square_in k s.longitude s.latitude ≡ accepted s
  unfolding square_in
  own_square s o =
      ap₂ of_units (unit_own (about k (refusal 2 0)) HALF false s.longitude o.longitude_in) (unit_own (about k (refusal 3 0)) QUARTER true s.latitude o.latitude_in)

  -- as in document 01 too: 2 for every longitude off the globe but 180°, 3 for every latitude but 90°
  pub longitude_refused : (u v : ℤ) → HALF ≤ index u → (u ≡ pos HALF → ⊥) → square_in k u v ≡ refused (about k (refusal 2 0))
  unfolding square_in
  longitude_refused u v h d = ap (λ (a : Answer ℤ). of_units a (unit_in (about k (refusal 3 0)) QUARTER true v)) (unit_outside (about k (refusal 2 0)) HALF false u h d)

  pub latitude_refused : (u v : ℤ) → index u < HALF → QUARTER ≤ index v → (v ≡ pos QUARTER → ⊥) → square_in k u v ≡ refused (about k (refusal 3 0))
  unfolding square_in
  latitude_refused u v i h d = ap₂ of_units (unit_own (about k (refusal 2 0)) HALF false u i) (unit_outside (about k (refusal 3 0)) QUARTER true v h d)

  -- 180° is -180°, at every latitude
  pub half_turn : (v : ℤ) → square_in k (pos HALF) v ≡ square_in k (negsuc (HALF - 1)) v
  unfolding square_in
  half_turn v =
      ap (λ (a : Answer ℤ). of_units a (unit_in (about k (refusal 3 0)) QUARTER true v)) (unit_end (about k (refusal 2 0)) HALF false ∙ sym (unit_own (about k (refusal 2 0)) HALF false (negsuc 1327103999) (omega arith)))

  -- 90° is one unit south of it, at every longitude
  pub pole : (u : ℤ) → square_in k u (pos QUARTER) ≡ square_in k u (pos (QUARTER - 1))
  unfolding square_in
  pole u =
      ap (of_units (unit_in (about k (refusal 2 0)) HALF false u)) (unit_end (about k (refusal 3 0)) QUARTER true ∙ sym (unit_own (about k (refusal 3 0)) QUARTER true (pos 663551999) (omega arith)))

-- ---- the plane code, at every level

module _ (level : ℤ) where
  -- what is written, once the square is answered
  abbrev over : Answer Square → Answer (List ℕ)
  over q = and_then (level_in level) (λ l. and_then q (λ s. accepted (code_of l s)))

  -- a position on the globe gets the code of its own square, as in document 01
  pub own_code : (s : Square) → OnGlobe s → plane_text level s.longitude s.latitude ≡ and_then (level_in level) (λ l. accepted (code_of l s))
  unfolding plane_text
  own_code s o = ap over (own_square 1 s o)

  -- 180° is -180°, at every latitude
  pub half_turn_code : (latitude : ℤ) → plane_text level (pos HALF) latitude ≡ plane_text level (negsuc (HALF - 1)) latitude
  unfolding plane_text
  half_turn_code latitude = ap over (half_turn 1 latitude)

  -- 90° is one unit south of it, at every longitude
  pub pole_code : (longitude : ℤ) → plane_text level longitude (pos QUARTER) ≡ plane_text level longitude (pos (QUARTER - 1))
  unfolding plane_text
  pole_code longitude = ap over (pole 1 longitude)
