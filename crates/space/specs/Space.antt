-- What a space code writer is to write, in document 01's numbers.
-- Assumes nothing.
use Rattle.std.specs.Prelude.{List, ℕ, ltb, ℤ}
use Rattle.grid.specs.Units.{index, Square}
use Rattle.grid.specs.Answers.{Answer, accepted, refusal, unless, and_then}
use Rattle.grid.specs.Layers.{edition_in, product}
use Rattle.grid.specs.Space.{space_code_of}
use Rattle.plane.specs.Text.{level_in, square_in}

-- within an edition: refusal 4, else the space code of a square and a layer
unfoldable pub layered_text : List ℕ → ℕ → Square → ℤ → Answer (List ℕ)
layered_text rs l s layer = unless (ltb (index layer) (product rs)) (refusal 4 0) (accepted (space_code_of rs l (s, layer)))

-- 2 and 3 in that order, else what the layer decides, at level l
abbrev pub space_text_at : List ℕ → ℕ → ℤ → ℤ → ℤ → Answer (List ℕ)
space_text_at rs l longitude latitude layer = and_then (square_in 1 longitude latitude) (λ s. layered_text rs l s layer)

-- 13, else what the edition makes of it, at level l
abbrev pub space_text_in : ℤ → ℕ → ℤ → ℤ → ℤ → Answer (List ℕ)
space_text_in edition l longitude latitude layer = and_then (edition_in edition) (λ rs. space_text_at rs l longitude latitude layer)

-- 1, 13, 2, 3 and 4 in that order, else the space code
unfoldable pub space_text : ℤ → ℤ → ℤ → ℤ → ℤ → Answer (List ℕ)
space_text edition level longitude latitude layer = and_then (level_in level) (λ l. space_text_in edition l longitude latitude layer)
