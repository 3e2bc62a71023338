-- A layer that is asked for, and the layers that height characters lead to, over any list of radices (document 01, "Layers and the space code").
-- What `layers` answers.
-- Assumes nothing.
use Rattle.std.specs.Prelude.{Bool, List, [], ◌∷◌, map, ℕ, ltb, ℤ, Result, Ok, Err, take}
use Rattle.grid.specs.declared.Refusal.{Refusal}
use Rattle.grid.specs.Units.{side, index}
use Rattle.grid.specs.Tree.{Read, ok, bad, follow}
use Rattle.grid.specs.Answers.{Answer, accepted, refused, refusal, unless}
use Rattle.grid.specs.Layers.{product, rise, Stack, all, part, Radix, layers}
use Rattle.layers.specs.declared.Layer.{Layer}
use Rattle.layers.specs.declared.Layers.{Layers}

-- ---- a layer that is asked for

-- 4: layer outside its range
abbrev pub outside_layers : Refusal
outside_layers = refusal 4 0

-- a layer's side of the ground and its rise, or 4
abbrev pub asked_of : List ℕ → ℤ → Answer (Bool × ℕ)
asked_of rs z = unless (ltb (index z) (product rs)) outside_layers (accepted (side z, rise (product rs) z))

-- the answer in the paper's numbers: the side and the rise, or the refusal
abbrev pub layer_asked : Result Layer Refusal → Answer (Bool × ℕ)
layer_asked (Ok l) = accepted (l.above, l.rise)
layer_asked (Err r) = refused r

-- ---- height characters that are read

-- a level after the first has one character
abbrev pub later_height : ℕ → Radix
later_height r = record { characters = 1; radix = r }

-- the levels of the height: the first has the sign and two decimal digits
abbrev pub height_levels : List ℕ → List Radix
height_levels [] = []
height_levels (r ∷ rs) = record { characters = 3; radix = r } ∷ map later_height rs

-- the layers that the height digits of a code of level l lead to, or the place of the first that is not allowed
unfoldable pub height_read : List ℕ → ℕ → List ℕ → Read Stack
height_read rs l ds = follow (layers (product rs)) (take l (height_levels rs)) all ds

-- the same as the code has it: so many layers from a lowest one on, or the place
abbrev pub layers_read : Result Layers ℕ → Read Stack
layers_read (Ok m) = ok (part m.lowest.above m.lowest.rise m.thickness)
layers_read (Err p) = bad p
