-- Space codes: the plane's tree and the layers' side by side. An edition is its list of radices.
-- Assumes nothing.
use Rattle.std.specs.Prelude.{ℕ, ◌<◌, true, false, List, [], ◌∷◌, ℤ}
use Rattle.grid.specs.declared.Split.{Split}
use Rattle.grid.specs.declared.SpaceCell.{SpaceCell}
use Rattle.grid.specs.Units.{index, OnGlobe, Cube}
use Rattle.grid.specs.Tree.{Tree}
use Rattle.grid.specs.Answers.{Answer, and_then}
use Rattle.grid.specs.Codes.{Codes, code_in, read_in}
use Rattle.grid.specs.Splits.{splits}
use Rattle.grid.specs.Plane.{Node, globe, plane, cell_at}
use Rattle.grid.specs.Layers.{edition_in, product, Stack, all, layers, floor_of, thickness_of}
use Rattle.grid.specs.Both.{Pair, both}

-- plane cells and layers, side by side
abbrev pub space : ℕ → Tree
space top = both plane (layers top)

-- each later level has its plane characters, then one height character
abbrev pub later_levels : (top : ℕ) → List Split → List ℕ → List (Pair plane (layers top))
later_levels top [] rs = []
later_levels top (t ∷ ts) [] = []
later_levels top (t ∷ ts) (r ∷ rs) =
    record { lead = false; one = t; two = record { characters = 1; radix = r } } ∷ later_levels top ts rs

-- the first level begins with N or S and the sign
abbrev pub space_levels : (top : ℕ) → List Split → List ℕ → List (Pair plane (layers top))
space_levels top [] rs = []
space_levels top (t ∷ ts) [] = []
space_levels top (t ∷ ts) (r ∷ rs) =
    record { lead = true; one = t; two = record { characters = 3; radix = r } } ∷ later_levels top ts rs

-- the plane cell with layer floor and thickness
abbrev pub space_cell_at : ℕ → ℕ → Node × Stack → SpaceCell
space_cell_at top l n = record { cell = cell_at l n.0; floor = floor_of top n.1; thickness = thickness_of top n.1 }

-- the lengths of space codes, level by level
abbrev pub space_lengths : List ℕ
space_lengths = 7 ∷ 10 ∷ 12 ∷ 15 ∷ 18 ∷ 20 ∷ 23 ∷ 26 ∷ 29 ∷ 32 ∷ []

-- space codes over a list of radices
unfoldable pub space_codes : List ℕ → Codes
space_codes rs =
    record {
      tree = space (product rs);
      levels = space_levels (product rs) splits rs;
      root = (globe, all);
      lengths = space_lengths;
      Cell = SpaceCell;
      cell_at = space_cell_at (product rs);
    }

-- the square lies on the globe, and the layer in the edition's range
pub record OnGrid (rs : List ℕ) (s : Cube) : Type 0 where
  pub on_globe : OnGlobe s.0
  pub layer_in : index s.1 < product rs

-- within an edition: level, position and layer to space code
unfoldable pub space_code_of : List ℕ → ℕ → Cube → List ℕ
unfolding space_codes
space_code_of rs l s = code_in (space_codes rs) l s

-- within an edition: bytes to the space cell, or refusal 6, or 7 or 20 with its place in the whole space code
unfoldable pub space_cell_of : List ℕ → List ℕ → Answer SpaceCell
unfolding space_codes
space_cell_of rs w = read_in (space_codes rs) w

-- 13, else what the edition makes of the bytes
abbrev pub space_cell_in : ℤ → List ℕ → Answer SpaceCell
space_cell_in edition w = and_then (edition_in edition) (λ rs. space_cell_of rs w)
