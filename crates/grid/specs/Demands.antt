-- What is asked of a family of codes (document 01 and the demands): stated once, over the calls' own definitions.
-- Assumes nothing.
use Rattle.std.specs.Prelude.{◌≡◌, ℕ, ◌≤◌, ◌⊎◌, ◌↔◌, List, ◌++◌}
use Rattle.grid.specs.declared.Cell.{Cell}
use Rattle.grid.specs.declared.SpaceCell.{SpaceCell}
use Rattle.grid.specs.Units.{Square, OnGlobe, Cube}
use Rattle.grid.specs.Answers.{Answer, accepted}
use Rattle.grid.specs.Places.{Accepted}
use Rattle.grid.specs.Cells.{Covers, CoversCube}
use Rattle.grid.specs.Plane.{code_of, cell_of}
use Rattle.grid.specs.Space.{OnGrid, space_code_of, space_cell_of}

-- a family of codes as its callers see it: points (unit squares or cubes), cells, and the two ways between
pub record Family : Type 1 where
  pub levels : ℕ  -- 1 to so many
  pub Point : Type 0
  pub Cell : Type 0
  pub On : Point → Type 0  -- the point lies in the ranges
  pub Coded : ℕ → Point → Type 0  -- and has a code of that level
  pub Covers : Cell → Point → Type 0  -- the cell has the point
  pub level : Cell → ℕ
  pub code_of : ℕ → Point → List ℕ
  pub cell_of : List ℕ → Answer Cell

-- the code w begins with the code a
abbrev pub Begins : List ℕ → List ℕ → Type 0
Begins a w = (r : List ℕ) × (a ++ r ≡ w)

module _ (F : Family) where
  -- some point and level get the code w
  pub record Given (w : List ℕ) : Type 0 where
    pub level : ℕ
    pub low : 1 ≤ level
    pub high : level ≤ F.levels
    pub point : F.Point
    pub coded : F.Coded level point
    pub same : F.code_of level point ≡ w

  -- two cells share a point
  pub record Share (c d : F.Cell) : Type 0 where
    pub point : F.Point
    pub on : F.On point
    pub first : F.Covers c point
    pub second : F.Covers d point

  pub record Demands : Type 0 where
    -- each point, at each level where it has a code: that code is accepted, its cell has that level and holds the point
    pub each_has_its_cell : (l : ℕ) (s : F.Point) → F.Coded l s → 1 ≤ l → l ≤ F.levels
        → (c : F.Cell) × (F.cell_of (F.code_of l s) ≡ accepted c) × (F.level c ≡ l) × F.Covers c s
    -- and no other accepted code's cell of that level does
    pub no_other : (w : List ℕ) (c : F.Cell) (s : F.Point) → F.On s → F.cell_of w ≡ accepted c → F.Covers c s
        → w ≡ F.code_of (F.level c) s
    -- a finer level only adds characters at the end
    pub finer_only_adds : (l k : ℕ) (s : F.Point) → l ≤ k → Begins (F.code_of l s) (F.code_of k s)
    -- two accepted codes' cells share a point exactly when one code begins with the other
    pub share_exactly_when : (a b : List ℕ) (c d : F.Cell) → F.cell_of a ≡ accepted c → F.cell_of b ≡ accepted d
        → Share c d ↔ (Begins a b ⊎ Begins b a)
    -- and the longer code's cell lies inside the shorter's
    pub longer_inside : (a b : List ℕ) (c d : F.Cell) → F.cell_of a ≡ accepted c → F.cell_of b ≡ accepted d → Begins a b
        → (s : F.Point) → F.On s → F.Covers d s → F.Covers c s
    -- a code is accepted exactly when some point and level get it
    pub accepted_exactly_when : (w : List ℕ) → Accepted F.cell_of w ↔ Given w
    -- its cell's points are exactly those that have a code of its level and get this one
    pub points_exactly : (w : List ℕ) (c : F.Cell) (s : F.Point) → F.cell_of w ≡ accepted c → F.On s
        → F.Covers c s ↔ (F.Coded (F.level c) s × (F.code_of (F.level c) s ≡ w))

-- plane codes over unit squares
abbrev pub plane_family : Family
plane_family =
    record {
      levels = 10;
      Point = Square;
      Cell = Cell;
      On = OnGlobe;
      Coded = λ l s. OnGlobe s;
      Covers = Covers;
      level = λ c. c.level;
      code_of = code_of;
      cell_of = cell_of;
    }

-- an edition's space codes over unit cubes
abbrev pub space_family : List ℕ → Family
space_family rs =
    record {
      levels = 10;
      Point = Cube;
      Cell = SpaceCell;
      On = OnGrid rs;
      Coded = λ l s. OnGrid rs s;
      Covers = CoversCube;
      level = λ c. c.cell.level;
      code_of = space_code_of rs;
      cell_of = space_cell_of rs;
    }
