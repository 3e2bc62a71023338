-- The two constant tables, as src/lib.rt has them: the splits of the ten levels, and where the sixteen polar cells of level 2 begin.
-- Assumes nothing.
use Rattle.std.specs.Prelude.{ℕ, ◌+◌, ◌*◌, List, [], ◌∷◌, map, slice_index_or}
use Rattle.grid.specs.declared.Split.{Split}
use Rattle.grid.specs.declared.PolarCell.{PolarCell}
use Rattle.grid.specs.Units.{MINUTE, DEGREE}

-- columns and rows, unit width and height, characters and length;
-- then into how many rows a polar cell or a cap divides, and into how many columns a cap's rows but the innermost do
abbrev pub split : ℕ → ℕ → ℕ → ℕ → ℕ → ℕ → ℕ → ℕ → Split
split c r w h n l p k =
    record { columns = c; rows = r; width = w; height = h; characters = n; length = l; inward = p; ring = k }

-- level 1; about a pole it has one cell
abbrev pub first : Split
first = split 60 22 44236800 29491200 4 4 1 1

-- level 2; N000 and S000 have four rows of 30', and the row about the cap has three columns
abbrev pub second : Split
second = split 12 8 3686400 3686400 2 6 4 3

-- the ten levels
abbrev pub splits : List Split
splits =
    first
    ∷ second
    ∷ split 2 3 1843200 1228800 1 7 2 3
    ∷ split 15 10 122880 122880 2 9 15 15
    ∷ split 15 15 8192 8192 2 11 15 15
    ∷ split 2 2 4096 4096 1 12 2 2
    ∷ split 8 8 512 512 2 14 8 8
    ∷ split 8 8 64 64 2 16 8 8
    ∷ split 8 8 8 8 2 18 8 8
    ∷ split 8 8 1 1 2 20 8 8
    ∷ []

-- the lengths of plane codes, level by level: 4, 6, 7, 9, 11, 12, 14, 16, 18, 20
abbrev pub plane_lengths : List ℕ
plane_lengths = map (λ t. t.length) splits

-- place k is level k + 1
abbrev pub split_at : ℕ → Split
split_at k = slice_index_or splits k (split 0 0 0 0 0 0 0 0)

-- the west edge in eastward units, and the latitude index of the edge farther from the pole
abbrev pub begins : ℕ → ℕ → PolarCell
begins w l = record { west = w; low = l }

-- place 4a + b is the cell with the digits a and b
abbrev pub polar_cells : List PolarCell
polar_cells =
    begins (0 * DEGREE) (89 * DEGREE + 30 * MINUTE)
    ∷ begins (0 * DEGREE) (89 * DEGREE)
    ∷ begins (120 * DEGREE) (89 * DEGREE)
    ∷ begins (240 * DEGREE) (89 * DEGREE)
    ∷ begins (0 * DEGREE) (88 * DEGREE)
    ∷ begins (60 * DEGREE) (88 * DEGREE)
    ∷ begins (0 * DEGREE) (88 * DEGREE + 30 * MINUTE)
    ∷ begins (60 * DEGREE) (88 * DEGREE + 30 * MINUTE)
    ∷ begins (120 * DEGREE) (88 * DEGREE)
    ∷ begins (180 * DEGREE) (88 * DEGREE)
    ∷ begins (120 * DEGREE) (88 * DEGREE + 30 * MINUTE)
    ∷ begins (180 * DEGREE) (88 * DEGREE + 30 * MINUTE)
    ∷ begins (300 * DEGREE) (88 * DEGREE)
    ∷ begins (240 * DEGREE) (88 * DEGREE)
    ∷ begins (300 * DEGREE) (88 * DEGREE + 30 * MINUTE)
    ∷ begins (240 * DEGREE) (88 * DEGREE + 30 * MINUTE)
    ∷ []

-- the polar cell with the digits a and b, k being 4a + b
abbrev pub polar_cell_at : ℕ → PolarCell
polar_cell_at k = slice_index_or polar_cells k (begins 0 0)
