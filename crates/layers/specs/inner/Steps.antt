-- What each level of the height has, over any list of radices: its thickness, its character, and where a reader stands after it; a layer's height digits.
-- Assumes nothing.
use Rattle.std.specs.Prelude.{◌≡◌, Bool, true, false, ◌&&◌, List, [], ◌∷◌, map, ℕ, ◌+◌, ◌*◌, ◌/◌, ◌%◌, ◌≤◌, ◌<◌, ltb, leb, eqb, ℤ, Result, IfOk, length, get_or, take, drop}
use Rattle.grid.specs.Characters.{char_of, digit_of}
use Rattle.grid.specs.Tree.{Read, ok, guard, next, code, follow}
use Rattle.grid.specs.inner.Standing.{length_in, height_place, count_from}
use Rattle.grid.specs.Layers.{product, sign, Stack, all, part, layers, floor_of}
use Rattle.layers.specs.declared.Layers.{Layers}
use Rattle.layers.specs.Heights.{height_levels, height_read, layers_read}

-- each radix after the first is some, and its digits are code characters
abbrev pub fair_later : List ℕ → Bool
fair_later [] = true
fair_later (r ∷ rs) = (ltb 0 r && leb r 32) && fair_later rs

-- ten radices: the first has two decimal digits, and a layer is an i32
abbrev pub is_fair : List ℕ → Bool
is_fair [] = false
is_fair (r ∷ rs) = ((ltb 0 r && leb r 100) && fair_later rs) && (eqb (length rs) 9 && leb (r * product rs) 2147483648)

-- radices that heights can be written in
pub record Fair (rs : List ℕ) : Type 0 where
  pub test : is_fair rs ≡ true

-- how many layers a cell of level k has; at level 0, all those above ground
unfoldable pub thickness_at : List ℕ → ℕ → ℕ
thickness_at rs k = product (drop k rs)

-- ---- writing

-- the layer on a side of the ground with a rise
abbrev pub layer_of : ℕ → Bool → ℕ → ℤ
layer_of top above n = floor_of top (part above n 1)

-- the height digits of a code of level l for a layer
unfoldable pub height_digits : List ℕ → ℕ → ℤ → List ℕ
height_digits rs l z = code (layers (product rs)) (take l (height_levels rs)) all z

-- a level, a rise, and a line with room for a space code of the level
pub record HeightWritable (rs : List ℕ) (level rise : ℕ) (line : List ℕ) : Type 0 where
  pub some_level : 1 ≤ level
  pub ten_levels : level ≤ 10
  pub rise_in : rise < product rs
  pub room : length_in true level ≤ length line

-- level 1, n of whose cells lie below the layer: the sign and two decimal digits
abbrev pub first_height : Bool → ℕ → List ℕ
first_height above n = char_of (sign above) ∷ char_of (n / 10) ∷ char_of (n % 10) ∷ []

-- ---- reading

-- the height characters of a space code of a level
abbrev pub standing : ℕ → List ℕ → List ℕ
standing level code = take (2 + level) (map (λ p. get_or code (height_place p) 0) (count_from 0 12))

-- a level, and a code as long as its space codes
pub record Readable (level : ℕ) (code : List ℕ) : Type 0 where
  pub some_level : 1 ≤ level
  pub ten_levels : level ≤ 10
  pub room : length_in true level ≤ length code

-- layers that a cell of level k has: as many as each has, and all of them in the range
pub record KnownLayers (rs : List ℕ) (k : ℕ) (m : Layers) : Type 0 where
  pub thick : m.thickness ≡ thickness_at rs k
  pub inside : m.lowest.rise + m.thickness ≤ product rs

-- what the character b of level k + 1 leads to, from layers that a cell of level k has
abbrev pub child_at : List ℕ → ℕ → ℕ → Layers → Read Stack
child_at rs k b m =
    guard (k + 2) (ltb (digit_of b) (get_or rs k 0)) (ok (part m.lowest.above (m.lowest.rise + digit_of b * thickness_at rs (k + 1)) (thickness_at rs (k + 1))))

-- what the characters w after those of k levels lead to, from the layers that these led to
abbrev pub height_rest : List ℕ → ℕ → ℕ → List ℕ → Stack → Read Stack
height_rest rs level k w n = follow (layers (product rs)) (drop k (take level (height_levels rs))) n (drop (k + 2) (map digit_of w))

-- a reader after k levels of the characters w: going on from what it found, the whole is found
pub record Upto (rs : List ℕ) (level k : ℕ) (w : List ℕ) (h : Result Layers ℕ) : Type 0 where
  pub whole : height_read rs level (map digit_of w) ≡ next (k + 2) (layers_read h) (height_rest rs level k w)
  pub known : k ≤ level → IfOk h (KnownLayers rs k)
