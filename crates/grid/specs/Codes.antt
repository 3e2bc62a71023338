-- A family of codes: a tree gone down from its root, the lengths of its codes, and the cell that a node is to a caller.
-- Assumes nothing.
use Rattle.std.specs.Prelude.{ℕ, suc, cond, List, [], ◌∷◌, map, length, take, ◌==◌}
use Rattle.std.proofs.Math.Option.{Option, some, none}
use Rattle.grid.specs.Tree.{Tree, Read, ok, bad, code, follow}
use Rattle.grid.specs.Characters.{char_of, digit_of}
use Rattle.grid.specs.Answers.{Answer, accepted, refused, wrong_length, wrong_at}

-- a family of codes: its tree, its levels from the root on, how long its codes are, and what a reader hands back
pub record Codes : Type 1 where
  pub tree : Tree
  pub levels : List tree.Level
  pub root : tree.Node
  pub lengths : List ℕ  -- of the codes of level 1, 2, ..
  pub Cell : Type 0
  pub cell_at : ℕ → tree.Node → Cell

-- the code of level l for a point
unfoldable pub code_in : (K : Codes) → ℕ → K.tree.Point → List ℕ
code_in K l s = map char_of (code K.tree (take l K.levels) K.root s)

-- the place of n in a list, counted from k
abbrev pub place_in : ℕ → ℕ → List ℕ → Option ℕ
place_in n k [] = none
place_in n k (x ∷ xs) = cond (n == x) (some k) (place_in n (suc k) xs)

-- what was read in the code w of level l, as an answer: the cell, or 7 or 20 of its first bad character
abbrev pub answer : (K : Codes) → List ℕ → ℕ → Read K.tree.Node → Answer K.Cell
answer K w l (ok n) = accepted (K.cell_at l n)
answer K w l (bad p) = refused (wrong_at w p)

-- 6 where no level has the length, else what the level's digits lead to
abbrev pub answer_at : (K : Codes) → List ℕ → Option ℕ → Answer K.Cell
answer_at K w none = refused wrong_length
answer_at K w (some l) = answer K w l (follow K.tree (take l K.levels) K.root (map digit_of w))

-- a byte string's cell, or refusal 6, or 7 or 20 with the place: the length first, and the level by the length
unfoldable pub read_in : (K : Codes) → List ℕ → Answer K.Cell
read_in K w = answer_at K w (place_in (length w) 1 K.lengths)
