-- Where reading on from a cell of level 1 stops: at a place in the code. Assumes nothing.
use Rattle.std.proofs.Common.{◌≡◌, ℕ, ◌+◌, ◌-◌, ◌<◌, ◌≤◌, Bool, false, eqb, List, map, length, take, drop, refl, ◌∙◌, arith, length-drop, eqb-true}
use lib.ListN.{length-map}
use Rattle.grid.specs.declared.Split.{Split}
use Rattle.grid.specs.Characters.{digit_of}
use Rattle.grid.specs.Tree.{bad, shift, follow}
use Rattle.grid.specs.Splits.{first, splits, split_at}
use Rattle.grid.specs.Plane.{Node, pole, sheet, plane}
use Rattle.grid.proofs.Cut.{below}
use Rattle.grid.proofs.Laws.{total, shift_bad, follow_ends}
use Rattle.grid.proofs.PlaneLaws.{fits_cell, fits_pole, Good, sheet_good, laws}

-- the levels after the first of a code of level l
abbrev pub later : ℕ → List Split
later l = drop 1 (take l splits)

module _ (l : ℕ) (high : l ≤ 10) where
  -- they can be gone down from a sheet, and from a pole
  pub sheet_later : (n : Bool) (z r : ℕ) → 1 ≤ z → z ≤ first.columns → r < first.rows → Good (later l) (sheet n z r)
  sheet_later n z r a b c = sheet_good (later l) n z r (below (λ l. fits_cell false (later l) 44236800 29491200) 11 l refl (omega arith)) a b c

  pub pole_later : (n : Bool) → Good (later l) (pole n)
  pole_later n = below (λ l. fits_pole (later l)) 11 l refl (omega arith)

  -- the place of a bad character lies among those of the code
  pub later_inside : (n : Node) (w : List ℕ) (p : ℕ) → Good (later l) n → length w ≡ (split_at (l - 1)).length
      → shift 4 (follow plane (later l) n (map digit_of (drop 4 w))) ≡ bad p → p < (split_at (l - 1)).length
  unfolding total
  later_inside n w p g e f =
      let t : total plane (later l) + 4 ≡ (split_at (l - 1)).length = eqb-true _ _ (below (λ l. eqb (total plane (later l) + 4) (split_at (l - 1)).length) 11 l refl (omega arith)) in
      let q = shift_bad 4 (follow plane (later l) n (map digit_of (drop 4 w))) p f in
      let m : length (map digit_of (drop 4 w)) ≡ total plane (later l) = length-map (drop 4 w) digit_of ∙ length-drop 4 w ∙ omega arith in
      let i = (follow_ends plane laws (later l) n (map digit_of (drop 4 w)) q.0 g m q.1).inside in
      omega (arith, q.2)
