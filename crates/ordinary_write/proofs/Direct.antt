-- The cells of an ordinary place and its digits straight from its outward indices: the tree, which goes down cell by cell, comes to those.
-- Assumes nothing.
use mathlib.Core.Path.{◌≡◌, refl, sym, ◌∙◌, ap, subst}
use mathlib.Core.Bool.{Bool, false}
use mathlib.Core.List.{List, [], ◌∷◌}
use mathlib.Core.Logic.{◌⊎◌, inl, inr}
use Prim.Native.Nat.{ℕ, zero, suc, ◌+◌, ◌-◌, ◌*◌, ◌/◌, ◌%◌, ◌≤◌, ◌<◌}
use native.Mathlib.Omega.{arith}
use lib.IntN.{ℤ, pos, negsuc}
use lib.ListN.{drop}
use borrow.Author.Tests.{lt-ltb, le-leb, lt-leb}
use Rattle.grid.specs.declared.Split.{Split}
use Rattle.grid.specs.Units.{HALF, POLAR, side, index, Square, OnGlobe}
use Rattle.grid.specs.Tree.{ok}
use Rattle.grid.specs.Splits.{first, splits, split_at}
use Rattle.grid.specs.inner.Roads.{digits_in}
use Rattle.grid.specs.Plane.{Frame, ordinary, Box, Node, cell, plain_part, letter, zone, globe_digits, sheet, globe_child, digits_of, child_of}
use Rattle.grid.proofs.Cut.{part_direct, part_begins}
use Rattle.grid.proofs.Step.{In, InCell, Exact, box_of, cell_read}
use Rattle.grid.proofs.Globe.{Sheet, Pole, letter_north, globe_cases, globe_here}
use Rattle.grid.proofs.PlaneLaws.{Good, GoodCell, cell_exact}
use Rattle.grid.proofs.Arriving.{node_at, node_one, node_suc, node_good}
use Rattle.ordinary_write.specs.inner.Writing.{ordinary_digits}

-- the box of width w and height h that holds the indices X and Y
abbrev box_at : ℕ → ℕ → ℕ → ℕ → Box
box_at w h X Y = record { x = X / w * w; w = w; y = Y / h * h; h = h }

-- ---- level 1

-- a sheet is the box of its size that holds the place
sheet_box : (n : Bool) (u : ℤ) (Y : ℕ) → index u < HALF → sheet n (zone u) (Y / first.height) ≡ cell (ordinary n (side u)) (box_at first.width first.height (index u) Y)
sheet_box n (pos x) Y h =
    let e : 31 + x / first.width - 31 ≡ x / first.width = omega arith in
    rw (le-leb 31 (31 + x / first.width) (omega arith), e) refl
sheet_box n (negsuc x) Y h =
    let e : 30 - (30 - x / first.width) ≡ x / first.width = omega arith in
    rw (lt-leb 31 (30 - x / first.width) (omega arith), e) refl

-- the node that a sheet's four digits lead to
sheet_node : (n : Bool) (z r : ℕ) (m : Node) → globe_child (letter n ∷ (z / 10) ∷ (z % 10) ∷ (10 + r) ∷ []) ≡ ok m → sheet n z r ≡ m
sheet_node n z r m e = go (globe_cases (letter n) (z / 10) (z % 10) (10 + r) m e)
  where
    go : Sheet (letter n) (z / 10) (z % 10) (10 + r) m ⊎ Pole (letter n) (z / 10) (z % 10) (10 + r) m → sheet n z r ≡ m
    go (inl q) =
        let a : 10 * (z / 10) + z % 10 ≡ z = omega arith in
        let b : 10 + r - 10 ≡ r = omega arith in
        rw (letter_north n, a, b) at q.node
    go (inr q) = let d : 10 + r ≡ 0 = q.d0 in absurd (omega arith)

module _ (s : Square) (o : OnGlobe s) (h : index s.latitude < POLAR) where
  abbrev f : Frame
  f = ordinary (side s.latitude) (side s.longitude)

  abbrev X : ℕ
  X = index s.longitude

  abbrev Y : ℕ
  Y = index s.latitude

  first_child : globe_child (globe_digits s) ≡ ok (cell f (box_at first.width first.height X Y))
  first_child =
      let k = globe_here s o in
      let d = rw (lt-ltb Y POLAR h) at k.1 in
      k.1 ∙ ap ok (sym (sheet_node (side s.latitude) (zone s.longitude) (Y / first.height) k.0 d) ∙ sheet_box (side s.latitude) s.longitude Y o.longitude_in)

  -- ---- a level after the first

  -- what one level does in the cell of size w by v that has the place
  module _ (t : Split) (ts : List Split) (w v : ℕ) (g : GoodCell (t ∷ ts) f (box_at w v X Y)) (i : InCell f (box_at w v X Y) s) where
    E : Exact false t.characters (plain_part t) w v
    E = cell_exact t ts f (box_at w v X Y) g

    cell_digits_law : digits_of t (cell f (box_at w v X Y)) s ≡ digits_in t (ordinary_digits t X Y)
    cell_digits_law =
        rw (
          ← E.wide,
          ← E.high,
          part_direct X t.columns t.width E.some_c E.some_w,
          part_direct Y t.rows t.height E.some_r E.some_h,
        ) refl

    cell_child_law : child_of t (cell f (box_at w v X Y)) (digits_of t (cell f (box_at w v X Y)) s) ≡ ok (cell f (box_at t.width t.height X Y))
    cell_child_law =
        let q : box_of t.characters (plain_part t) f (box_at w v X Y) E s ≡ box_at t.width t.height X Y =
        rw (
          ← E.wide,
          ← E.high,
          part_begins X t.columns t.width E.some_c E.some_w,
          part_begins Y t.rows t.height E.some_r E.some_h,
        ) refl in
        cell_read t.characters (plain_part t) f (box_at w v X Y) E s i ∙ ap (λ (b : Box). ok (cell f b)) q

  module _ (k : ℕ) (b : k < 10) (w v : ℕ) (e : node_at k s ≡ cell f (box_at w v X Y)) where
    at_cell : InCell f (box_at w v X Y) s × GoodCell (split_at k ∷ drop (suc k) splits) f (box_at w v X Y)
    at_cell = subst (λ (n : Node). In n s × Good (split_at k ∷ drop (suc k) splits) n) e (node_good k s b o)

    digits_here : digits_of (split_at k) (node_at k s) s ≡ digits_in (split_at k) (ordinary_digits (split_at k) X Y)
    digits_here = rw e (cell_digits_law (split_at k) (drop (suc k) splits) w v at_cell.1 at_cell.0)

    node_next : node_at (suc k) s ≡ cell f (box_at (split_at k).width (split_at k).height X Y)
    node_next = node_suc k s b (rw e (cell_child_law (split_at k) (drop (suc k) splits) w v at_cell.1 at_cell.0))

  -- the cell of level j + 1 is as large as the table says
  node_is : (j : ℕ) → j < 10 → node_at (suc j) s ≡ cell f (box_at (split_at j).width (split_at j).height X Y)
  node_is zero b = node_one s first_child
  node_is (suc j) b = node_next (suc j) b _ _ (node_is j (omega arith))

  pub digits_are : (k : ℕ) → 1 ≤ k → k < 10 → digits_of (split_at k) (node_at k s) s ≡ digits_in (split_at k) (ordinary_digits (split_at k) X Y)
  digits_are zero a b = absurd (omega arith)
  digits_are (suc j) a b = digits_here (suc j) b _ _ (node_is j (omega arith))
