-- A polar square's cells, level by level, and what each level does in them.
-- Assumes nothing.
use mathlib.Core.Path.{◌≡◌, refl, sym, subst, subst⁻¹}
use mathlib.Core.Bool.{Bool, true, false}
use mathlib.Core.List.{[], ◌∷◌}
use Prim.Native.Nat.{ℕ, zero, suc, ◌+◌, ◌*◌, ◌/◌, ◌%◌, ◌≤◌, ◌<◌}
use native.Mathlib.Omega.{arith}
use lib.Dec.{ltb, eqb}
use lib.ListN.{drop}
use borrow.Author.Tests.{lt-ltb, le-ltb}
use Rattle.grid.specs.Units.{POLAR, side, index, Square, OnGlobe}
use Rattle.grid.specs.Splits.{second, splits, split_at}
use Rattle.grid.specs.Tree.{ok}
use Rattle.grid.specs.Plane.{Node, pole, letter, globe_digits, globe_child, pole_digits, pole_child, polar_height, polar_cell_of, polar_node, digits_of, child_of}
use Rattle.grid.proofs.Poles.{named}
use Rattle.grid.proofs.Arriving.{node_at, node_one, node_suc, node_good}
use Rattle.polar_write.proofs.Table.{told}
use Rattle.polar_write.proofs.Moves.{Shaped, Moved, moves}

-- ---- the first two levels

module _ (s : Square) (o : OnGlobe s) (near : POLAR ≤ index s.latitude) where
  abbrev north : Bool
  north = side s.latitude

  first_child : globe_child (globe_digits s) ≡ ok (pole north)
  first_child = rw (le-ltb _ _ near) (go north)
    where
      go : (b : Bool) → globe_child (letter b ∷ 0 ∷ 0 ∷ 0 ∷ []) ≡ ok (pole b)
      go true = refl
      go false = refl

  pub first_node : node_at 1 s ≡ pole north
  first_node = node_one s first_child

  second_child : child_of second (pole north) (pole_digits s) ≡ ok (polar_node north (polar_cell_of s))
  second_child = go (polar_cell_of s) (named s o near).few
    where
      go : (k : ℕ) → k < 16 → pole_child north ((k / 4) ∷ (k % 4) ∷ []) ≡ ok (polar_node north k)
      go k h =
          let e : 4 * (k / 4) + k % 4 ≡ k = omega arith in
          rw (lt-ltb (k / 4) 4 (omega arith), lt-ltb (k % 4) 4 (omega arith), e) refl

  pub second_node : node_at 2 s ≡ polar_node north (polar_cell_of s)
  second_node = node_suc 1 s (omega arith) (subst (λ (n : Node). child_of second n (digits_of second n s) ≡ ok (polar_node north (polar_cell_of s))) (sym first_node) second_child)

  -- the cap, the disc's other cells and the belt's are 30' high
  polar_shape : (k : ℕ) → Shaped polar_height (polar_node north k)
  polar_shape k = go (eqb k 0) refl (ltb k 4) refl
    where
      go : (b : Bool) → eqb k 0 ≡ b → (c : Bool) → ltb k 4 ≡ c → Shaped polar_height (polar_node north k)
      go true p c q = rw p refl
      go false p true q = rw (p, q) (record { near = refl; high = refl; m = 240; some = omega arith; wide = refl })
      go false p false q = rw (p, q) (record { near = refl; high = refl; m = 120; some = omega arith; wide = refl })

  -- ---- and those below them

  moved : (i : ℕ) → i < 8 → Shaped (split_at (suc i)).width (node_at (suc (suc i)) s) → Moved (split_at (suc (suc i))) (node_at (suc (suc i)) s) s
  moved i b z =
      let k = suc (suc i) in
      let g = node_good k s (omega arith) o in
      moves (split_at (suc i)).width (split_at k) (told i b) (drop (suc k) splits) (node_at k s) s g.1 g.0 z

  shape : (i : ℕ) → i < 9 → Shaped (split_at (suc i)).width (node_at (suc (suc i)) s)
  shape zero b = subst⁻¹ (Shaped polar_height) second_node (polar_shape (polar_cell_of s))
  shape (suc i) b =
      let M = moved i (omega arith) (shape i (omega arith)) in
      subst⁻¹ (Shaped (split_at (suc (suc i))).width) (node_suc (suc (suc i)) s (omega arith) M.child) M.shape

  -- what level k + 1 does
  pub goes : (k : ℕ) → 2 ≤ k → k < 10 → Moved (split_at k) (node_at k s) s
  goes zero a b = absurd (omega arith)
  goes (suc zero) a b = absurd (omega arith)
  goes (suc (suc i)) a b = moved i (omega arith) (shape i (omega arith))
