-- The code of an ordinary place, laid down level by level.
-- Assumes nothing.
use mathlib.Core.Path.{◌≡◌, refl}
use mathlib.Core.Bool.{Bool, true, false, cond}
use mathlib.Core.List.{List}
use Prim.Native.Nat.{ℕ, suc, ◌+◌, ◌-◌, ◌*◌, ◌/◌, ◌%◌, ◌≤◌, ◌<◌}
use native.Mathlib.Nat.{mod-lt}
use native.Mathlib.Omega.{arith}
use lib.Dec.{ltb, leb, eqb}
use lib.Seq.{sets}
use borrow.Author.Tests.{ltb-true, leb-true, ne_eqb}
use Rattle.grid.specs.declared.Place.{Place}
use Rattle.grid.specs.declared.Split.{Split}
use Rattle.grid.specs.Splits.{split_at}
use Rattle.grid.specs.inner.Roads.{square_of, single_of, digits_in, level_chars, LevelFits}
use Rattle.grid.specs.inner.Standing.{level_place, stands_at, spread}
use Rattle.grid.specs.Plane.{digits_of, code_of}
use Rattle.grid.proofs.Cut.{all_below, below}
use Rattle.grid.proofs.PlaneLaws.{index_unit, on_globe}
use Rattle.grid.proofs.Arriving.{node_at}
use Rattle.grid.proofs.Standing.{level_room}
use Rattle.grid.proofs.Levels.{LaidTo, laid_first, laid_length, laid_more}
use Rattle.ordinary_write.specs.inner.Writing.{OrdinaryWritable, ordinary_digits}
use Rattle.ordinary_write.proofs.Direct.{digits_are}

-- ---- a later level has characters, and the line has room for them

module _ (k : ℕ) (a : 1 ≤ k) (h : k < 10) where
  -- a test that each later level passes
  each : (f : Split → Bool) → all_below (λ i. f (split_at (suc i))) 9 ≡ true → f (split_at k) ≡ true
  each f e = let z : suc (k - 1) ≡ k = omega arith in rw z at (below (λ i. f (split_at (suc i))) 9 (k - 1) e (omega arith))

  column_small : (x : ℕ) → x % (split_at k).columns < 32
  column_small x = omega (arith, mod-lt x (ltb-true _ _ (each (λ t. ltb 0 t.columns) refl)), leb-true _ _ (each (λ t. leb t.columns 32) refl))

  row_small : (y : ℕ) → y % (split_at k).rows < 32
  row_small y = omega (arith, mod-lt y (ltb-true _ _ (each (λ t. ltb 0 t.rows) refl)), leb-true _ _ (each (λ t. leb t.rows 32) refl))

  -- where the level has one character, the column and the row are small together
  single_small : ((split_at k).characters ≡ 2 → ⊥) → (x y : ℕ) → single_of (record { columns = (split_at k).columns; column = x % (split_at k).columns; row = y % (split_at k).rows }) < 32
  single_small n x y = go (eqb (split_at k).columns 2)
    where
      m : 2 * (split_at k).rows + (split_at k).columns ≤ 34
      m = leb-true _ _ (rw (ne_eqb (split_at k).characters 2 n) at (each (λ t. cond (eqb t.characters 2) true (leb (2 * t.rows + t.columns) 34)) refl))

      both : 2 * (y % (split_at k).rows) + x % (split_at k).columns < 32
      both = omega (arith, m, mod-lt x (ltb-true _ _ (each (λ t. ltb 0 t.columns) refl)), mod-lt y (ltb-true _ _ (each (λ t. ltb 0 t.rows) refl)))

      go : (q : Bool) → cond q (2 * (y % (split_at k).rows) + x % (split_at k).columns) (y % (split_at k).rows + x % (split_at k).columns) < 32
      go true = both
      go false = omega (arith, both)

  pub fits : {spaced : Bool} {level : ℕ} {p : Place} {l : List ℕ} → OrdinaryWritable spaced level p l
      → LevelFits level k (split_at k) (ordinary_digits (split_at k) p.x p.y) l (level_place spaced k (split_at k))
  fits {spaced} {level} {p} W =
      record {
        room = λ b. omega (arith, level_room spaced level k b W.ten_levels, W.room);
        some = leb-true _ _ (each (λ t. leb 1 t.characters) refl);
        column = column_small _;
        row = row_small _;
        single = λ n. single_small n (p.x / (split_at k).width) (p.y / (split_at k).height);
      }

-- ---- the code, level by level

module _ {spaced : Bool} {level : ℕ} {p : Place} {l₀ : List ℕ} (W : OrdinaryWritable spaced level p l₀) where
  -- level 1 is laid down
  pub begun : {l : List ℕ} → l ≡ spread (stands_at spaced) 0 (code_of 1 (square_of p)) l₀ → LaidTo spaced level 1 (square_of p) l₀ l
  begun e = laid_first (on_globe p W.x_inside (omega (arith, W.y_inside))) W.some_level W.ten_levels W.room e

  -- after level k the line still has room
  module _ (k : ℕ) {l : List ℕ} (L : LaidTo spaced level k (square_of p) l₀ l) where
    pub still : OrdinaryWritable spaced level p l
    still = record { some_level = W.some_level; ten_levels = W.ten_levels; x_inside = W.x_inside; y_inside = W.y_inside; room = omega (arith, W.room, laid_length L) }

    -- and then level k + 1
    module _ (a : 1 ≤ k) (h : k < 10) where
      digits : digits_of (split_at k) (node_at k (square_of p)) (square_of p) ≡ digits_in (split_at k) (ordinary_digits (split_at k) p.x p.y)
      digits =
          rw (index_unit p.east p.x, index_unit p.north p.y) at
          (digits_are (square_of p) L.on (rw (index_unit p.north p.y) W.y_inside) k a h)

      pub more : {m : List ℕ} → m ≡ sets l (level_place spaced k (split_at k)) (level_chars level k (split_at k) (ordinary_digits (split_at k) p.x p.y))
          → LaidTo spaced level (k + 1) (square_of p) l₀ m
      more {m} f = let e : suc k ≡ k + 1 = omega arith in rw e at (laid_more L a h refl _ digits f)
