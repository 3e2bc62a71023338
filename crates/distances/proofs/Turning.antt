-- Remainders by a full turn, and the way from one to another.
-- Assumes nothing.
use mathlib.Core.Path.{◌≡◌, refl}
use mathlib.Core.Bool.{Bool, true, false, cond}
use Prim.Native.Nat.{ℕ, suc, ◌+◌, ◌-◌, ◌%◌, ◌≤◌, ◌<◌}
use native.Mathlib.Omega.{arith}
use lib.Dec.{ltb}
use lib.IntN.{ℤ, pos, negsuc, ◌+ℤ◌}
use mir.Syntax.{w32}
use mir.Val.{SFits}
use borrow.Author.Tests.{ltb-true, ltb-false}
use Rattle.grid.specs.Units.{TURN, index}
use Rattle.grid.specs.Cells.{around}
use Rattle.distances.specs.Distances.{between}

-- ---- remainders

pub around_below : (z : ℤ) → around z < 2654208000
around_below (pos n) = omega arith
around_below (negsuc n) = omega arith

-- so many numbers on
pub around_on : (z : ℤ) (n : ℕ) → around (z +ℤ pos n) ≡ (around z + n) % 2654208000
around_on (pos a) n = omega arith
around_on (negsuc a) n = go (ltb n (suc a)) refl
  where
    go : (q : Bool) → ltb n (suc a) ≡ q → around (cond q (negsuc (suc a - suc n)) (pos (n - suc a))) ≡ (2654207999 - a % 2654208000 + n) % 2654208000
    go true e = let l : n < suc a = ltb-true n (suc a) e in omega arith
    go false e = let l : suc a ≤ n = ltb-false n (suc a) e in omega arith

pub small_index : (z : ℤ) → SFits w32 z → index z < 2147483648
small_index (pos n) f = f.sfits
small_index (negsuc n) f = f.sfits

pub remainder_below : (z : ℤ) {r : ℕ} → r ≡ around z → r < 2654208000
remainder_below z e = let h : around z < 2654208000 = around_below z in omega arith

-- ---- the way east or north

module _ (a b : ℤ) {x y : ℕ} (ex : x ≡ around a) (ey : y ≡ around b) where
  pub apart_onward : x ≤ y → (y - x ≡ between a b) × (y - x < TURN)
  unfolding between
  apart_onward h =
      let p : around a < 2654208000 = around_below a in
      let q : around b < 2654208000 = around_below b in
      (omega arith, omega arith)

  pub apart_back : y < x → (y + (2654208000 - x) ≡ between a b) × (y + (2654208000 - x) < TURN)
  unfolding between
  apart_back h =
      let p : around a < 2654208000 = around_below a in
      let q : around b < 2654208000 = around_below b in
      (omega arith, omega arith)
