-- How far one whole number lies above another.
-- Assumes nothing.
use mathlib.Core.Path.{◌≡◌, refl, ap}
use mathlib.Core.Bool.{Bool, true, false, cond}
use Prim.Native.Nat.{ℕ, suc, ◌+◌, ◌-◌, ◌≤◌, ◌<◌}
use native.Mathlib.Omega.{arith}
use lib.Dec.{ltb}
use lib.IntN.{ℤ, pos, negsuc, ◌+ℤ◌}
use borrow.Author.Tests.{ltb-true, ltb-false, lt-ltb, le-ltb}
use Rattle.grid.specs.Cells.{above}

pub above_self : (z : ℤ) → above z z ≡ 0
above_self (pos n) = omega arith
above_self (negsuc n) = omega arith

-- of two numbers one is not above the other
pub above_one_way : (a b : ℤ) → (above a b ≡ 0 → ⊥) → above b a ≡ 0
above_one_way (pos a) (pos b) h = omega arith
above_one_way (pos a) (negsuc b) h = absurd (h refl)
above_one_way (negsuc a) (pos b) h = refl
above_one_way (negsuc a) (negsuc b) h = omega arith

-- a number that is below neither of two is at least as far above the one as the other is
pub above_past : (a b v : ℤ) → above v a ≡ 0 → above v b ≡ 0 → above a b ≤ above a v
above_past (pos a) (pos b) (pos c) h k = omega arith
above_past (pos a) (negsuc b) (pos c) h k = omega arith
above_past (negsuc a) (pos b) (pos c) h k = omega arith
above_past (negsuc a) (negsuc b) (pos c) h k = omega arith
above_past (pos a) (pos b) (negsuc c) h k = absurd (omega arith)
above_past (pos a) (negsuc b) (negsuc c) h k = absurd (omega arith)
above_past (negsuc a) (pos b) (negsuc c) h k = absurd (omega arith)
above_past (negsuc a) (negsuc b) (negsuc c) h k = omega arith

-- the number that is so many on lies as far above, and is not below
pub above_on : (z : ℤ) (n : ℕ) → (above (z +ℤ pos n) z ≡ 0) × (above z (z +ℤ pos n) ≡ n)
above_on (pos a) n = (omega arith, omega arith)
above_on (negsuc a) n = go (ltb n (suc a)) refl
  where
    go : (q : Bool) → ltb n (suc a) ≡ q → (above (cond q (negsuc (suc a - suc n)) (pos (n - suc a))) (negsuc a) ≡ 0) × (above (negsuc a) (cond q (negsuc (suc a - suc n)) (pos (n - suc a))) ≡ n)
    go true e = let l : n < suc a = ltb-true n (suc a) e in (omega arith, omega arith)
    go false e = let l : suc a ≤ n = ltb-false n (suc a) e in (omega arith, omega arith)

-- a number that is not below is as many on as it lies above
pub on_above : (z v : ℤ) → above v z ≡ 0 → v ≡ z +ℤ pos (above z v)
on_above (pos a) (pos b) h = ap pos (omega arith)
on_above (pos a) (negsuc b) h = absurd (omega arith)
on_above (negsuc a) (pos b) h = rw (le-ltb (a + 1 + b) (suc a) (omega arith)) (ap pos (omega arith))
on_above (negsuc a) (negsuc b) h = rw (lt-ltb (a - b) (suc a) (omega arith)) (ap negsuc (omega arith))
