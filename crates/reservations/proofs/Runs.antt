-- Two runs of whole numbers have one in common exactly when the test says so.
-- Assumes nothing.
use mathlib.Core.Path.{◌≡◌, refl}
use mathlib.Core.Bool.{Bool, true, false}
use Prim.Native.Nat.{ℕ, ◌≤◌, ◌<◌}
use native.Mathlib.Omega.{arith}
use lib.Dec.{ltb, eqb}
use lib.IntN.{ℤ}
use borrow.Author.Tests.{ltb-true, eqb-true, eqb-false, lt-ltb}
use Rattle.grid.specs.Cells.{above, Within}
use Rattle.grid.proofs.Cut.{and_true}
use Rattle.distances.proofs.Rising.{above_self, above_one_way, above_past}
use Rattle.reservations.specs.Meeting.{runs_meet}

pub numbers_meet : (f g : ℤ) (n m : ℕ) (v : ℤ) → Within f n v → Within g m v → runs_meet f n g m ≡ true
unfolding runs_meet
numbers_meet f g n m v x y =
    let p : above f g ≤ above f v = above_past f g v x.starts y.starts in
    let q : above g f ≤ above g v = above_past g f v y.starts x.starts in
    rw (lt-ltb (above f g) n (omega arith), lt-ltb (above g f) m (omega arith)) refl

-- the higher beginning is in both
pub numbers_shared : (f g : ℤ) (n m : ℕ) → runs_meet f n g m ≡ true → (v : ℤ) × Within f n v × Within g m v
unfolding runs_meet
numbers_shared f g n m t = go (eqb (above f g) 0) refl
  where
    k : (ltb (above f g) n ≡ true) × (ltb (above g f) m ≡ true)
    k = and_true (ltb (above f g) n) (ltb (above g f) m) t

    go : (q : Bool) → eqb (above f g) 0 ≡ q → (v : ℤ) × Within f n v × Within g m v
    go true e =
        let z : above f g ≡ 0 = eqb-true _ _ e in
        let s : above f f ≡ 0 = above_self f in
        let l : above f g < n = ltb-true _ _ k.0 in
        (f, record { starts = above_self f; ends = omega arith }, record { starts = z; ends = ltb-true _ _ k.1 })
    go false e =
        let z : above g f ≡ 0 = above_one_way f g (eqb-false _ _ e) in
        let s : above g g ≡ 0 = above_self g in
        let l : above g f < m = ltb-true _ _ k.1 in
        (g, record { starts = z; ends = ltb-true _ _ k.0 }, record { starts = above_self g; ends = omega arith })
