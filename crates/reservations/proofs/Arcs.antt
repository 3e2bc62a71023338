-- Two arcs of longitudes have one in common exactly when the test says so.
-- Assumes nothing.
use mathlib.Core.Path.{◌≡◌, refl, sym, ap}
use mathlib.Core.Bool.{Bool, true, false, ◌&&◌, ◌||◌, or-true, and-true}
use mathlib.Core.Logic.{◌⊎◌, inl, inr, ⊎_elim}
use Prim.Native.Nat.{ℕ, ◌+◌, ◌-◌, ◌≤◌, ◌<◌}
use native.Mathlib.Omega.{arith}
use lib.Dec.{ltb, leb}
use lib.IntN.{ℤ}
use borrow.Author.Tests.{ltb-true, leb-true, leb-false, lt-ltb, le-ltb}
use Rattle.grid.specs.Cells.{around}
use Rattle.grid.proofs.Cut.{and_true}
use Rattle.distances.specs.Distances.{between}
use Rattle.distances.proofs.Turning.{around_below, apart_onward, apart_back}
use Rattle.reservations.specs.Meeting.{arcs_meet}

either : (p q : Bool) → (p || q) ≡ true → (p ≡ true) ⊎ (q ≡ true)
either true q e = inl refl
either false q e = inr e

-- the way east from one to another is straight on, or round by 360°
abbrev Way : ℤ → ℤ → Type 0
Way a b = ((around a ≤ around b) × (between a b ≡ around b - around a)) ⊎ ((around b < around a) × (between a b ≡ around b + (2654208000 - around a)))

way : (a b : ℤ) → Way a b
way a b = go (leb (around a) (around b)) refl
  where
    go : (q : Bool) → leb (around a) (around b) ≡ q → Way a b
    go true e = let h : around a ≤ around b = leb-true _ _ e in inl (h, sym (apart_onward a b refl refl h).0)
    go false e = let h : around b < around a = leb-false _ _ e in inr (h, sym (apart_back a b refl refl h).0)

-- of two arcs that both reach u, one begins within the other
module _ (a b u : ℤ) where
  la : around a < 2654208000
  la = around_below a

  lb : around b < 2654208000
  lb = around_below b

  begins_within : (between a b ≤ between a u) ⊎ (between b a ≤ between b u)
  begins_within =
      ⊎_elim
      (λ x. ⊎_elim (λ y. ⊎_elim (λ z. inl (omega arith)) (λ z. inr (⊎_elim (λ t. omega (arith, la, lb)) (λ t. omega (arith, la, lb)) (way b a))) (way b u)) (λ y. inl (omega (arith, la, lb))) (way a u))
      (λ x. inr_or x)
      (way a b)
    where
      inr_or : (around b < around a) × (between a b ≡ around b + (2654208000 - around a)) → (between a b ≤ between a u) ⊎ (between b a ≤ between b u)
      inr_or x =
          ⊎_elim
          (λ t. ⊎_elim (λ z. ⊎_elim (λ y. inr (omega (arith, la, lb))) (λ y. inl (omega (arith, la, lb))) (way a u)) (λ z. inr (omega (arith, la, lb))) (way b u))
          (λ t. absurd (omega arith))
          (way b a)

between_self : (v : ℤ) → between v v ≡ 0
unfolding between
between_self v = let h : around v < 2654208000 = around_below v in omega arith

pub longitudes_meet : (v w : ℤ) (n m : ℕ) (u : ℤ) → between v u < n → between w u < m → arcs_meet v n w m ≡ true
unfolding arcs_meet
longitudes_meet v w n m u i j =
    ⊎_elim
    (λ h. rw (lt-ltb (between v w) n (omega arith), lt-ltb 0 m (omega arith)) refl)
    (λ h. rw (lt-ltb (between w v) m (omega arith), lt-ltb 0 n (omega arith)) (or-true (ltb (between v w) n && ltb 0 m)))
    (begins_within v w u)

pub longitudes_shared : (v w : ℤ) (n m : ℕ) → arcs_meet v n w m ≡ true → (u : ℤ) × (between v u < n) × (between w u < m)
unfolding arcs_meet
longitudes_shared v w n m t =
    let p : between v v ≡ 0 = between_self v in
    let q : between w w ≡ 0 = between_self w in
    ⊎_elim
    (λ h. let k = and_true (ltb (between v w) n) (ltb 0 m) h in let l : 0 < m = ltb-true 0 m k.1 in (w, ltb-true _ n k.0, omega arith))
    (λ h. let k = and_true (ltb (between w v) m) (ltb 0 n) h in let l : 0 < n = ltb-true 0 n k.1 in (v, omega arith, ltb-true _ m k.0))
    (either (ltb (between v w) n && ltb 0 m) (ltb (between w v) m && ltb 0 n) t)

-- ---- as it is computed

-- the way back is the rest of the turn
way_back : (v w : ℤ) → 0 < between v w → between w v ≡ 2654208000 - between v w
unfolding between
way_back v w h = omega (arith, around_below v, around_below w)

module _ (v w : ℤ) (n m : ℕ) {east : ℕ} (e : east ≡ between v w) where
  -- the second arc begins within the first
  pub onward : {b : Bool} → b ≡ true → east < n → 0 < m → b ≡ arcs_meet v n w m
  unfolding arcs_meet
  onward t l p = rw (lt-ltb (between v w) n (omega arith), lt-ltb 0 m p) t

  -- it doesn't, and the way back decides
  pub not_onward : n ≤ east → 0 < n → ltb (2654208000 - east) m ≡ arcs_meet v n w m
  unfolding arcs_meet
  not_onward l p = rw (le-ltb (between v w) n (omega arith), lt-ltb 0 n p, way_back v w (omega arith), and-true (ltb (2654208000 - between v w) m)) (ap (λ (k : ℕ). ltb (2654208000 - k) m) e)
