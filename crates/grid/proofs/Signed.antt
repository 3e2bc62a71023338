-- A signed number and its outward index, at any width, both ways: the index of a number, and the number on the far side of 0 with an index.
-- The crates that take or give signed numbers cite these. Assumes nothing.
use Rattle.std.proofs.Common.{◌≡◌, ℕ, zero, suc, ◌^◌, ◌<◌, true, false, T, ℤ, pos, negsuc, ◌-ℤ◌, nat_abs, sym, refl, ap, ◌∙◌, subst, zero-le, not-suc-le-zero, arith, to_z-of_z, Fits, SFits, to_z, of_z, ltb-true, le-ltb, le-leb}
use lib.Signed.{lt_z, le_z, non_neg, mag}
use mir.Syntax.{Width}
use mir.Val.{hbits}
use mir.Facts.{Fits-of_z, to_z_pos}
use Rattle.grid.specs.Units.{side, index}

side_of : (u : ℤ) → le_z (pos 0) u ≡ side u
side_of (pos n) = le-leb 0 n zero-le
side_of (negsuc n) = refl

flip : (u : ℤ) → lt_z u (pos 0) ≡ true → negsuc 0 -ℤ u ≡ pos (index u)
flip (pos n) t = absurd (not-suc-le-zero (ltb-true n 0 t))
flip (negsuc n) t = simp (le-ltb (suc n) 1 (omega arith)) (ap pos (omega arith))

keep : (u : ℤ) → lt_z u (pos 0) ≡ false → u ≡ pos (index u)
keep (pos n) t = refl
keep (negsuc n) t = cc

out_mag : (u : ℤ) → index u ≡ mag u
out_mag (pos n) = refl
out_mag (negsuc n) = refl

module _ {w : Width} {u : ℤ} (f : SFits w u) where
  pub sided : le_z (pos 0) (to_z w (of_z w u)) ≡ side u
  sided = rw (to_z-of_z f) (side_of u)

  -- what holds of a z that is the outward index of u
  ok : {z : ℤ} → z ≡ pos (index u) → SFits w z
  ok e = subst (SFits w) (sym e) (record { sfits = rw (out_mag u) f.sfits })

  back : {z : ℤ} → z ≡ pos (index u) → to_z w (of_z w z) ≡ pos (index u)
  back e = to_z-of_z (ok e) ∙ e

  pub casts : {z : ℤ} → z ≡ pos (index u) → T (non_neg z) × Fits w (nat_abs z)
  casts e = rw e (tt, Fits-of_z (ok refl))

  module _ (t : lt_z (to_z w (of_z w u)) (pos 0) ≡ true) where
    pub flipped : negsuc 0 -ℤ to_z w (of_z w u) ≡ pos (index u)
    flipped = rw (to_z-of_z f) (flip u (rw (to_z-of_z f) at t))

    pub flipped_fits : SFits w (negsuc 0 -ℤ to_z w (of_z w u))
    flipped_fits = ok flipped

    pub flipped_back : to_z w (of_z w (negsuc 0 -ℤ to_z w (of_z w u))) ≡ pos (index u)
    flipped_back = back flipped

  pub kept : lt_z (to_z w (of_z w u)) (pos 0) ≡ false → to_z w (of_z w u) ≡ pos (index u)
  kept t = to_z-of_z f ∙ keep u (rw (to_z-of_z f) at t)

-- a number on the far side

mirror : (m : ℕ) → negsuc 0 -ℤ pos m ≡ negsuc m
mirror zero = refl
mirror (suc m) = ap negsuc (omega arith)

module _ (w : Width) {m : ℕ} (h : m < 2 ^ hbits w) where
  pub mirrored : negsuc 0 -ℤ to_z w m ≡ negsuc m
  mirrored = rw (to_z_pos w h) (mirror m)

  pub mirrored_fits : SFits w (negsuc 0 -ℤ to_z w m)
  mirrored_fits = rw mirrored (record { sfits = h })

  pub mirrored_back : to_z w (of_z w (negsuc 0 -ℤ to_z w m)) ≡ negsuc m
  mirrored_back = to_z-of_z mirrored_fits ∙ mirrored
