-- A layer as a signed number: its side and rise, and the way back.
-- Assumes nothing.
use mathlib.Core.Path.{◌≡◌, refl, sym, ◌∙◌, ap, subst}
use mathlib.Core.Bool.{Bool, true, false}
use mathlib.Core.List.{List}
use Prim.Native.Nat.{ℕ, ◌-◌, ◌≤◌, ◌<◌}
use native.Mathlib.Omega.{arith}
use lib.IntN.{ℤ, pos, negsuc, ◌-ℤ◌}
use lib.Dec.{ltb}
use lib.Signed.{lt_z}
use mir.Syntax.{Width, w32}
use mir.Val.{SFits, to_z, of_z}
use mir.Facts.{to_z-of_z, to_z_pos}
use native.Mathlib.Nat.{not-suc-le-zero}
use borrow.Author.Tests.{ltb-true, lt-ltb, le-ltb}
use Rattle.grid.specs.declared.Refusal.{Refusal}
use Rattle.grid.specs.Units.{side, index}
use Rattle.grid.specs.Answers.{accepted, refused, unless}
use Rattle.grid.specs.Layers.{product, rise, part, floor_of}
use Rattle.grid.proofs.Cut.{clash}
use Rattle.grid.proofs.Signed.{mirrored_fits, mirrored_back}
use Rattle.grid.proofs.LayerLaws.{rise_below}
use Rattle.layers.specs.Heights.{outside_layers, asked_of}
use Rattle.layers.specs.inner.Steps.{layer_of, Fair, thickness_at}
use Rattle.layers.proofs.Radices.{product_fits, thick_top}

-- ---- the layer on a side with a rise

module _ (top : ℕ) where
  pub layer_side : (a : Bool) (n : ℕ) → side (layer_of top a n) ≡ a
  layer_side true n = refl
  layer_side false n = refl

  pub layer_rise : (a : Bool) (n : ℕ) → n < top → rise top (layer_of top a n) ≡ n
  layer_rise true n h = refl
  layer_rise false n h = omega arith

  pub layer_in : (a : Bool) (n : ℕ) → n < top → index (layer_of top a n) < top
  layer_in true n h = h
  layer_in false n h = omega arith

  -- and a layer's side and rise are its own
  pub layer_back : (z : ℤ) → index z < top → layer_of top (side z) (rise top z) ≡ z
  layer_back (pos n) h = refl
  layer_back (negsuc n) h = ap negsuc (omega arith)

-- ---- a layer that is asked for

-- on either side
asked_down : (rs : List ℕ) (z : ℤ) → index z < product rs → lt_z z (pos 0) ≡ true → accepted (false, product rs - 1 - index z) ≡ asked_of rs z
asked_down rs (pos n) h s = absurd (not-suc-le-zero (ltb-true n 0 s))
asked_down rs (negsuc n) h s = rw (lt-ltb n (product rs) h) refl

asked_up : (rs : List ℕ) (z : ℤ) → index z < product rs → lt_z z (pos 0) ≡ false → accepted (true, index z) ≡ asked_of rs z
asked_up rs (pos n) h s = rw (lt-ltb n (product rs) h) refl
asked_up rs (negsuc n) h s = clash (cc)

-- what is asked for is in its range
pub asked_at : (rs : List ℕ) (z : ℤ) {a : Bool} {n : ℕ} → asked_of rs z ≡ accepted (a, n) → (index z < product rs) × (n < product rs) × (layer_of (product rs) a n ≡ z)
asked_at rs z {a} {n} e = go (ltb (index z) (product rs)) refl e
  where
    go : (q : Bool) → ltb (index z) (product rs) ≡ q → unless {C = Bool × ℕ} q outside_layers (accepted (side z, rise (product rs) z)) ≡ accepted (a, n) → (index z < product rs) × (n < product rs) × (layer_of (product rs) a n ≡ z)
    go true h f =
        let i : index z < product rs = ltb-true _ _ h in
        let w : ◌≡◌ {A = Bool × ℕ} (side z, rise (product rs) z) (a, n) = cc in
        let b : side z ≡ a = ap (λ (x : Bool × ℕ). x.0) w in
        let c : rise (product rs) z ≡ n = ap (λ (x : Bool × ℕ). x.1) w in
        let s : layer_of (product rs) (side z) (rise (product rs) z) ≡ layer_of (product rs) a n =
        ap (λ (x : Bool). layer_of (product rs) x (rise (product rs) z)) b ∙ ap (λ (k : ℕ). layer_of (product rs) a k) c in
        (i, subst (λ (k : ℕ). k < product rs) c (rise_below (product rs) z i), sym s ∙ layer_back (product rs) z i)
    go false h f = clash (cc)

-- as the code finds it: a layer of a width, the top t and the outward index n
module _ (rs : List ℕ) {w : Width} {z : ℤ} (f : SFits w z) {t n : ℕ} (is : t ≡ thickness_at rs 0) (out : n ≡ index (to_z w (of_z w z))) where
  outward : n ≡ index z
  outward = out ∙ ap index (to_z-of_z f)

  top : t ≡ product rs
  top = is ∙ thick_top rs

  pub asked_outside : {r : Refusal} → r ≡ outside_layers → t ≤ n → refused r ≡ asked_of rs z
  asked_outside i h = rw (i, le-ltb (index z) (product rs) (omega (arith, top, outward))) refl

  pub asked_below : {x : ℕ} → x ≡ t - 1 - n → n < t → lt_z (to_z w (of_z w z)) (pos 0) ≡ true → accepted (false, x) ≡ asked_of rs z
  asked_below i h s = rw (i, top, outward) (asked_down rs z (omega (arith, top, outward)) (rw (to_z-of_z f) at s))

  pub asked_above : n < t → lt_z (to_z w (of_z w z)) (pos 0) ≡ false → accepted (true, n) ≡ asked_of rs z
  asked_above h s = rw outward (asked_up rs z (omega (arith, top, outward)) (rw (to_z-of_z f) at s))

-- ---- the lower face

module _ (rs : List ℕ) (e : Fair rs) (low : ℕ) (h : low < product rs) where
  pub low_fits : low < 2147483648
  low_fits = omega (arith, product_fits rs e)

  pub floor_up : (a : Bool) → a ≡ true → (n : ℕ) → to_z w32 low ≡ floor_of (product rs) (part a low n)
  floor_up a s n = rw s (to_z_pos w32 low_fits)

  module _ (t : ℕ) (is : t ≡ thickness_at rs 0) where
    pub low_below : low < t
    low_below = rw (is, thick_top rs) h

    -- the outward index
    module _ (d : ℕ) (depth : d ≡ t - 1 - low) where
      pub depth_fits : d < 2147483648
      depth_fits = rw (depth, is, thick_top rs) (omega (arith, product_fits rs e))

      pub down_fits : SFits w32 (negsuc 0 -ℤ to_z w32 d)
      down_fits = mirrored_fits w32 depth_fits

      pub floor_down : (a : Bool) → a ≡ false → (n : ℕ) → to_z w32 (of_z w32 (negsuc 0 -ℤ to_z w32 d)) ≡ floor_of (product rs) (part a low n)
      floor_down a s n = rw s (mirrored_back w32 depth_fits ∙ ap negsuc (depth ∙ ap (λ (x : ℕ). x - 1 - low) (is ∙ thick_top rs)))
