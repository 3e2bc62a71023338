-- The upper end of a range: what `axis` leaves out, and what a comparison with the end's own f64 tells.
-- Assumes nothing.
use mathlib.Core.Path.{◌≡◌, refl, sym, ap, ◌∙◌, subst}
use mathlib.Core.Bool.{Bool, true, false, ◌||◌, beq}
use Prim.Native.Nat.{ℕ, zero, suc, ◌*◌, ◌≤◌, ◌<◌}
use native.Mathlib.Nat.{mul_comm, mul_right_comm, mul-pos, eq_of_mul-eq-mul_right, le-div_iff_mul-le, div-lt_iff_lt-mul, lt_irrefl, le_antisymm}
use native.Mathlib.Omega.{arith}
use borrow.Author.Tests.{ltb-true, ltb-false, eqb-true, eq-eqb, le-leb, lt-leb, leb-true, leb-false}
use lib.IntN.{ℤ, pos}
use lib.Dec.{ltb, leb, eqb}
use lib.Ieee.{Float, nan, inf, fin, up, down, eq}
use lib.Ieee.Fits.{down_pos}
use Rattle.grid.specs.Units.{index}
use Rattle.grid.specs.Answers.{accepted, refused, refusal, unless}
use Rattle.grid.proofs.Answers.{unless_accepted}
use Rattle.grid.proofs.Cut.{clash, and_true, and_make}
use Rattle.arcseconds.specs.Readings.{greatest_whole, reading_of}
use Rattle.arcseconds.specs.Boxes.{SecondsOf}
use Rattle.arcseconds.specs.inner.Axis.{indexed_of}
use Rattle.arcseconds.proofs.Meaning.{seconds_whole}

-- ---- the size of a reading, by the outward index of its whole units

below_size : (H : ℕ) (s : Bool) (n d : ℕ) → 0 < d → index (greatest_whole s n d) < H → n ≤ H * d
below_size H false n d D h = let l : n < H * d = (div-lt_iff_lt-mul D).0 h in omega (arith, l)
below_size H true zero d D h = omega arith
below_size H true (suc n) d D h = (div-lt_iff_lt-mul D).0 h

past_size : (H : ℕ) (n d : ℕ) → 0 < H → 0 < d → H ≤ index (greatest_whole true n d) → H * d < n
past_size H zero d P D h = absurd (omega (arith, P, h))
past_size H (suc n) d P D h = let l : H * d ≤ n = (le-div_iff_mul-le D).0 h in omega (arith, l)

-- ---- an f64 that is the end, H / 2048, and the comparison with it

-- where A / E is B / D, and B / D is H / 2048, so is A / E: both sides multiplied by D
scaled : (A B H E D : ℕ) → A * D ≡ B * E → B * 2048 ≡ H * D → A * 2048 * D ≡ H * E * D
scaled A B H E D p q = mul_right_comm A 2048 D ∙ ap (λ (n : ℕ). n * 2048) p ∙ mul_right_comm B E 2048 ∙ ap (λ (n : ℕ). n * E) q ∙ mul_right_comm H D E

some : (H D : ℕ) → 0 < H → 0 < D → (n : ℕ) → n * 2048 ≡ H * D → n ≡ 0 → ⊥
some H D P Q n e z = lt_irrefl 0 (subst (λ (k : ℕ). 0 < k) (sym e ∙ ap (λ (k : ℕ). k * 2048) z) (mul-pos P Q))

module _ (H : ℕ) (P : 0 < H) where
  -- what equals the end's f64 is the end
  equal_end : (x t : Float) → SecondsOf (pos H) t → eq x t ≡ true → SecondsOf (pos H) x
  unfolding SecondsOf eq
  equal_end x nan v e = absurd v
  equal_end x (inf b) v e = absurd v
  equal_end nan (fin b n d) v e = clash (cc)
  equal_end (inf s) (fin b n d) v e = clash (cc)
  equal_end (fin s m c) (fin b n d) v e =
      let both = and_true (eqb (m * up c * down d) (n * up d * down c)) (beq s b || eqb (m * up c * down d) 0) e in
      let same : m * up c * down d ≡ n * up d * down c = eqb-true _ _ both.0 in
      let value : m * up c * 2048 ≡ H * down c = eq_of_mul-eq-mul_right (down d) (down_pos d) (m * up c * 2048) (H * down c) (scaled (m * up c) (n * up d) H (down c) (down d) same v.1) in
      (positive s (subst (λ (q : Bool). (beq s q || eqb (m * up c * down d) 0) ≡ true) v.0 both.1) value, value)
    where
      positive : (s : Bool) → (beq s false || eqb (m * up c * down d) 0) ≡ true → m * up c * 2048 ≡ H * down c → s ≡ false
      positive false t w = refl
      positive true t w = absurd (lt_irrefl 0 (subst (λ (k : ℕ). 0 < k) (eqb-true (m * up c * down d) 0 t) (mul-pos (size (m * up c) w) (down_pos d))))
        where
          size : (n : ℕ) → n * 2048 ≡ H * down c → 0 < n
          size zero w = absurd (some H (down c) P (down_pos c) 0 w refl)
          size (suc n) w = omega arith

  -- and the end equals its f64
  end_equal : (x t : Float) → SecondsOf (pos H) t → SecondsOf (pos H) x → eq x t ≡ true
  unfolding SecondsOf eq
  end_equal x nan v w = absurd v
  end_equal x (inf b) v w = absurd v
  end_equal nan (fin b n d) v w = absurd w
  end_equal (inf s) (fin b n d) v w = absurd w
  end_equal (fin s m c) (fin b n d) v w =
      and_make (eqb (m * up c * down d) (n * up d * down c)) (beq s b || eqb (m * up c * down d) 0) (eq-eqb _ _ same) (rw (w.0, v.0) refl)
    where
      same : m * up c * down d ≡ n * up d * down c
      same = eq_of_mul-eq-mul_right 2048 (omega arith) (m * up c * down d) (n * up d * down c)
          (mul_right_comm (m * up c) (down d) 2048 ∙ ap (λ (k : ℕ). k * down d) w.1 ∙ mul_right_comm H (down c) (down d)
          ∙ sym (mul_right_comm (n * up d) (down c) 2048 ∙ ap (λ (k : ℕ). k * down c) v.1))

  module _ (k : ℕ) where
    -- units whose outward index is below the end are the reading's
    pub indexed_read : (x : Float) (u : ℤ) → indexed_of k H x ≡ accepted u → reading_of k H x ≡ accepted u
    unfolding indexed_of reading_of
    indexed_read nan u e = clash (cc)
    indexed_read (inf s) u e = clash (cc)
    indexed_read (fin s m c) u e =
        let n = 2048 * (m * up c) in
        let w = greatest_whole s n (down c) in
        let a = unless_accepted (ltb (index w) H) (refusal k 0) (accepted w) u e in
        ap (λ (t : Bool). unless t (refusal k 0) (accepted w)) (le-leb n (H * down c) (below_size H s n (down c) (down_pos c) (ltb-true (index w) H a.0)))
        ∙ a.1

    -- left out, and equal to the end's f64: the end
    pub end_read : (x t : Float) → SecondsOf (pos H) t → eq x t ≡ true → reading_of k H x ≡ accepted (pos H)
    end_read x t v e = seconds_whole k H (pos H) x (omega arith) (equal_end x t v e)

    -- left out, and not equal to it: outside
    pub left_out : (x t : Float) → SecondsOf (pos H) t → indexed_of k H x ≡ refused (refusal k 0) → eq x t ≡ false → reading_of k H x ≡ refused (refusal k 0)
    unfolding indexed_of reading_of SecondsOf
    left_out nan t v o e = refl
    left_out (inf s) t v o e = refl
    left_out (fin s m c) t v o e = ap (λ (q : Bool). unless q (refusal k 0) (accepted w)) (lt-leb n (H * down c) (past s refl (index_past (ltb (index w) H) refl o)))
      where
        n : ℕ
        n = 2048 * (m * up c)

        w : ℤ
        w = greatest_whole s n (down c)

        index_past : (q : Bool) → ltb (index w) H ≡ q → unless q (refusal k 0) (accepted w) ≡ refused (refusal k 0) → H ≤ index w
        index_past true l r = clash (cc)
        index_past false l r = ltb-false (index w) H l

        past : (b : Bool) → s ≡ b → H ≤ index w → H * down c < n
        past true z h = past_size H n (down c) P (down_pos c) (subst (λ (b : Bool). H ≤ index (greatest_whole b n (down c))) z h)
        past false z h = go (leb n (H * down c)) refl
          where
            least : H * down c ≤ n
            least = (le-div_iff_mul-le (down_pos c)).0 (subst (λ (b : Bool). H ≤ index (greatest_whole b n (down c))) z h)

            go : (q : Bool) → leb n (H * down c) ≡ q → H * down c < n
            go true l =
                let a : n ≤ H * down c = leb-true n (H * down c) l in
                let i : 2048 * (m * up c) ≡ H * down c = le_antisymm a least in
                let f : eq (fin s m c) t ≡ true = end_equal (fin s m c) t v (z, mul_comm (m * up c) 2048 ∙ i) in
                clash (cc)
            go false l = leb-false n (H * down c) l
