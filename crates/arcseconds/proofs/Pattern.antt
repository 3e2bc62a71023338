-- What the bit pattern of an f64 reads as in units: the sign, the exponent's field and the digits give the side and the outward index.
-- Assumes nothing.
use mathlib.Core.Path.{◌≡◌, refl, sym, ap, ap₂, ◌∙◌, subst}
use mathlib.Core.Logic.{◌⊎◌, inl, inr}
use mathlib.Core.Bool.{Bool, true, false, not, cond}
use Prim.Native.Nat.{ℕ, zero, suc, ◌+◌, ◌-◌, ◌*◌, ◌/◌, ◌%◌, ◌^◌, ◌≤◌, ◌<◌}
use native.Mathlib.Nat.{
  le_trans,
  le_of_eq,
  le_of_lt,
  lt_of_lt_of_le,
  lt_irrefl,
  lt_trans,
  le_of_suc-le-suc,
  mul-one,
  mul_assoc,
  mul_left_comm,
  mul-pos,
  mul-le-mul_right,
  le-div_iff_mul-le,
  div-eq_of_lt-le,
  div-eq_of_lt,
  mod-lt,
  eq-or-lt_of_le,
  le-add_right,
  zero-add,
}
use native.Mathlib.Omega.{arith}
use borrow.Author.Tests.{lt-ltb, le-ltb, ne_eqb, leb-true, leb-false}
use lib.IntN.{ℤ, pos, negsuc, ◌-ℤ◌}
use lib.Dec.{leb, eqb, lit<, lit≤}
use lib.Pow.{pow-add, pow_pos, pow_mono}
use lib.Ieee.{Float, nan, inf, fin, binary64, up, down, odd, of_fields, of_bits}
use lib.Ieee.Fits.{down_pos}
use lib.Ieee.Exact.{HasValue, odd_sign}
use mir.Syntax.{w32}
use mir.Val.{SFits, to_z, of_z}
use mir.ValLaws.{to_z_pos, to_z-of_z}
use Rattle.grid.specs.Units.{index, unit}
use Rattle.grid.proofs.PlaneLaws.{index_unit}
use Rattle.grid.specs.Answers.{Answer, accepted, refused, refusal, unless}
use Rattle.arcseconds.specs.Readings.{greatest_whole}
use Rattle.arcseconds.specs.inner.Axis.{index_below, indexed_of}
use Rattle.arcseconds.proofs.Whole.{whole_same, whole_tiny, whole_index, times}

-- ---- a number whose outward index is below half, and one whose is not

pub inside : (k H : ℕ) (u : ℤ) → index u < H → index_below k H u ≡ accepted u
inside k H u h = ap (λ (t : Bool). unless t (refusal k 0) (accepted u)) (lt-ltb (index u) H h)

pub beyond : (k H : ℕ) (u : ℤ) → H ≤ index u → index_below k H u ≡ refused (refusal k 0)
beyond k H u h = ap (λ (t : Bool). unless t (refusal k 0) (accepted u)) (le-ltb (index u) H h)

-- ---- the reading depends on the sign and the value alone

-- a reading of size a / c arc-seconds, in units
abbrev pub read_at : ℕ → ℕ → Bool → ℕ → ℕ → Answer ℤ
read_at k half s a c = index_below k half (greatest_whole s (2048 * a) c)

pub reading_value : (k h : ℕ) (x : Float) (s : Bool) (a c : ℕ) → 0 < c → HasValue x s a c → indexed_of k h x ≡ read_at k h s a c
unfolding indexed_of
reading_value k h nan s a c C v = absurd v
reading_value k h (inf t) s a c C v = absurd v
reading_value k h (fin t m e) s a c C v =
    ap (λ (r : Bool). read_at k h r (m * up e) (down e)) v.0
    ∙ ap (index_below k h) (whole_same s (2048 * (m * up e)) (down e) (2048 * a) c (down_pos e) C (times (m * up e) (down e) a c v.1))

-- ---- a pattern b: its sign, its exponent's field, and its outward index

abbrev pub sign : ℕ → Bool
sign b = leb (2 ^ 63) b

abbrev pub field : ℕ → ℕ
field b = b % 2 ^ 63 / 2 ^ 52

-- the digits under a leading one, less one below 0, over 2 ^ (1064 - field)
abbrev pub outward : ℕ → ℕ
outward b = (b % 2 ^ 52 + (2 ^ 52 - b / 2 ^ 63)) / 2 ^ (1064 - field b)

of_bits_is : (b : ℕ) → of_bits binary64 b ≡ of_fields binary64 (sign b) (field b) (b % 2 ^ 52)
unfolding of_bits
of_bits_is b = refl

digits_of : (b : ℕ) → b % 2 ^ 63 % 2 ^ 52 ≡ b % 2 ^ 52
digits_of b = omega arith

under_top : (s : Bool) (j t : ℕ) → suc j < 2047 → of_fields binary64 s (suc j) t ≡ odd 53 s (2 ^ 52 + t) j 1074
unfolding of_fields
under_top s j t h = ap (λ (q : Bool). cond q (cond (eqb t 0) (inf s) nan) (odd 53 s (2 ^ 52 + t) j 1074)) (ne_eqb (suc j) 2047 (λ e. lt_irrefl 2047 (subst (λ (x : ℕ). x < 2047) e h)))

far_enough : (t j : ℕ) → 1042 ≤ j → 2 ^ 20 * 2 ^ 1074 ≤ (2 ^ 52 + t) * 2 ^ j
far_enough t j h =
    le_trans (pow_mono (past j h))
    (le_trans (le_of_eq (pow-add 2 52 j)) (mul-le-mul_right (2 ^ j) (le-add_right (2 ^ 52) t)))
  where
    past : (j : ℕ) → 1042 ≤ j → 1094 ≤ 52 + j
    past j h = omega arith

field_lt : (b : ℕ) → b % 9223372036854775808 / 4503599627370496 < 2048
field_lt b = omega arith

with_lead : (t : ℕ) → t < 4503599627370496 → 4503599627370496 + t < 9007199254740992
with_lead t h = omega arith

with_some : (t : ℕ) → 0 < 4503599627370496 + t
with_some t = omega arith

mul_lt_left : (a : ℕ) → a < 4503599627370496 → 2048 * a < 9223372036854775808
mul_lt_left a h = omega arith

some_digits : (b : ℕ) → (b % 9223372036854775808 ≡ 0 → ⊥) → b % 9223372036854775808 / 4503599627370496 ≡ 0 → 0 < b % 4503599627370496
some_digits b h e = omega arith

cross : (q j : ℕ) → suc j < 1043 → 2048 * (q * 2 ^ j) * 2 ^ (1064 - suc j) ≡ q * 2 ^ 1074
cross q j h =
    regroup 2048 q (2 ^ j) (2 ^ (1064 - suc j))
    ∙ ap (λ (x : ℕ). q * (2048 * x)) (sym (pow-add 2 j (1064 - suc j)) ∙ ap (λ (x : ℕ). 2 ^ x) (rest j h))
  where
    regroup : (k q a b : ℕ) → k * (q * a) * b ≡ q * (k * (a * b))
    regroup k q a b = simp (mul_assoc, mul_left_comm)

    rest : (j : ℕ) → suc j < 1043 → j + (1064 - suc j) ≡ 1063
    rest j h = omega arith

-- the digits under a leading one, less one below 0
less : (b : ℕ) → b < 2 * 2 ^ 63 → 2 ^ 52 + b % 2 ^ 52 - cond (sign b) 1 0 ≡ b % 2 ^ 52 + (2 ^ 52 - b / 2 ^ 63)
less b h = go (sign b) refl
  where
    moved : (t q k : ℕ) → q ≡ k → k ≤ 1 → 4503599627370496 + t - k ≡ t + (4503599627370496 - q)
    moved t q k e l = omega arith

    go : (s : Bool) → sign b ≡ s → 2 ^ 52 + b % 2 ^ 52 - cond s 1 0 ≡ b % 2 ^ 52 + (2 ^ 52 - b / 2 ^ 63)
    go true e = moved (b % 2 ^ 52) (b / 2 ^ 63) 1 (div-eq_of_lt-le (2 ^ 63) (leb-true (2 ^ 63) b e) h) (lit≤ tt)
    go false e = moved (b % 2 ^ 52) (b / 2 ^ 63) 0 (div-eq_of_lt (leb-false (2 ^ 63) b e)) (lit≤ tt)

-- ---- for one half, above 0 and below 2 ^ 31

module _ (k H : ℕ) (some : 0 < H) (few : H < 2 ^ 31) where
  zero_reads : (s : Bool) → indexed_of k H (of_fields binary64 s 0 0) ≡ index_below k H (pos 0)
  unfolding indexed_of of_fields odd
  zero_reads true = refl
  zero_reads false = refl

  no_field : (n : ℕ) → n ≡ 0 → n / 4503599627370496 ≡ 0
  no_field n h = omega arith

  -- zero, of either sign
  pub reads_zero : (b : ℕ) → b % 2 ^ 63 ≡ 0 → accepted (pos 0) ≡ indexed_of k H (of_bits binary64 b)
  reads_zero b h =
      sym (ap (indexed_of k H) (of_bits_is b ∙ ap₂ (λ (z t : ℕ). of_fields binary64 (sign b) z t) (no_field (b % 2 ^ 63) h) (sym (digits_of b) ∙ ap (λ (n : ℕ). n % 2 ^ 52) h)) ∙ zero_reads (sign b) ∙ inside k H (pos 0) some)

  -- the value under a field of 1 to 2046, and under 0
  normal_value : (s : Bool) (j t : ℕ) → suc j < 2047 → indexed_of k H (of_fields binary64 s (suc j) t) ≡ read_at k H s ((2 ^ 52 + t) * 2 ^ j) (2 ^ 1074)
  normal_value s j t h = ap (indexed_of k H) (under_top s j t h) ∙ reading_value k H (odd 53 s (2 ^ 52 + t) j 1074) s ((2 ^ 52 + t) * 2 ^ j) (2 ^ 1074) (pow_pos 1074) (odd_sign 53 s (2 ^ 52 + t) j 1074)

  small_value : (s : Bool) (t : ℕ) → indexed_of k H (of_fields binary64 s 0 t) ≡ read_at k H s (t * 2 ^ 0) (2 ^ 1074)
  unfolding of_fields
  small_value s t = reading_value k H (odd 53 s t 0 1074) s (t * 2 ^ 0) (2 ^ 1074) (pow_pos 1074) (odd_sign 53 s t 0 1074)

  -- 2 ^ 20 arc-seconds and more
  far_index : (s : Bool) (n c : ℕ) → 0 < c → 2147483648 * c ≤ n → H ≤ index (greatest_whole s n c)
  far_index false n c C h = le_trans (le_of_lt few) ((le-div_iff_mul-le C).1 h)
  far_index true zero c C h = absurd (omega arith)
  far_index true (suc n) c C h = le_trans (le_of_suc-le-suc few) ((le-div_iff_mul-le C).1 (one_less c n C h))
    where
      one_less : (c n : ℕ) → 0 < c → 2147483648 * c ≤ suc n → 2147483647 * c ≤ n
      one_less c n C h = omega arith

  read_far : (s : Bool) (a c : ℕ) → 0 < c → 2 ^ 20 * c ≤ a → read_at k H s a c ≡ refused (refusal k 0)
  read_far s a c C h = beyond k H (greatest_whole s (2048 * a) c) (far_index s (2048 * a) c C (up_by a c h))
    where
      up_by : (a c : ℕ) → 1048576 * c ≤ a → 2147483648 * c ≤ 2048 * a
      up_by a c h = omega arith

  at_top : (s : Bool) (t : ℕ) → indexed_of k H (of_fields binary64 s 2047 t) ≡ refused (refusal k 0)
  unfolding indexed_of of_fields
  at_top s t = go (eqb t 0)
    where
      go : (q : Bool) → indexed_of k H (cond q (inf s) nan) ≡ refused (refusal k 0)
      go true = refl
      go false = refl

  fields_far : (s : Bool) (z t : ℕ) → z < 2048 → 1043 ≤ z → indexed_of k H (of_fields binary64 s z t) ≡ refused (refusal k 0)
  fields_far s zero t Z h = absurd (omega arith)
  fields_far s (suc j) t Z h = go (eq-or-lt_of_le (le_of_suc-le-suc Z))
    where
      pred : 1043 ≤ suc j → 1042 ≤ j
      pred h = omega arith

      go : (suc j ≡ 2047) ⊎ (suc j < 2047) → indexed_of k H (of_fields binary64 s (suc j) t) ≡ refused (refusal k 0)
      go (inl e) = ap (λ (z : ℕ). indexed_of k H (of_fields binary64 s z t)) e ∙ at_top s t
      go (inr l) = normal_value s j t l ∙ read_far s ((2 ^ 52 + t) * 2 ^ j) (2 ^ 1074) (pow_pos 1074) (far_enough t j (pred h))

  pub reads_far : (b : ℕ) → 1043 ≤ field b → refused (refusal k 0) ≡ indexed_of k H (of_bits binary64 b)
  reads_far b h = sym (ap (indexed_of k H) (of_bits_is b) ∙ fields_far (sign b) (field b) (b % 2 ^ 52) (field_lt b) h)

  -- the rest: the digits, under a leading one, over 2 ^ (1064 - field)
  normal_near : (s : Bool) (j t : ℕ) → suc j < 1043 → indexed_of k H (of_fields binary64 s (suc j) t) ≡ index_below k H (greatest_whole s (2 ^ 52 + t) (2 ^ (1064 - suc j)))
  normal_near s j t h =
      let q = 2 ^ 52 + t in
      normal_value s j t (wider j h)
      ∙ ap (index_below k H) (whole_same s (2048 * (q * 2 ^ j)) (2 ^ 1074) q (2 ^ (1064 - suc j)) (pow_pos 1074) (pow_pos (1064 - suc j)) (cross q j h))
    where
      wider : (j : ℕ) → suc j < 1043 → suc j < 2047
      wider j h = omega arith

  small_near : (s : Bool) (t : ℕ) → t < 2 ^ 52 → 0 < t → indexed_of k H (of_fields binary64 s 0 t) ≡ index_below k H (greatest_whole s (2 ^ 52 + t) (2 ^ 1064))
  small_near s t T52 P =
      let T0 : t * 2 ^ 0 < 2 ^ 52 = subst (λ (x : ℕ). x < 2 ^ 52) (sym (mul-one t)) T52 in
      let P0 : 0 < t * 2 ^ 0 = subst (λ (x : ℕ). 0 < x) (sym (mul-one t)) P in
      small_value s t
      ∙ ap (index_below k H) (whole_tiny s (2048 * (t * 2 ^ 0)) (2 ^ 52 + t) (2 ^ 1074) (2 ^ 1064) (mul-pos (lit< tt) P0) (with_some t)
      (lt_of_lt_of_le (mul_lt_left (t * 2 ^ 0) T0) (lit≤ tt)) (lt_of_lt_of_le (with_lead t T52) (lit≤ tt)))

  fields_near : (s : Bool) (z t : ℕ) → t < 2 ^ 52 → z < 1043 → (z ≡ 0 → 0 < t) → indexed_of k H (of_fields binary64 s z t) ≡ index_below k H (greatest_whole s (2 ^ 52 + t) (2 ^ (1064 - z)))
  fields_near s zero t T52 h p = small_near s t T52 (p refl)
  fields_near s (suc j) t T52 h p = normal_near s j t h

  pub reads_near : (b : ℕ) → b < 2 * 2 ^ 63 → (b % 2 ^ 63 ≡ 0 → ⊥) → field b < 1043 → index_below k H (unit (not (sign b)) (outward b)) ≡ indexed_of k H (of_bits binary64 b)
  reads_near b l h z =
      sym (ap (indexed_of k H) (of_bits_is b)
      ∙ fields_near (sign b) (field b) (b % 2 ^ 52) (mod-lt b (pow_pos 52)) z (some_digits b h)
      ∙ ap (index_below k H) (whole_index (sign b) (2 ^ 52 + b % 2 ^ 52) (2 ^ (1064 - field b)) (with_some (b % 2 ^ 52)))
      ∙ ap (λ (q : ℕ). index_below k H (unit (not (sign b)) (q / 2 ^ (1064 - field b)))) (less b l))

  -- ---- what the body hands back: r is the outward index, below half or not

  pub out : (s : Bool) (r : ℕ) → H ≤ r → refused (refusal k 0) ≡ index_below k H (unit s r)
  out s r h = sym (beyond k H (unit s r) (subst (λ (k : ℕ). H ≤ k) (sym (index_unit s r)) h))

  within : (s : Bool) (r : ℕ) → r < H → accepted (unit s r) ≡ index_below k H (unit s r)
  within s r h = sym (inside k H (unit s r) (subst (λ (k : ℕ). k < H) (sym (index_unit s r)) h))

  pub east : (r : ℕ) → r < H → accepted (to_z w32 r) ≡ index_below k H (pos r)
  east r h = ap accepted (to_z_pos w32 r (lt_trans h few)) ∙ within true r h

  step_down : (k : ℕ) → negsuc 0 -ℤ pos k ≡ negsuc k
  step_down zero = refl
  step_down (suc n) = ap (λ (k : ℕ). negsuc (suc k)) (zero-add n)

  is : (r : ℕ) → r < H → negsuc 0 -ℤ to_z w32 r ≡ negsuc r
  is r h = ap (λ (z : ℤ). negsuc 0 -ℤ z) (to_z_pos w32 r (lt_trans h few)) ∙ step_down r

  pub minus_fits : (r : ℕ) → r < H → SFits w32 (negsuc 0 -ℤ to_z w32 r)
  minus_fits r h = subst (λ (z : ℤ). SFits w32 z) (sym (is r h)) (record { sfits = lt_trans h few })

  pub west : (r : ℕ) → r < H → accepted (to_z w32 (of_z w32 (negsuc 0 -ℤ to_z w32 r))) ≡ index_below k H (negsuc r)
  west r h = ap accepted (to_z-of_z w32 (negsuc 0 -ℤ to_z w32 r) (minus_fits r h) ∙ is r h) ∙ within false r h
