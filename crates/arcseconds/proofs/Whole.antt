-- The greatest whole number not above a fraction: equal fractions have the same, and it is the only one that the comparisons allow.
-- Assumes nothing.
use mathlib.Core.Path.{◌≡◌, refl, sym, ap, ◌∙◌, subst}
use mathlib.Core.Bool.{Bool, true, false, not, cond}
use Prim.Native.Nat.{ℕ, zero, suc, ◌+◌, ◌-◌, ◌*◌, ◌/◌, ◌≤◌, ◌<◌, suc-le-suc, zero-le}
use native.Mathlib.Nat.{
  le_of_eq,
  le_of_suc-le-suc,
  lt_irrefl,
  zero-lt-suc,
  zero-mul,
  mul-pos,
  mul_assoc,
  mul_right_comm,
  mul-le-mul_right,
  mul-lt-mul_of_pos_right,
  lt_of_mul-lt-mul_right,
  le_of_mul-le-mul_right,
  div-eq_of_lt-le,
  div-eq_of_lt,
  div-mul-le_self,
  lt-div-mul-add,
  zero-div,
}
use native.Mathlib.Numerals.{add-one}
use native.Mathlib.Omega.{arith}
use lib.IntN.{ℤ, pos, negsuc, neg_ℤ, suc_ℤ, ◌*ℤ◌, pos-*ℤ-pos, negsuc-*ℤ-pos}
use lib.Signed.{◌≤ℤ◌, ◌<ℤ◌}
use lib.Dec.{leb→le, ltb→lt, le→leb, lt→ltb}
use lib.Ieee.{Float, nan, inf, fin, up, down}
use lib.Ieee.Fits.{down_pos}
use lib.Ieee.Nearest.{div_same}
use Rattle.grid.specs.Units.{unit}
use Rattle.arcseconds.specs.Readings.{greatest_whole, signed, Floors}

-- ---- equal fractions

pub times : (n d k c : ℕ) → n * c ≡ k * d → 2048 * n * c ≡ 2048 * k * d
times n d k c e = mul_assoc 2048 n c ∙ ap (λ (x : ℕ). 2048 * x) e ∙ sym (mul_assoc 2048 k d)

below_suc : (a n : ℕ) → a < suc n → a ≤ n
below_suc a n h = omega arith

next : (q c : ℕ) → q * c + c ≡ (q + 1) * c
next q c = omega arith

neg_same : (n d k c : ℕ) → 0 < d → 0 < c → suc n * c ≡ suc k * d → n / d ≡ k / c
neg_same n d k c D C e =
    let q = k / c in
    let lo : q * c < suc k = suc-le-suc (div-mul-le_self k c) in
    let hi : suc k ≤ (q + 1) * c = subst (λ (x : ℕ). suc k ≤ x) (next q c) (lt-div-mul-add C) in
    div-eq_of_lt-le d
    (below_suc (q * d) n (lt_of_mul-lt-mul_right c (subst (λ (x : ℕ). q * d * c < x) (sym e) (subst (λ (x : ℕ). x < suc k * d) (mul_right_comm q c d) (mul-lt-mul_of_pos_right lo D)))))
    (le_of_mul-le-mul_right (subst (λ (x : ℕ). x ≤ (q + 1) * d * c) (sym e) (subst (λ (x : ℕ). suc k * d ≤ x) (mul_right_comm (q + 1) c d) (mul-le-mul_right d hi))) C)

no_part : (k c d : ℕ) → 0 < d → 0 * c ≡ suc k * d → ⊥
no_part k c d D e = lt_irrefl 0 (subst (λ (x : ℕ). 0 < x) (sym e ∙ zero-mul c) (mul-pos (zero-lt-suc k) D))

pub whole_same : (s : Bool) (n d k c : ℕ) → 0 < d → 0 < c → n * c ≡ k * d → greatest_whole s n d ≡ greatest_whole s k c
whole_same false n d k c D C e = ap pos (div_same n d k c D C e)
whole_same true zero d zero c D C e = refl
whole_same true zero d (suc k) c D C e = absurd (no_part k c d D e)
whole_same true (suc n) d zero c D C e = absurd (no_part n d c C (sym e))
whole_same true (suc n) d (suc k) c D C e = ap negsuc (neg_same n d k c D C e)

-- sizes above 0 and below 1
pub whole_tiny : (s : Bool) (n k d c : ℕ) → 0 < n → 0 < k → n < d → k < c → greatest_whole s n d ≡ greatest_whole s k c
whole_tiny false n k d c N K h g = ap pos (div-eq_of_lt h ∙ sym (div-eq_of_lt g))
whole_tiny true zero k d c N K h g = absurd (lt_irrefl 0 N)
whole_tiny true (suc n) zero d c N K h g = absurd (lt_irrefl 0 K)
whole_tiny true (suc n) (suc k) d c N K h g = ap negsuc (div-eq_of_lt (before n d h) ∙ sym (div-eq_of_lt (before k c g)))
  where
    before : (n d : ℕ) → suc n < d → n < d
    before n d h = omega arith

-- ---- by side and outward index: below 0 the index is that of one less

pub whole_index : (s : Bool) (n d : ℕ) → 0 < n → greatest_whole s n d ≡ unit (not s) ((n - cond s 1 0) / d)
whole_index false n d h = ap (λ (x : ℕ). pos (x / d)) (all n)
  where
    all : (n : ℕ) → n ≡ n - 0
    all n = omega arith
whole_index true zero d h = absurd (lt_irrefl 0 h)
whole_index true (suc n) d h = ap (λ (x : ℕ). negsuc (x / d)) (less_one n)
  where
    less_one : (n : ℕ) → n ≡ suc n - 1
    less_one n = omega arith

-- ---- comparisons of whole numbers with a sign

le_pos : (a b : ℕ) → a ≤ b → pos a ≤ℤ pos b
le_pos a b h = record { le = le→leb a b h }

lt_pos : (a b : ℕ) → a < b → pos a <ℤ pos b
lt_pos a b h = record { lt = lt→ltb a b h }

le_neg : (a b : ℕ) → b ≤ a → neg_ℤ (pos a) ≤ℤ neg_ℤ (pos b)
le_neg zero zero h = record { le = tt }
le_neg zero (suc b) h = absurd (omega arith)
le_neg (suc a) zero h = record { le = tt }
le_neg (suc a) (suc b) h = record { le = le→leb b a (le_of_suc-le-suc h) }

lt_neg : (a b : ℕ) → b < a → neg_ℤ (pos a) <ℤ neg_ℤ (pos b)
lt_neg zero b h = absurd (omega arith)
lt_neg (suc a) zero h = record { lt = tt }
lt_neg (suc a) (suc b) h = record { lt = lt→ltb b a (le_of_suc-le-suc h) }

from_le_neg : (a n : ℕ) → neg_ℤ (pos a) ≤ℤ negsuc n → suc n ≤ a
from_le_neg zero n h = absurd h.le
from_le_neg (suc a) n h = suc-le-suc (leb→le n a h.le)

from_lt_neg : (n b : ℕ) → negsuc n <ℤ neg_ℤ (pos b) → b < suc n
from_lt_neg n zero h = suc-le-suc zero-le
from_lt_neg n (suc b) h = suc-le-suc (ltb→lt b n h.lt)

above_neg : (N x : ℕ) → pos N <ℤ neg_ℤ (pos x) → ⊥
above_neg N zero h = let l : N < 0 = ltb→lt N 0 h.lt in omega arith
above_neg N (suc x) h = h.lt

neg_times : (k d : ℕ) → suc_ℤ (negsuc k) *ℤ pos d ≡ neg_ℤ (pos (k * d))
neg_times zero d = pos-*ℤ-pos 0 d ∙ ap pos (zero-mul d) ∙ sym (ap (λ (n : ℕ). neg_ℤ (pos n)) (zero-mul d))
neg_times (suc k) d = negsuc-*ℤ-pos k d

-- ---- what it is: u * d ≤ ± n < (u + 1) * d, for this u and no other

up_one : (k d : ℕ) → (k + 1) * d ≡ suc k * d
up_one k d = ap (λ (x : ℕ). x * d) (add-one k)

past : (n d : ℕ) → 0 < d → n < suc (n / d) * d
past n d D = subst (λ (k : ℕ). n < k) (next (n / d) d ∙ up_one (n / d) d) (lt-div-mul-add D)

pub whole_is : (s : Bool) (n d : ℕ) → 0 < d → ((greatest_whole s n d *ℤ pos d) ≤ℤ signed s n) × (signed s n <ℤ (suc_ℤ (greatest_whole s n d) *ℤ pos d))
whole_is false n d D = (
  subst (λ (z : ℤ). z ≤ℤ pos n) (sym (pos-*ℤ-pos (n / d) d)) (le_pos (n / d * d) n (div-mul-le_self n d)),
  subst (λ (z : ℤ). pos n <ℤ z) (sym (pos-*ℤ-pos (suc (n / d)) d)) (lt_pos n (suc (n / d) * d) (past n d D)),
)
whole_is true zero d D = (
  subst (λ (z : ℤ). z ≤ℤ pos 0) (sym (pos-*ℤ-pos 0 d)) (le_pos (0 * d) 0 (le_of_eq (zero-mul d))),
  subst (λ (z : ℤ). pos 0 <ℤ z) (sym (pos-*ℤ-pos 1 d)) (lt_pos 0 (1 * d) (omega arith)),
)
whole_is true (suc n) d D = (
  subst (λ (z : ℤ). z ≤ℤ negsuc n) (sym (negsuc-*ℤ-pos (n / d) d)) (le_neg (suc (n / d) * d) (suc n) (past n d D)),
  subst (λ (z : ℤ). negsuc n <ℤ z) (sym (neg_times (n / d) d)) (lt_neg (suc n) (n / d * d) (suc-le-suc (div-mul-le_self n d))),
)

pos_only : (N d : ℕ) (u : ℤ) → (u *ℤ pos d) ≤ℤ pos N → pos N <ℤ (suc_ℤ u *ℤ pos d) → u ≡ pos (N / d)
pos_only N d (pos k) a b = ap pos (sym (div-eq_of_lt-le d (leb→le (k * d) N a.le) (subst (λ (x : ℕ). N < x) (sym (up_one k d)) (ltb→lt N (suc k * d) b.lt))))
pos_only N d (negsuc k) a b = absurd (above_neg N (k * d) (subst (λ (z : ℤ). pos N <ℤ z) (neg_times k d) b))

pub whole_only : (s : Bool) (n d : ℕ) (u : ℤ) → 0 < d → (u *ℤ pos d) ≤ℤ signed s n → signed s n <ℤ (suc_ℤ u *ℤ pos d) → u ≡ greatest_whole s n d
whole_only false n d u D a b = pos_only n d u a b
whole_only true zero d u D a b = pos_only 0 d u a b ∙ ap pos (zero-div d)
whole_only true (suc n) d (pos k) D a b = absurd a.le
whole_only true (suc n) d (negsuc k) D a b =
    ap negsuc (sym (div-eq_of_lt-le d (le_of_suc-le-suc (from_lt_neg n (k * d) (subst (λ (z : ℤ). negsuc n <ℤ z) (neg_times k d) b)))
    (subst (λ (x : ℕ). suc n ≤ x) (sym (up_one k d)) (from_le_neg (suc k * d) n a))))

-- ---- a reading has no two floors

pub one_floor : (x : Float) (u v : ℤ) → Floors x u → Floors x v → u ≡ v
unfolding Floors
one_floor nan u v f g = absurd f
one_floor (inf s) u v f g = absurd f
one_floor (fin s m e) u v f g =
    whole_only s (2048 * (m * up e)) (down e) u (down_pos e) f.0 f.1
    ∙ sym (whole_only s (2048 * (m * up e)) (down e) v (down_pos e) g.0 g.1)

-- ---- a size of at most b lies from -b to b, on either side

neg_le_pos : (b n : ℕ) → neg_ℤ (pos b) ≤ℤ pos n
neg_le_pos zero n = le_pos 0 n zero-le
neg_le_pos (suc b) n = record { le = tt }

pub size_within : (s : Bool) (n b : ℕ) → n ≤ b → (neg_ℤ (pos b) ≤ℤ signed s n) × (signed s n ≤ℤ pos b)
size_within false n b h = (neg_le_pos b n, le_pos n b h)
size_within true n b h = (le_neg b n h, neg_le_pos n b)

pub within_size : (s : Bool) (n b : ℕ) → neg_ℤ (pos b) ≤ℤ signed s n → signed s n ≤ℤ pos b → n ≤ b
within_size false n b l u = leb→le n b u.le
within_size true zero b l u = zero-le
within_size true (suc n) b l u = from_le_neg b n l
