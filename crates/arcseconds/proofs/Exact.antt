-- A whole number below 2 ^ 53, as an f64 and divided by 2048, is that fraction exactly; and two f64 of one sign and size are one.
-- Assumes nothing.
use mathlib.Core.Path.{◌≡◌, refl, sym, ap, ◌∙◌, subst}
use mathlib.Core.Bool.{Bool, true, false, not, cond}
use Prim.Native.Nat.{ℕ, suc, ◌+◌, ◌-◌, ◌*◌, ◌/◌, ◌^◌, ◌<◌}
use native.Mathlib.Nat.{lt_of_le_of_lt, mul_assoc, mul_comm, mul_left_comm, mul_right_comm, mul-pos, lt_of_lt_of_le, eq_of_mul-eq-mul_right, le_of_lt, mul-lt-mul_of_pos_right}
use lib.IntN.{ℤ, pos, negsuc, nat_abs}
use lib.Dec.{T, lit<, lit≤}
use lib.Signed.{nat_abs-le}
use native.Mathlib.Omega.{arith}
use mir.Syntax.{w32}
use mir.Val.{Fits, SFits, to_z, of_z}
use mir.Facts.{to_z-of_z}
use lib.Pow.{pow_pos}
use lib.Ieee.{Float, nan, inf, fin, Format, binary64, up, down, prec, low, hid, top, size, round, div, of_int, to_bits, of_bits, fits}
use lib.Ieee.Fits.{down_pos, div-fits}
use lib.Ieee.Bits.{of_bits-to_bits}
use lib.Ieee.Exact.{HasValue, round_exact}
use lib.Ieee.Nearest.{div_same}
use lib.Ieee.Back.{round_whole}
use Rattle.grid.specs.Units.{side}
use Rattle.arcseconds.specs.Boxes.{SecondsOf, Exactly}
use Rattle.arcseconds.specs.inner.Axis.{SecondsFrom}

-- ---- the division

-- 2048.0
abbrev two11 : Float
two11 = fin false 1 (pos 11)

two11_is : of_bits binary64 0x40a0_0000_0000_0000 ≡ two11
unfolding of_bits
two11_is = refl

abbrev negative : ℤ → Bool
negative u = not (side u)

of_int_value : (z : ℤ) → nat_abs z < 2 ^ 53 → HasValue (of_int binary64 z) (negative z) (nat_abs z) 1
unfolding of_int
of_int_value (pos n) h = round_whole binary64 false n (le_of_lt h)
of_int_value (negsuc n) h = round_whole binary64 true (suc n) (le_of_lt h)

regroup : (n d p k : ℕ) → n * d * (p * k) ≡ n * p * (k * d)
regroup n d p k = simp (mul_assoc, mul_comm, mul_left_comm)

clear : (a n d b : ℕ) → 0 < d → a * (2048 * d) ≡ n * d * b → a * 2048 ≡ n * b
clear a n d b h e = eq_of_mul-eq-mul_right d h (a * 2048) (n * b) (mul_assoc a 2048 d ∙ e ∙ mul_right_comm n d b)

seconds_of : (u : ℤ) (d : ℕ) (x : Float) → 0 < d → HasValue x (negative u) (nat_abs u * d) (2048 * d) → SecondsOf u x
unfolding SecondsOf
seconds_of u d nan h v = v
seconds_of u d (inf s) h v = v
seconds_of u d (fin s m e) h v = (v.0, clear (m * up e) (nat_abs u) d (down e) h v.1)

rounds : (s : Bool) (n d : ℕ) → 0 < d → n < 2 ^ 53 → HasValue (round binary64 s (n * d) (2048 * d)) s (n * d) (2048 * d)
rounds s n d D h =
    round_exact binary64 s (n * d) (2048 * d) n 1063 (mul-pos (lit< tt) D) h (lt_of_lt_of_le (mul-lt-mul_of_pos_right h (pow_pos 1063)) (lit≤ tt)) (regroup n d (2 ^ 1063) 2048)

-- a quotient by 2048.0 has the dividend's sign
divided : (u : ℤ) (s : Bool) (k : ℕ) (e : ℤ) → nat_abs u < 2 ^ 53 → s ≡ negative u → k ≡ nat_abs u * down e → SecondsOf u (round binary64 s k (2048 * down e))
divided u s k e h p q = rw (p, q) (seconds_of u (down e) _ (down_pos e) (rounds (negative u) (nat_abs u) (down e) (down_pos e) h))

div_value : (u : ℤ) (x : Float) → nat_abs u < 2 ^ 53 → HasValue x (negative u) (nat_abs u) 1 → SecondsOf u (div binary64 x two11)
unfolding div
div_value u nan h v = absurd v
div_value u (inf s) h v = absurd v
div_value u (fin false m e) h v = divided u false (m * up e * 1) e h v.0 v.1
div_value u (fin true m e) h v = divided u true (m * up e * 1) e h v.0 v.1

-- u as an f64, divided by 2048.0
pub exactly : (u : ℤ) → nat_abs u < 2 ^ 53 → Exactly u (div binary64 (of_int binary64 u) (of_bits binary64 0x40a0_0000_0000_0000))
exactly u h =
    record {
      value = subst (λ (k : Float). SecondsOf u (div binary64 (of_int binary64 u) k)) (sym two11_is) (div_value u (of_int binary64 u) h (of_int_value u h));
      held = div-fits binary64 _ _;
    }

-- what `seconds` gives for a corner's number, as it is handed over
pub corner : (u : ℤ) {x : Float} → SFits w32 u → SecondsFrom (λ (f : Float). f ≡ of_int binary64 (to_z w32 (of_z w32 u))) x → Exactly u x
corner u held e = e u (lt_of_le_of_lt (nat_abs-le u held.sfits) (lit< tt)) (λ f h. h ∙ ap (of_int binary64) (to_z-of_z held))

-- and for a size
pub size_of : (n : ℕ) {x : Float} → Fits w32 n → SecondsFrom (λ (f : Float). f ≡ of_int binary64 (pos n)) x → Exactly (pos n) x
size_of n held e = e (pos n) (omega (arith, held.fits)) (λ f h. h)

-- ---- two f64 of one sign and size are one

pub one_float : (f : Format) (x y : Float) (s : Bool) (a c : ℕ) → 0 < c → T (fits f x) → T (fits f y) → HasValue x s a c → HasValue y s a c → x ≡ y
unfolding to_bits
one_float f x y s a c C p q v w = sym (of_bits-to_bits f x p) ∙ ap (of_bits f) (bits x v ∙ sym (bits y w)) ∙ of_bits-to_bits f y q
  where
    n : ℕ
    n = a * 2 ^ low f / c

    swap : (i j k : ℕ) → i * j * k ≡ i * k * j
    swap i j k = simp (mul_right_comm)

    scaled : (m : ℕ) (e : ℤ) → m * up e * c ≡ a * down e → m * up e * 2 ^ low f / down e ≡ a * 2 ^ low f / c
    scaled m e h = div_same (m * up e * 2 ^ low f) (down e) (a * 2 ^ low f) c (down_pos e) C (swap (m * up e) (2 ^ low f) c ∙ ap (λ (k : ℕ). k * 2 ^ low f) h ∙ swap a (down e) (2 ^ low f))

    bits : (z : Float) → HasValue z s a c → to_bits f z ≡ cond s (top f) 0 + (size n - prec f) * hid f + n / 2 ^ (size n - prec f)
    bits nan h = absurd h
    bits (inf t) h = absurd h
    bits (fin t m e) h =
        ap (λ (k : ℕ). cond t (top f) 0 + (size k - prec f) * hid f + k / 2 ^ (size k - prec f)) (scaled m e h.1)
        ∙ ap (λ (b : Bool). cond b (top f) 0 + (size n - prec f) * hid f + n / 2 ^ (size n - prec f)) h.0

pub value_of : (u : ℤ) (x : Float) → SecondsOf u x → HasValue x (not (side u)) (nat_abs u) 2048
unfolding SecondsOf
value_of u nan v = v
value_of u (inf s) v = v
value_of u (fin s m e) v = v

pub one_exactly : (u : ℤ) (x y : Float) → Exactly u x → Exactly u y → x ≡ y
one_exactly u x y v w = one_float binary64 x y (not (side u)) (nat_abs u) 2048 (lit< tt) v.held w.held (value_of u x v.value) (value_of u y w.value)
