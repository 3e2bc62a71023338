-- `axis` meets its contract: what a bit pattern reads as stands in proofs/Pattern.antt.
-- Assumes nothing.
use mathlib.Core.Path.{◌≡◌, sym, ap, ◌∙◌, subst}
use mathlib.Core.Bool.{Bool, not}
use Prim.Native.Nat.{ℕ, ◌*◌, ◌/◌, ◌^◌, ◌≤◌, ◌<◌}
use native.Mathlib.Omega.{arith}
use borrow.Author.Tests.{lt-leb, le-leb}
use lib.Dec.{T}
use lib.Ieee.{binary64, to_bits, of_bits, fits}
use lib.Ieee.Bits.{of_bits-to_bits, to_bits-lt}
use Rattle.grid.specs.Units.{unit}
use Rattle.arcseconds.specs.inner.Axis.{index_below, indexed_of}
use Rattle.arcseconds.proofs.Pattern.{sign, reads_zero, reads_far, reads_near, out, east, west, minus_fits}
use Rattle.arcseconds.proofs.axis.Goals as goal
use Rattle.arcseconds.proofs.axis.Goals.{Start, After-shifted-outward}

-- what owning an f64 tells; so the float is what its pattern reads as, and the pattern has 64 bits
held : (c : Start) → T (fits binary64 c.args.x)
held c = subst T (sym c.well_formed.0.1) tt

back : (n : ℕ) (c : Start) → indexed_of n c.args.half (of_bits binary64 (to_bits binary64 c.args.x)) ≡ indexed_of n c.args.half c.args.x
back n c = ap (indexed_of n c.args.half) (of_bits-to_bits binary64 c.args.x (held c))

bits_lt : (c : Start) → to_bits binary64 c.args.x < 2 * 2 ^ 63
bits_lt c = to_bits-lt binary64 c.args.x (held c)

-- the number on the pattern's side whose outward index was worked out
near : (n : ℕ) (c : After-shifted-outward) → index_below n c.args.half (unit (not (sign (to_bits binary64 c.args.x))) c.shifted-outward.result) ≡ indexed_of n c.args.half (of_bits binary64 (to_bits binary64 c.args.x))
near n c =
    ap (λ (k : ℕ). index_below n c.args.half (unit (not (sign (to_bits binary64 c.args.x))) k)) c.shifted-outward.ensures
    ∙ reads_near n c.args.half c.requires.1 c.requires.2 (to_bits binary64 c.args.x) (to_bits-lt binary64 c.args.x (subst T (sym c.well_formed.0.1) tt)) c.if-size-eq0.false c.if-exponent-ge1043.false

positive : (n : ℕ) → n / 9223372036854775808 ≡ 0 → n < 9223372036854775808
positive n h = omega arith

negative : (n : ℕ) → (n / 9223372036854775808 ≡ 0 → ⊥) → 9223372036854775808 ≤ n
negative n h = omega arith

pub returns-then-size-eq0 : goal.returns-then-size-eq0
returns-then-size-eq0 c n = reads_zero n c.args.half c.requires.1 c.requires.2 (to_bits binary64 c.args.x) c.if-size-eq0.true ∙ back n (goal.at.returns-then-size-eq0 c).Start

pub returns-then-exponent-ge1043 : goal.returns-then-exponent-ge1043
returns-then-exponent-ge1043 c n = reads_far n c.args.half c.requires.1 c.requires.2 (to_bits binary64 c.args.x) c.if-exponent-ge1043.true ∙ back n (goal.at.returns-then-exponent-ge1043 c).Start

pub overflow_sub-digits : goal.overflow_sub-digits
overflow_sub-digits c = omega (arith, bits_lt (goal.at.overflow_sub-digits c).Start)

pub returns-then-outward-half : goal.returns-then-outward-half
returns-then-outward-half c n = out n c.args.half c.requires.1 c.requires.2 (not (sign (to_bits binary64 c.args.x))) c.shifted-outward.result c.if-outward-half.true ∙ near n (goal.at.returns-then-outward-half c).After-shifted-outward ∙ back n (goal.at.returns-then-outward-half c).Start

pub returns-then-below-eq0 : goal.returns-then-below-eq0
returns-then-below-eq0 c n = east n c.args.half c.requires.1 c.requires.2 c.shifted-outward.result c.if-outward-half.false
    ∙ ap (λ (t : Bool). index_below n c.args.half (unit (not t) c.shifted-outward.result)) (sym (lt-leb (2 ^ 63) (to_bits binary64 c.args.x) (positive (to_bits binary64 c.args.x) c.if-below-eq0.true)))
    ∙ near n (goal.at.returns-then-below-eq0 c).After-shifted-outward ∙ back n (goal.at.returns-then-below-eq0 c).Start

pub overflow_sub-result : goal.overflow_sub-result
overflow_sub-result c = minus_fits 0 c.args.half c.requires.1 c.requires.2 c.shifted-outward.result c.if-outward-half.false

pub returns : goal.returns
returns c n = west n c.args.half c.requires.1 c.requires.2 c.shifted-outward.result c.if-outward-half.false
    ∙ ap (λ (t : Bool). index_below n c.args.half (unit (not t) c.shifted-outward.result)) (sym (le-leb (2 ^ 63) (to_bits binary64 c.args.x) (negative (to_bits binary64 c.args.x) c.if-below-eq0.false)))
    ∙ near n (goal.at.returns c).After-shifted-outward ∙ back n (goal.at.returns c).Start
