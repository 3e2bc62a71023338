-- Edition 2 is annex C.14's: each height character of its space codes is a field of the layer's 32 bits.
-- Assumes nothing.
use mathlib.Core.Path.{◌≡◌, refl, sym, ◌∙◌, ap}
use mathlib.Core.Bool.{true}
use mathlib.Core.List.{List, [], ◌∷◌, map}
use Prim.Native.Nat.{ℕ, ◌+◌, ◌-◌, ◌*◌, ◌/◌, ◌%◌, ◌^◌, ◌≤◌, ◌<◌}
use native.Mathlib.Omega.{arith}
use native.Mathlib.Nat.{mul-add-div_right, mul-add-mod_self_right, mod-eq_of_lt}
use lib.Pow.{pow-add, pow_pos}
use lib.IntN.{ℤ, pos, negsuc}
use lib.ListN.{length, take, drop, get_or, length-map, length-drop, take-append-drop}
use lib.Seq.{take_at, drop_at, length-take-le}
use Rattle.grid.specs.Units.{side, index, Square}
use Rattle.grid.specs.Characters.{char_of}
use Rattle.grid.specs.Plane.{code_of}
use Rattle.grid.specs.Layers.{theirs, rise, sign}
use Rattle.grid.specs.Both.{mix}
use Rattle.grid.specs.inner.Standing.{height_place}
use Rattle.grid.specs.Space.{space_codes, OnGrid, space_code_of}
use Rattle.grid.proofs.BothLaws.{second_mix, length_mix}
use Rattle.grid.proofs.Families.{length_code_in}
use Rattle.grid.proofs.LayerLaws.{rise_below}
use Rattle.grid.proofs.Theorems.{theirs_fair, space_sound}
use Rattle.layers.specs.declared.Edition.TheVariants.{Second}
use Rattle.layers.specs.inner.Steps.{height_digits, standing}
use Rattle.layers.proofs.Radices.{edition_fair}
use Rattle.layers.proofs.Digits.{direct, height_straight, height_length}
use Rattle.plane.proofs.Reading.{code_length}
use Rattle.space.specs.Bits.{twos_complement, bits, bit_digits, height_places}
use Rattle.space.specs.inner.Weave.{Strand, both_of, parts, weave, seconds}
use Rattle.space.specs.inner.Parts.{ten_strands}
use Rattle.space.proofs.Weaving.{each_some, counted, some_of}
use Rattle.space.proofs.Parts.{long_sum, ten, height_same}
use Rattle.space.proofs.Writing.{code_parts}

-- ---- the other, out of what was woven

seconds_woven : (ts : List Strand) (a b : List ℕ) → each_some ts ≡ true → length a ≡ counted (λ t. t.one) ts → length b ≡ counted (λ t. t.two) ts
    → seconds ts (weave ts a b) ≡ b
unfolding parts weave
seconds_woven [] a [] e la lb = refl
seconds_woven [] a (c ∷ b) e la lb = absurd (omega (arith, lb))
seconds_woven (t ∷ ts) a b e la lb =
    let s = some_of t ts e in
    let x = take t.one a in
    let y = take t.two b in
    let lx : length x ≡ t.one = length-take-le t.one a (omega (arith, la)) in
    let ly : length y ≡ t.two = length-take-le t.two b (omega (arith, lb)) in
    let n : length (mix t.lead x y) ≡ both_of t = omega (arith, length_mix t.lead x y, lx, ly) in
    let rest = weave ts (drop t.one a) (drop t.two b) in
    rw (
      take_at (mix t.lead x y) rest (both_of t) n,
      drop_at (mix t.lead x y) rest (both_of t) n,
      second_mix t.lead t.one x y lx (omega (arith, lx, s.0), omega (arith, ly, s.1)),
      seconds_woven ts (drop t.one a) (drop t.two b) s.2 (omega (arith, length-drop t.one a, la)) (omega (arith, length-drop t.two b, lb)),
    )
    (take-append-drop t.two b)

-- ---- fields of bits

-- the bit above the k + w lowest ones does not show in w bits from place k on: one law over the field's place and width
field : (X k w : ℕ) → k + w ≤ 31 → (2 ^ 31 + X) / 2 ^ k % 2 ^ w ≡ X / 2 ^ k % 2 ^ w
field X k w h =
    let d = 31 - (k + w) in
    let e : 31 ≡ d + w + k = omega arith in
    let p : 2 ^ 31 ≡ 2 ^ d * 2 ^ w * 2 ^ k = ap (λ (x : ℕ). 2 ^ x) e ∙ pow-add 2 (d + w) k ∙ ap (λ (x : ℕ). x * 2 ^ k) (pow-add 2 d w) in
    ap (λ (x : ℕ). (x + X) / 2 ^ k % 2 ^ w) p
    ∙ ap (λ (x : ℕ). x % 2 ^ w) (mul-add-div_right (pow_pos k) (2 ^ d * 2 ^ w) X)
    ∙ mul-add-mod_self_right (2 ^ d) (2 ^ w) (X / 2 ^ k)

-- below the sign, the bits are those of the rise
low : (z : ℤ) → index z < 2147483648 → (k w : ℕ) → k + w ≤ 31 → rise 2147483648 z / 2 ^ k % 2 ^ w ≡ twos_complement z / 2 ^ k % 2 ^ w
low (pos n) h k w b = refl
low (negsuc n) h k w b =
    let e : 2 ^ 31 + (2147483648 - 1 - n) ≡ 2 ^ 32 - 1 - n = omega arith in
    sym (ap (λ (x : ℕ). x / 2 ^ k % 2 ^ w) (sym e) ∙ field (2147483648 - 1 - n) k w b)

-- and the sign is bit 32
sign_bit : (z : ℤ) → index z < 2147483648 → sign (side z) ≡ bits (twos_complement z) 32 32
sign_bit (pos n) h = omega arith
sign_bit (negsuc n) h = omega arith

-- the two decimal digits of level 1 are those of bits 26 to 31
first_bits : (z : ℤ) → index z < 2147483648 → rise 2147483648 z / 33554432 ≡ bits (twos_complement z) 26 31
first_bits z h =
    let r : rise 2147483648 z < 2147483648 = rise_below 2147483648 z h in
    sym (mod-eq_of_lt (omega (arith, r))) ∙ low z h 25 6 (omega arith)

height_bits : (z : ℤ) → index z < 2147483648 → height_digits theirs 10 z ≡ bit_digits (twos_complement z)
unfolding direct
height_bits z h =
    height_straight 64 (8 ∷ 2 ∷ 16 ∷ 16 ∷ 2 ∷ 8 ∷ 8 ∷ 8 ∷ 8 ∷ []) 9 z (edition_fair Second) h
    ∙ (λ j.
    sign_bit z h j
    ∷ (first_bits z h j / 10)
    ∷ (first_bits z h j % 10)
    ∷ low z h 22 3 (omega arith) j
    ∷ low z h 21 1 (omega arith) j
    ∷ low z h 17 4 (omega arith) j
    ∷ low z h 13 4 (omega arith) j
    ∷ low z h 12 1 (omega arith) j
    ∷ low z h 9 3 (omega arith) j
    ∷ low z h 6 3 (omega arith) j
    ∷ low z h 3 3 (omega arith) j
    ∷ low z h 0 3 (omega arith) j
    ∷ [])

-- ---- the theorem

long : (s : Square) (z : ℤ) → OnGrid theirs (s, z) → length (space_code_of theirs 10 (s, z)) ≡ 32
unfolding space_code_of space_codes space_sound
long s z o = length_code_in (space_codes theirs) (space_sound theirs theirs_fair) 10 (s, z) o (omega arith) ∙ long_sum Second 10 (omega arith) (omega arith)

places_part : (w : List ℕ) → map (λ p. get_or w p 0) height_places ≡ standing 10 w
unfolding height_place
places_part w = refl

-- each height character of a space code of edition 2 is the field of the layer's 32 bits that annex C.14 names
pub cut_by_bits : (s : Square) (z : ℤ) → OnGrid theirs (s, z)
    → map (λ p. get_or (space_code_of theirs 10 (s, z)) p 0) height_places ≡ map char_of (bit_digits (twos_complement z))
cut_by_bits s z o =
    let w = space_code_of theirs 10 (s, z) in
    let C = ten 10 (omega arith) (omega arith) in
    let ch = map char_of (height_digits theirs 10 z) in
    let np : length (code_of 10 s) ≡ 20 = code_length 10 s o.on_globe (omega arith) (omega arith) in
    let nh : length ch ≡ 12 = length-map (height_digits theirs 10 z) char_of ∙ height_length theirs 10 z (edition_fair Second) o.layer_in (omega arith) (omega arith) in
    places_part w
    ∙ height_same 10 C w (long s z o)
    ∙ ap (seconds ten_strands) (code_parts Second 10 (omega arith) (s, z) o)
    ∙ seconds_woven ten_strands (code_of 10 s) ch C.some (np ∙ sym C.one) (nh ∙ sym C.two)
    ∙ ap (map char_of) (height_bits z o.layer_in)
