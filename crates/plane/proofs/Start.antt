-- The first four characters of a plane code: what each test of the reader says of the rule.
-- Assumes nothing.
use Rattle.std.proofs.Common.{◌≡◌, ℕ, ◌+◌, ◌-◌, ◌*◌, ◌/◌, ◌%◌, ◌^◌, ◌<◌, ◌≤◌, Bool, true, false, ◌||◌, eqb, leb, List, [], ◌∷◌, map, length, get_or, take, sym, refl, ap, ◌∙◌, mul-le-mul, mul-pos, mul-zero, zero-mul, arith, w32, Fits, le-ltb, lt-ltb, eq-eqb, ne_eqb, eqb-true, le-leb}
use borrow.Author.Tests.{lt-leb, eqb-false}
use Rattle.grid.specs.Characters.{char_of, digit_of}
use Rattle.grid.specs.inner.Roads.{DigitBelow}
use Rattle.grid.specs.Splits.{first, split_at}
use Rattle.grid.specs.inner.Standing.{zone_place, length_in, plane_place, stands_at, plane_in}
use Rattle.grid.specs.Tree.{Read, ok, bad, guard}
use Rattle.grid.specs.Plane.{Node, pole, sheet, letter, globe_child}
use Rattle.grid.proofs.Cut.{clash}
use Rattle.grid.proofs.Lengths.{grows}
use Rattle.grid.proofs.Standing.{plane_long, plane_at}
use Rattle.grid.proofs.Characters.{digit_char, char_digit, told}
use Rattle.plane.specs.inner.Start.{first_digits, north_or_south, lettered_read, zoned_read}

module _ (n : Bool) (z d : ℕ) where
  pub letter_low : d < 10 → bad 3 ≡ lettered_read n z d
  unfolding lettered_read
  letter_low h = rw (lt-leb 10 d h) refl

  module _ {rows : ℕ} (e : rows ≡ first.rows) (h : 10 ≤ d) where
    pub letter_high : rows ≤ d - 10 → bad 3 ≡ lettered_read n z d
    unfolding lettered_read
    letter_high k = rw (le-leb 10 d h, le-ltb (d - 10) first.rows (omega arith)) refl

    pub letter_row : d - 10 < rows → ok (sheet n z (d - 10)) ≡ lettered_read n z d
    unfolding lettered_read
    letter_row k = rw (le-leb 10 d h, lt-ltb (d - 10) first.rows (omega arith)) refl

module _ (n : Bool) (b c d : ℕ) {zones : ℕ} (e : zones ≡ first.columns) where
  pub tens_high : zones / 10 < b → bad 1 ≡ zoned_read n b c d
  unfolding zoned_read
  tens_high h = rw (lt-leb (10 * b) first.columns (omega arith)) refl

  module _ (h : b ≤ zones / 10) where
    tens : 10 * b ≤ first.columns
    tens = omega arith

    pub ones_high : 9 < c → bad 2 ≡ zoned_read n b c d
    unfolding zoned_read
    ones_high k = rw (le-leb (10 * b) first.columns tens, lt-leb c 9 k) refl

    module _ (k : c ≤ 9) where
      pub zone_high : zones < 10 * b + c → bad 2 ≡ zoned_read n b c d
      unfolding zoned_read
      zone_high l = rw (le-leb (10 * b) first.columns tens, le-leb c 9 k, lt-leb (10 * b + c) first.columns (omega arith)) refl

      pub zone_some : 10 * b + c ≤ zones → 0 < 10 * b + c → lettered_read n (10 * b + c) d ≡ zoned_read n b c d
      unfolding zoned_read
      zone_some l m =
          rw (le-leb (10 * b) first.columns tens, le-leb c 9 k, le-leb (10 * b + c) first.columns (omega arith), ne_eqb (10 * b + c) 0 (λ e. omega arith)) refl

      module _ (l : 10 * b + c ≤ 0) where
        pub zone_pole : d ≡ 0 → ok (pole n) ≡ zoned_read n b c d
        unfolding zoned_read
        zone_pole m =
            rw (le-leb (10 * b) first.columns tens, le-leb c 9 k, le-leb (10 * b + c) first.columns (omega arith), eq-eqb (10 * b + c) 0 (omega arith), eq-eqb d 0 m) refl

        pub zone_no_pole : (d ≡ 0 → ⊥) → bad 3 ≡ zoned_read n b c d
        unfolding zoned_read
        zone_no_pole m =
            rw (le-leb (10 * b) first.columns tens, le-leb c 9 k, le-leb (10 * b + c) first.columns (omega arith), eq-eqb (10 * b + c) 0 (omega arith), ne_eqb d 0 m) refl

-- ---- the first character

four : (l : List ℕ) → 4 ≤ length l → take 4 (map digit_of l) ≡ digit_of (get_or l 0 0) ∷ digit_of (get_or l 1 0) ∷ digit_of (get_or l 2 0) ∷ digit_of (get_or l 3 0) ∷ []
four [] h = absurd (omega arith)
four (a ∷ []) h = absurd (omega arith)
four (a ∷ b ∷ []) h = absurd (omega arith)
four (a ∷ b ∷ c ∷ []) h = absurd (omega arith)
four (a ∷ b ∷ c ∷ d ∷ l) h = refl

-- the zone and what follows it are read by what tells their digits
zoned_told : (n : Bool) {x y u b c d : ℕ} → DigitBelow 10 x b → DigitBelow 10 y c → DigitBelow 32 u d → zoned_read n b c d ≡ zoned_read n (digit_of x) (digit_of y) (digit_of u)
unfolding zoned_read
zoned_told n {x} {y} {u} {b} {c} {d} p q r =
    told p (λ b. zoned_read n b c d) (bad 1) (λ m h. sym (tens_high n m c d refl (omega arith)))
    ∙ told q (λ c. zoned_read n (digit_of x) c d) (guard 1 (leb (10 * digit_of x) first.columns) (bad 2)) (λ m h. rw (lt-leb m 9 (omega arith)) refl)
    ∙ told r (zoned_read n (digit_of x) (digit_of y)) (zoned_read n (digit_of x) (digit_of y) 32)
    (λ m h. rw (ne_eqb m 0 (λ e. omega arith), ← letter_high n (10 * digit_of x + digit_of y) m refl (omega arith) (omega arith)) (
    rw (← letter_high n (10 * digit_of x + digit_of y) 32 refl (omega arith) (omega arith)) refl))

-- after N or S, it is the rule's
zoned_child : (n : Bool) (b c d : ℕ) → zoned_read n b c d ≡ globe_child (letter n ∷ b ∷ c ∷ d ∷ [])
unfolding zoned_read lettered_read
zoned_child true b c d = refl
zoned_child false b c d = refl

-- a byte is the character of a digit exactly when its digit is that one
letter_is : (b v : ℕ) → v < 32 → b ≡ char_of v → digit_of b ≡ v
letter_is b v h e = ap digit_of e ∙ digit_char v h

letter_is_not : (b v : ℕ) → v < 32 → (b ≡ char_of v → ⊥) → digit_of b ≡ v → ⊥
letter_is_not b v h f e = f (sym (char_digit b (omega arith)) ∙ ap char_of e)

-- the product of a byte's distances from N and from S, taken around the 8 bits
pub stray_small : (n s : ℕ) → n < 256 → s < 256 → Fits w32 (n * s)
stray_small n s u v =
    let m : n * s ≤ 255 * 255 = mul-le-mul {n₂ = 255} {m₂ = 255} (omega arith) (omega arith) in
    omega arith

pub stray_is : (a n s : ℕ) → (n + 78) % 2 ^ 8 ≡ a → (s + 83) % 2 ^ 8 ≡ a → n < 256 → s < 256 → eqb (n * s) 0 ≡ north_or_south a
stray_is a n s e f u v = go (eqb n 0) refl (eqb s 0) refl
  where
    go : (p : Bool) → eqb n 0 ≡ p → (q : Bool) → eqb s 0 ≡ q → eqb (n * s) 0 ≡ north_or_south a
    go true p q r =
        let z : n ≡ 0 = eqb-true _ _ p in
        rw (z, zero-mul s, eq-eqb a 78 (omega arith)) refl
    go false p true r =
        let z : s ≡ 0 = eqb-true _ _ r in
        rw (z, mul-zero n, ne_eqb a 78 (λ x. omega arith), eq-eqb a 83 (omega arith)) refl
    go false p false r =
        let y : n ≡ 0 → ⊥ = eqb-false _ _ p in
        let z : s ≡ 0 → ⊥ = eqb-false _ _ r in
        let m : 0 < n * s = mul-pos (omega arith) (omega arith) in
        rw (ne_eqb (n * s) 0 (λ x. omega arith), ne_eqb a 78 (λ x. omega arith), ne_eqb a 83 (λ x. omega arith)) refl

module _ (spaced : Bool) (w : List ℕ) where
  abbrev a : ℕ
  a = get_or w 0 0

  pub starts_neither : north_or_south a ≡ false → bad 0 ≡ globe_child (first_digits spaced w)
  unfolding char_of
  starts_neither = go (eqb a 78) refl
    where
      go : (q : Bool) → eqb a 78 ≡ q → (q || eqb a 83) ≡ false → bad 0 ≡ globe_child (first_digits spaced w)
      go true q e = clash (cc)
      go false q e =
          rw (ne_eqb (digit_of a) 23 (letter_is_not _ 23 (omega arith) (eqb-false _ _ q)), ne_eqb (digit_of a) 28 (letter_is_not _ 28 (omega arith) (eqb-false _ _ e))) refl

  -- the letter is N or S
  starts_letter : north_or_south a ≡ true → digit_of a ≡ letter (eqb a 78)
  unfolding char_of
  starts_letter = go (eqb a 78) refl
    where
      go : (q : Bool) → eqb a 78 ≡ q → (q || eqb a 83) ≡ true → digit_of a ≡ letter q
      go true q e = letter_is _ 23 (omega arith) (eqb-true _ _ q)
      go false q e = letter_is _ 28 (omega arith) (eqb-true _ _ e)

  pub starts_zoned : {at b c d : ℕ} {r : Read Node} → at ≡ zone_place spaced → DigitBelow 10 (get_or w at 0) b → DigitBelow 10 (get_or w (at + 1) 0) c → DigitBelow 32 (get_or w (at + 2) 0) d
      → north_or_south a ≡ true → r ≡ zoned_read (eqb a 78) b c d → r ≡ globe_child (first_digits spaced w)
  starts_zoned {at} p x y z e q =
      let n : Bool = eqb a 78 in
      q ∙ zoned_told n x y z ∙ zoned_child n (digit_of (get_or w at 0)) (digit_of (get_or w (at + 1) 0)) (digit_of (get_or w (at + 2) 0)) ∙ rw (starts_letter e, p) refl

-- they are those of the plane code among the characters of a code
pub first_digits_law : (spaced : Bool) (level : ℕ) (w : List ℕ) → 1 ≤ level → level ≤ 10 → length w ≡ length_in spaced level → take 4 (map digit_of (plane_in spaced level w)) ≡ first_digits spaced w
unfolding plane_place
first_digits_law spaced level w low high long =
    let n = plane_long level w low high spaced long in
    let f : 4 ≤ (split_at (level - 1)).length = grows 0 (level - 1) (omega arith) (omega arith) in
    let at = plane_at level w low high spaced in
    four (plane_in spaced level w) (omega (arith, n, f))
    ∙ rw (at 0 (omega (arith, f)), at 1 (omega (arith, f)), at 2 (omega (arith, f)), at 3 (omega (arith, f))) (go spaced)
  where
    go : (q : Bool) → digit_of (get_or w (stands_at q 0) 0) ∷ digit_of (get_or w (stands_at q 1) 0) ∷ digit_of (get_or w (stands_at q 2) 0) ∷ digit_of (get_or w (stands_at q 3) 0) ∷ [] ≡ first_digits q w
    go true = refl
    go false = refl
