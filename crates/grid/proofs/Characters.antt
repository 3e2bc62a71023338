-- Characters and digits: where a byte's digit is found, and that the two ways undo each other.
-- Assumes nothing.
use Rattle.std.proofs.Common.{◌≡◌, ℕ, ◌+◌, ◌-◌, ◌%◌, ◌^◌, ◌<◌, ◌≤◌, min, Bool, true, false, cond, ◌&&◌, eqb, ltb, leb, List, [], ◌∷◌, map, sym, refl, ap, ◌∙◌, arith, ltb-false, ltb-true, le-ltb, lt-ltb, eqb-true, le-leb, leb-true}
use borrow.Author.Tests.{lt-leb}
use Rattle.grid.specs.Characters.{char_of, digit_of}
use Rattle.grid.specs.inner.Roads.{DigitBelow}
use Rattle.grid.specs.Tree.{Read, bad, guard}
use Rattle.grid.proofs.Cut.{and_true, below, Below}

-- ---- where a byte's digit is found

module _ (b : ℕ) where
  digit_below_law : b < 48 → 32 ≡ digit_of b
  unfolding digit_of
  digit_below_law h = rw (lt-leb 48 b h, lt-leb 65 b (omega arith)) refl

  digit_decimal : 48 ≤ b → b < 58 → b - 48 ≡ digit_of b
  unfolding digit_of
  digit_decimal h k = rw (le-leb 48 b h, le-leb b 57 (omega arith)) refl

  digit_between : 58 ≤ b → b < 65 → 32 ≡ digit_of b
  unfolding digit_of
  digit_between h k = rw (le-leb 48 b (omega arith), lt-leb b 57 (omega arith), lt-leb 65 b k) refl

  digit_letter : 65 ≤ b → b < 87 → b - 55 ≡ digit_of b
  unfolding digit_of
  digit_letter h k = rw (le-leb 48 b (omega arith), lt-leb b 57 (omega arith), le-leb 65 b h, le-leb b 86 (omega arith)) refl

  digit_above : 87 ≤ b → 32 ≡ digit_of b
  unfolding digit_of
  digit_above h = rw (le-leb 48 b (omega arith), lt-leb b 57 (omega arith), le-leb 65 b (omega arith), lt-leb b 86 (omega arith)) refl

-- by its distances from '0' and from 'A', taken around the 32 bits
module _ (b d : ℕ) (e : (d + 48) % 2 ^ 32 ≡ b) where
  pub near_zero : d < 10 → d ≡ digit_of b
  near_zero h =
      let f : d ≡ b - 48 = omega arith in
      f ∙ digit_decimal b (omega arith) (omega arith)

  module _ (l : ℕ) (f : (l + 65) % 2 ^ 32 ≡ b) (h : 10 ≤ d) where
    pub near_a : l < 22 → l + 10 ≡ digit_of b
    near_a k =
        let g : l + 10 ≡ b - 55 = omega arith in
        g ∙ digit_letter b (omega arith) (omega arith)

    pub near_neither : 22 ≤ l → d < 2 ^ 32 → l < 2 ^ 32 → b < 256 → 32 ≡ digit_of b
    near_neither k u v w = go (ltb b 48) refl (ltb b 65) refl
      where
        go : (p : Bool) → ltb b 48 ≡ p → (q : Bool) → ltb b 65 ≡ q → 32 ≡ digit_of b
        go true p q r = digit_below_law b (ltb-true b 48 p)
        go false p true r =
            let x : 48 ≤ b = ltb-false b 48 p in
            digit_between b (omega arith) (ltb-true b 65 r)
        go false p false r =
            let x : 65 ≤ b = ltb-false b 65 r in
            digit_above b (omega arith)

-- ---- the two ways undo each other

pub digit_char : (v : ℕ) → v < 32 → digit_of (char_of v) ≡ v
unfolding digit_of char_of
digit_char v h = eqb-true _ v (below (λ v. eqb (digit_of (char_of v)) v) 32 v refl h)

pub char_digit : (b : ℕ) → digit_of b < 32 → char_of (digit_of b) ≡ b
unfolding digit_of char_of
char_digit b = go (leb 48 b && leb b 57) refl
  where
    letters : (q : Bool) → (leb 65 b && leb b 86) ≡ q → cond q (b - 55) 32 < 32 → char_of (cond q (b - 55) 32) ≡ b
    letters true e h =
        let l : 65 ≤ b = leb-true 65 b (and_true (leb 65 b) (leb b 86) e).0 in
        rw (le-ltb (b - 55) 10 (omega arith)) (omega arith)
    letters false e h = absurd (omega arith)

    go : (q : Bool) → (leb 48 b && leb b 57) ≡ q → cond q (b - 48) (cond (leb 65 b && leb b 86) (b - 55) 32) < 32
        → char_of (cond q (b - 48) (cond (leb 65 b && leb b 86) (b - 55) 32)) ≡ b
    go true e h =
        let a = and_true (leb 48 b) (leb b 57) e in
        let l : 48 ≤ b = leb-true 48 b a.0 in
        let m : b ≤ 57 = leb-true b 57 a.1 in
        rw (lt-ltb (b - 48) 10 (omega arith)) (omega arith)
    go false e h = letters (leb 65 b && leb b 86) refl h

pub digits_chars : (d : List ℕ) → Below 32 d → map digit_of (map char_of d) ≡ d
digits_chars [] h = refl
digits_chars (x ∷ d) h = rw (digit_char x h.0, digits_chars d h.1) refl

pub chars_digits : (w : List ℕ) → Below 32 (map digit_of w) → map char_of (map digit_of w) ≡ w
chars_digits [] h = refl
chars_digits (x ∷ w) h = rw (char_digit x h.0, chars_digits w h.1) refl

-- ---- what tells a byte's digit below n

pub char_decimal : (v : ℕ) → v < 10 → 48 + v ≡ char_of v
unfolding char_of
char_decimal v h = rw (lt-ltb v 10 h) refl

-- its distance from '0', taken around the 32 bits, below 10
module _ (b d : ℕ) (e : (d + 48) % 2 ^ 32 ≡ b) where
  far_zero : 10 ≤ d → d < 2 ^ 32 → 10 ≤ digit_of b
  far_zero h k = go (ltb (digit_of b) 10) refl
    where
      go : (q : Bool) → ltb (digit_of b) 10 ≡ q → 10 ≤ digit_of b
      go true q =
          let l : digit_of b < 10 = ltb-true _ _ q in
          let c : 48 + digit_of b ≡ b = char_decimal (digit_of b) l ∙ char_digit b (omega arith) in
          absurd (omega arith)
      go false q = ltb-false _ _ q

  pub below_ten : d < 2 ^ 32 → DigitBelow 10 b d
  below_ten k = go (ltb d 10) refl
    where
      go : (q : Bool) → ltb d 10 ≡ q → DigitBelow 10 b d
      go true q = record { tells = ap (λ x. min x 10) (near_zero b d e (ltb-true _ _ q)) }
      go false q =
          let h : 10 ≤ d = ltb-false _ _ q in
          let f : 10 ≤ digit_of b = far_zero h k in
          record { tells = omega arith }

  -- below 32, and from 10 on its distance from 'A' and 10, taken around the 8 bits
  pub below_near : d < 10 → DigitBelow 32 b d
  below_near h = record { tells = ap (λ x. min x 32) (near_zero b d e h) }

  pub below_far : 10 ≤ d → d < 2 ^ 32 → b < 256 → (l : ℕ) → (l + 65) % 2 ^ 8 ≡ b → l < 256 → DigitBelow 32 b (l + 10)
  below_far h k w l f v = go (ltb l 22) refl
    where
      go : (q : Bool) → ltb l 22 ≡ q → DigitBelow 32 b (l + 10)
      go true q =
          let m : l < 22 = ltb-true _ _ q in
          record { tells = ap (λ x. min x 32) (near_a b d e l (omega arith) h m) }
      go false q =
          let m : 22 ≤ l = ltb-false _ _ q in
          let n : 32 ≡ digit_of b = near_neither b d e ((b + 4294967231) % 2 ^ 32) (omega arith) h (omega arith) k (omega arith) w in
          record { tells = omega arith }

-- where all the numbers from n on come to one value, it serves as the digit does
pub told : {A : Type 0} {n b r : ℕ} → DigitBelow n b r → (f : ℕ → A) (v : A) → ((m : ℕ) → n ≤ m → f m ≡ v) → f r ≡ f (digit_of b)
told {A} {n} {b} {r} e f v h = go (ltb r n) refl
  where
    go : (q : Bool) → ltb r n ≡ q → f r ≡ f (digit_of b)
    go true q =
        let l : r < n = ltb-true _ _ q in
        ap f (omega (arith, e.tells))
    go false q =
        let l : n ≤ r = ltb-false _ _ q in
        h r l ∙ sym (h (digit_of b) (omega (arith, e.tells)))

-- as in a test against a limit of at most n
pub guard_below : {A : Type 0} {n b r : ℕ} → DigitBelow n b r → (p limit : ℕ) (f : ℕ → Read A) → limit ≤ n
    → guard p (ltb r limit) (f r) ≡ guard p (ltb (digit_of b) limit) (f (digit_of b))
guard_below {n = n} e p limit f h = told e (λ x. guard p (ltb x limit) (f x)) (bad p) (λ m k. rw (le-ltb m limit (omega arith)) refl)
