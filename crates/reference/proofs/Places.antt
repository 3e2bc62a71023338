-- Where a reference code goes wrong: in its base as the plane code does, at the hyphen, at M or at N; and how long reference codes are.
-- Assumes nothing.
use mathlib.Core.Path.{◌≡◌, refl, sym, ◌∙◌, ap, subst}
use mathlib.Core.Bool.{Bool, true, false, ◌||◌}
use mathlib.Core.List.{List, [], ◌∷◌, ◌++◌, map}
use mathlib.Core.Logic.{◌⊎◌, inl, inr}
use Prim.Native.Nat.{ℕ, suc, ◌+◌, ◌-◌, ◌≤◌, ◌<◌}
use native.Mathlib.Nat.{add-zero}
use native.Mathlib.Omega.{arith}
use lib.Dec.{leb, eqb}
use lib.ListN.{length, take, get_or, length-append, get_or-append}
use lib.Seq.{length-take-le, take-append-le, take-append-add, take-take}
use borrow.Author.Tests.{leb-true, leb-false, eqb-true, eqb-false, eq-eqb, ne_eqb}
use Rattle.grid.specs.declared.Cell.{Cell}
use Rattle.grid.specs.Characters.{char_of, digit_of}
use Rattle.grid.specs.Answers.{accepted, refused, wrong_length, wrong_character, wrong_at}
use Rattle.grid.specs.Places.{among, Accepted, FirstBad}
use Rattle.grid.specs.Splits.{plane_lengths}
use Rattle.grid.specs.Plane.{cell_of}
use Rattle.grid.proofs.Cut.{clash}
use Rattle.grid.proofs.Characters.{digit_char}
use Rattle.grid.proofs.Places.{agree_at}
use Rattle.grid.proofs.Refusing.{Answered, as_cell, as_six, as_wrong}
use Rattle.grid.proofs.Theorems.{plane_places}
use Rattle.reference.specs.Offsets.{offset_digit}
use Rattle.reference.specs.Text.{reference_code, offset_in, aim_of, reference_lengths}
use Rattle.reference.specs.Meaning.{Formed}
use Rattle.reference.proofs.Numbers.{digit_fits}
use Rattle.reference.proofs.Lines.{reference_length}
use Rattle.reference.proofs.Spelling.{behind, get_d_behind, base_length, read_behind, three_behind, formed, formed_start, parts, read_formed, formed_of}

-- ---- lengths

eqb_three : (n x : ℕ) → eqb 0 x ≡ false → eqb n (x + 3) ≡ eqb (n - 3) x
eqb_three n x z = go (eqb (n - 3) x) refl
  where
    go : (q : Bool) → eqb (n - 3) x ≡ q → eqb n (x + 3) ≡ q
    go true e =
        let a : n - 3 ≡ x = eqb-true (n - 3) x e in
        let b : 0 ≡ x → ⊥ = eqb-false 0 x z in
        eq-eqb n (x + 3) (omega arith)
    go false e =
        let a : n - 3 ≡ x → ⊥ = eqb-false (n - 3) x e in
        ne_eqb n (x + 3) (λ b. a (omega arith))

or_false : (a b : Bool) → (a || b) ≡ false → (a ≡ false) × (b ≡ false)
or_false true b e = clash (cc)
or_false false b e = (refl, e)

-- one of the lengths less three, where 0 is none of them
among_three : (n : ℕ) (xs : List ℕ) → among 0 xs ≡ false → among n (map (λ k. k + 3) xs) ≡ among (n - 3) xs
among_three n [] z = refl
among_three n (x ∷ xs) z =
    let o = or_false (eqb 0 x) (among 0 xs) z in
    rw (eqb_three n x o.0, among_three n xs o.1) refl

pub less_three : (n : ℕ) → among n reference_lengths ≡ among (n - 3) plane_lengths
less_three n = among_three n plane_lengths refl

-- a length that is three more than a plane code's
long_by : (n : ℕ) → among (n - 3) plane_lengths ≡ true → n - 3 + 3 ≡ n
long_by n e = go (leb 3 n) refl
  where
    go : (q : Bool) → leb 3 n ≡ q → n - 3 + 3 ≡ n
    go true p = let h : 3 ≤ n = leb-true 3 n p in omega arith
    go false p =
        let h : n < 3 = leb-false 3 n p in
        let z : n - 3 ≡ 0 = omega arith in
        let none : among 0 plane_lengths ≡ false = refl in
        let some : among 0 plane_lengths ≡ true = subst (λ (k : ℕ). among k plane_lengths ≡ true) z e in
        clash (cc)

behind_length : (w : List ℕ) (h m n : ℕ) → length (behind w h m n) ≡ length w + 3
behind_length w h m n = length-append w (h ∷ m ∷ n ∷ [])

-- any plane code has a reference code
from_base : (w : List ℕ) → Accepted cell_of w → Accepted aim_of (reference_code w 0 0)
from_base w a = let f = formed w a.0 0 0 a.1 refl refl in (parts f, read_formed _ f)

-- ---- the first bad place

module _ (a : List ℕ) (h m n : ℕ) where
  abbrev w : List ℕ
  w = behind a h m n

  -- the base of a code as long as this
  module _ (u : List ℕ) (l : length u ≡ length w) (f : Formed u) where
    other_base : take (length a) u ≡ f.base
    other_base = ap (λ (k : ℕ). take k u) (sym (ap (λ (k : ℕ). k - 3) l ∙ base_length a h m n)) ∙ formed_start u f

    other_length : length f.base ≡ length a
    other_length =
        sym (base_length f.base 45 (char_of f.m) (char_of f.n)) ∙ ap (λ (x : List ℕ). length x - 3) f.form ∙ ap (λ (k : ℕ). k - 3) l ∙ base_length a h m n

  -- in the base
  base_bad : (p : ℕ) → FirstBad cell_of a p → FirstBad aim_of w p
  base_bad p b =
      let i : p < length a = b.inside in
      let lw : length w ≡ length a + 3 = behind_length a h m n in
      let v = b.before in
      let lv : length v.0 ≡ length a = v.1 in
      record {
        inside = omega arith;
        before = (
          reference_code v.0 0 0,
          reference_length v.0 0 0 ∙ ap (λ (k : ℕ). k + 3) lv ∙ sym lw,
          from_base v.0 v.2,
          take-append-le p v.0 _ (omega arith) ∙ v.3 ∙ sym (take-append-le p a _ (omega arith)),
        );
        no_further = λ u l c e. (
            let f = (formed_of u c.0 c.1).0 in
            b.no_further f.base (other_length u l f) (f.from, f.read_base)
            (ap (take (suc p)) (sym (other_base u l f)) ∙ take-take (suc p) (length a) u i ∙ e ∙ take-append-le (suc p) a _ i));
      }

  -- behind it: another character there would do, and this one does in no code
  behind_bad : (i : ℕ) → i < 3 → (x y z : ℕ) → Accepted aim_of (behind a x y z) → take i (x ∷ y ∷ z ∷ []) ≡ take i (h ∷ m ∷ n ∷ [])
      → ((r s : ℕ) → offset_digit r ≡ true → offset_digit s ≡ true → get_or (45 ∷ char_of r ∷ char_of s ∷ []) i 0 ≡ get_or (h ∷ m ∷ n ∷ []) i 0 → ⊥)
      → FirstBad aim_of w (length a + i)
  behind_bad i few x y z ok same none =
      let lw : length w ≡ length a + 3 = behind_length a h m n in
      record {
        inside = omega arith;
        before = (
          behind a x y z,
          behind_length a x y z ∙ sym lw,
          ok,
          take-append-add a _ i ∙ ap (λ (t : List ℕ). a ++ t) same ∙ sym (take-append-add a _ i),
        );
        no_further = λ u l c e. (
            let f = (formed_of u c.0 c.1).0 in
            none f.m f.n f.east f.north
            (sym (get_d_behind f.base 45 (char_of f.m) (char_of f.n) i)
            ∙ ap (λ (t : List ℕ). get_or t (length f.base + i) 0) f.form
            ∙ ap (λ (k : ℕ). get_or u (k + i) 0) (other_length u l f)
            ∙ agree_at (suc (length a + i)) u w e (length a + i) (omega arith)
            ∙ get_d_behind a h m n i));
      }

  -- ---- the answer

  module _ (b : Cell) (e : cell_of a ≡ accepted b) (long : among (length w) reference_lengths ≡ true) where
    reads : (x y z : ℕ) → eqb x 45 ≡ true → offset_digit (digit_of y) ≡ true → offset_digit (digit_of z) ≡ true → Accepted aim_of (behind a x y z)
    unfolding offset_in
    reads x y z p q r = (record { from = b; m = digit_of y; n = digit_of z }, read_behind a x y z ∙ rw (e, p, q, r) refl)

    zero_digit : offset_digit (digit_of 48) ≡ true
    unfolding digit_of
    zero_digit = refl

    -- an offset's character is the one of its digit
    no_digit : (r c : ℕ) → offset_digit r ≡ true → char_of r ≡ c → offset_digit (digit_of c) ≡ true
    no_digit r c h q = let l : r ≤ 16 = digit_fits r h in subst (λ (v : ℕ). offset_digit v ≡ true) (sym (digit_char r (omega arith)) ∙ ap digit_of q) h

    -- a refusal behind the base is the one of the character there
    wrong_behind : (i : ℕ) → aim_of w ≡ refused (wrong_character (length a + i) (get_or (h ∷ m ∷ n ∷ []) i 0)) → FirstBad aim_of w (length a + i) → Answered aim_of reference_lengths w
    wrong_behind i r b = as_wrong (length a + i) long (r ∙ ap (λ (c : ℕ). refused (wrong_character (length a + i) c)) (sym (get_d_behind a h m n i))) b

    behind_answered : Answered aim_of reference_lengths w
    unfolding offset_in
    behind_answered = go (eqb h 45) refl (offset_digit (digit_of m)) refl (offset_digit (digit_of n)) refl
      where
        go : (p : Bool) → eqb h 45 ≡ p → (q : Bool) → offset_digit (digit_of m) ≡ q → (r : Bool) → offset_digit (digit_of n) ≡ r → Answered aim_of reference_lengths w
        go false p q x r y =
            wrong_behind 0 (read_behind a h m n ∙ rw (e, p, add-zero (length a)) refl)
            (behind_bad 0 (omega arith) 45 48 48 (reads 45 48 48 refl zero_digit zero_digit) refl (λ i j _ _ t. eqb-false h 45 p (sym t)))
        go true p false x r y =
            wrong_behind 1 (read_behind a h m n ∙ rw (e, p, x) refl)
            (behind_bad 1 (omega arith) h 48 48 (reads h 48 48 p zero_digit zero_digit) refl (λ i j k _ t. (let z = no_digit i m k t in clash (cc))))
        go true p true x false y =
            wrong_behind 2 (read_behind a h m n ∙ rw (e, p, x, y) refl)
            (behind_bad 2 (omega arith) h m 48 (reads h m 48 p x zero_digit) refl (λ i j _ k t. (let z = no_digit j n k t in clash (cc))))
        go true p true x true y = as_cell long (reads h m n p x y)

-- a code as long as a reference code
long_answered : (a : List ℕ) (h m n : ℕ) → among (length a) plane_lengths ≡ true → Answered aim_of reference_lengths (behind a h m n)
long_answered a h m n t = go (plane_places.accepted_six_or_wrong a)
  where
    long : among (length (behind a h m n)) reference_lengths ≡ true
    long = less_three (length (behind a h m n)) ∙ ap (λ (k : ℕ). among k plane_lengths) (base_length a h m n) ∙ t

    go : Accepted cell_of a ⊎ ((cell_of a ≡ refused wrong_length) ⊎ ((p : ℕ) × (cell_of a ≡ refused (wrong_at a p)))) → Answered aim_of reference_lengths (behind a h m n)
    go (inl c) = behind_answered a h m n c.0 c.1 long
    go (inr (inl e)) = let z = (plane_places.six_exactly_when a).0 e in clash (cc)
    go (inr (inr (p, e))) =
        let b = (plane_places.wrong_exactly_when a p).0 e in
        as_wrong p long (read_behind a h m n ∙ rw (e, get_or-append a (h ∷ m ∷ n ∷ []) 0 p b.inside) refl) (base_bad a h m n p b)

-- any code
pub answered : (w : List ℕ) → Answered aim_of reference_lengths w
answered w = go (among k plane_lengths) refl
  where
    k : ℕ
    k = length w - 3

    base_is : length (take k w) ≡ k
    base_is = length-take-le k w (omega arith)

    go : (q : Bool) → among k plane_lengths ≡ q → Answered aim_of reference_lengths w
    go true e =
        subst (Answered aim_of reference_lengths) (three_behind w k (long_by (length w) e))
        (long_answered (take k w) (get_or w k 0) (get_or w (k + 1) 0) (get_or w (k + 2) 0) (ap (λ (i : ℕ). among i plane_lengths) base_is ∙ e))
    go false e =
        let s = (plane_places.six_exactly_when (take k w)).1 (ap (λ (i : ℕ). among i plane_lengths) base_is ∙ e) in
        as_six (less_three (length w) ∙ e) (rw s refl)

-- a reference code of each length
pub some_code : (n : ℕ) → among n reference_lengths ≡ true → (w : List ℕ) × (length w ≡ n) × Accepted aim_of w
some_code n e =
    let d = sym (less_three n) ∙ e in
    let v = (plane_places.lengths_exactly (n - 3)).0 d in
    (reference_code v.0 0 0, reference_length v.0 0 0 ∙ ap (λ (k : ℕ). k + 3) v.1 ∙ long_by n d, from_base v.0 v.2)
