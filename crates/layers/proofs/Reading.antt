-- What reading each level makes of the layers read so far.
-- Assumes nothing.
use mathlib.Core.Path.{◌≡◌, refl, sym, ◌∙◌, ap, subst}
use mathlib.Core.Bool.{Bool, true, false}
use mathlib.Core.List.{List, [], ◌∷◌, map}
use Prim.Native.Nat.{ℕ, zero, suc, ◌+◌, ◌*◌, ◌/◌, ◌≤◌, ◌<◌}
use native.Mathlib.Omega.{arith}
use native.Mathlib.Nat.{mul-div_right}
use native.Mathlib.Numerals.{add-one}
use lib.Dec.{ltb, eqb}
use lib.ListN.{length, get_or, take, drop, length-take, length-map, drop_of_length-le, get_or-map}
use lib.Seq.{drop-cons, get_or-take, length-take-le}
use borrow.Author.Tests.{lt-ltb, le-ltb, le-leb, lt-leb}
use Rattle.grid.specs.Characters.{digit_of}
use Rattle.grid.specs.inner.Roads.{DigitBelow}
use Rattle.grid.specs.inner.Standing.{length_in, height_place, count_from}
use Rattle.std.specs.Prelude.{Result, Ok, Err, IfOk}
use Rattle.grid.specs.Tree.{Read, ok, bad, guard, shift, next, follow}
use Rattle.grid.specs.Layers.{product, Stack, part, all_child}
use Rattle.grid.proofs.Cut.{clash, cut_end}
use Rattle.grid.proofs.Laws.{shift_shift}
use Rattle.grid.proofs.Characters.{told}
use Rattle.grid.proofs.Standing.{given_at, given_length}
use Rattle.layers.specs.declared.Layers.{Layers}
use Rattle.layers.specs.Heights.{later_height, height_levels, height_read, layers_read}
use Rattle.layers.specs.inner.Steps.{Fair, thickness_at, standing, Readable, KnownLayers, child_at, height_rest, Upto}
use Rattle.layers.proofs.Radices.{ten, product_fits, first_radix, later_radix, thick_top, thick_step}

-- a level, and as many height characters as a code of it has
pub record Sized (level : ℕ) (w : List ℕ) : Type 0 where
  pub some_level : 1 ≤ level
  pub ten_levels : level ≤ 10
  pub exactly : length w ≡ 2 + level

module _ {level : ℕ} {code : List ℕ} (d : Readable level code) where
  abbrev at : ℕ → ℕ
  at p = get_or code (height_place p) 0

  -- what stands there
  pub stands : (i : ℕ) → i < 2 + level → get_or (standing level code) i 0 ≡ at i
  stands i h = get_or-take (2 + level) (map at (count_from 0 12)) i 0 h ∙ given_at at 12 i (omega (arith, d.ten_levels))

  -- the same, as the code reads it
  pub digit_stands : (rs : List ℕ) (k : ℕ) (m : Layers) → k < level → child_at rs k (get_or code (height_place (k + 2)) 0) m ≡ child_at rs k (get_or (standing level code) (k + 2) 0) m
  digit_stands rs k m h = ap (λ (b : ℕ). child_at rs k b m) (sym (stands (k + 2) (omega arith)))

  -- those that stand in a code are as many
  pub sized : Sized level (standing level code)
  sized = record { some_level = d.some_level; ten_levels = d.ten_levels; exactly = length-take-le (2 + level) (map at (count_from 0 12)) (omega (arith, given_length at 12, d.ten_levels)) }

  -- a digit read at its place
  pub digit_at : {p q v : ℕ} (i : ℕ) → i < 2 + level → p ≡ height_place i → DigitBelow q (get_or code p 0) v → DigitBelow q (get_or (standing level code) i 0) v
  digit_at {q = q} {v} i h e =
      subst (λ (x : ℕ). DigitBelow q x v)
      (ap (λ (p : ℕ). get_or code p 0) e ∙ sym (stands i h))

-- ---- level 1

module _ (rs : List ℕ) (s a b : ℕ) (e : Fair rs) where
  abbrev r : ℕ
  r = get_or rs 0 0

  abbrev read : Read Stack
  read = all_child (product rs) r (s ∷ a ∷ b ∷ [])

  first_end : 10 * a + b < r → (10 * a + b) * thickness_at rs 1 + thickness_at rs 1 ≤ product rs
  first_end l = cut_end (10 * a + b) r (thickness_at rs 1) (product rs) l (thick_step rs 0 e (omega arith) ∙ thick_top rs)

  first_part : product rs / r ≡ thickness_at rs 1
  first_part =
      ap (λ (n : ℕ). n / r) (sym (thick_step rs 0 e (omega arith) ∙ thick_top rs))
      ∙ mul-div_right (thickness_at rs 1) {m = r} (first_radix rs e).more

  module _ (t : ℕ) (i : t ≡ thickness_at rs 1) (m : 10 * a + b < r) where
    pub first_fits : (10 * a + b) * t + t ≤ 2147483648
    first_fits = let z = first_end m in rw i (omega (arith, product_fits rs e))

    pub first_read : s < 2 → 10 * a < r → b ≤ 9 → ok (part (eqb s 0) ((10 * a + b) * t) t) ≡ read
    first_read j k l = rw (i, lt-ltb s 2 j, lt-ltb (10 * a) r k, le-leb b 9 l, lt-ltb (10 * a + b) r m, first_part) refl

    pub first_known : KnownLayers rs 1 (record { lowest = record { rise = (10 * a + b) * t; above = eqb s 0 }; thickness = t })
    first_known = record { thick = i; inside = rw i (first_end m) }

-- the first three characters
three : (w : List ℕ) → 3 ≤ length w → take 3 (map digit_of w) ≡ digit_of (get_or w 0 0) ∷ digit_of (get_or w 1 0) ∷ digit_of (get_or w 2 0) ∷ []
three [] h = absurd (omega arith)
three (x ∷ []) h = absurd (omega arith)
three (x ∷ y ∷ []) h = absurd (omega arith)
three (x ∷ y ∷ z ∷ w) h = refl

-- what tells these digits below 10 leads to the same layers
as_told : (top r : ℕ) {x y z s a b : ℕ} → r ≤ 100 → DigitBelow 10 x s → DigitBelow 10 y a → DigitBelow 10 z b
    → all_child top r (s ∷ a ∷ b ∷ []) ≡ all_child top r (digit_of x ∷ digit_of y ∷ digit_of z ∷ [])
as_told top r {x} {y} {z} {s} {a} {b} h i j k =
    told i (λ m. all_child top r (m ∷ a ∷ b ∷ [])) (bad 0) (λ m n. rw (le-ltb m 2 (omega arith)) refl)
    ∙ told j (λ m. all_child top r (digit_of x ∷ m ∷ b ∷ [])) (guard 0 (ltb (digit_of x) 2) (bad 1)) (λ m n. rw (le-ltb (10 * m) r (omega arith)) refl)
    ∙ told k (λ m. all_child top r (digit_of x ∷ digit_of y ∷ m ∷ [])) (guard 0 (ltb (digit_of x) 2) (guard 1 (ltb (10 * digit_of y) r) (bad 2)))
    (λ m n. rw (lt-leb m 9 (omega arith)) refl)

-- as the code finds them
pub started : (rs : List ℕ) (code : List ℕ) {p q u s a b : ℕ} (h : Result Layers ℕ) → Fair rs → length_in true 1 ≤ length code
    → p ≡ height_place 0 → q ≡ height_place 1 → u ≡ height_place 2
    → DigitBelow 10 (get_or code p 0) s → DigitBelow 10 (get_or code q 0) a → DigitBelow 10 (get_or code u 0) b
    → layers_read h ≡ all_child (product rs) (get_or rs 0 0) (s ∷ a ∷ b ∷ []) → layers_read h ≡ all_child (product rs) (get_or rs 0 0) (map digit_of (standing 1 code))
started rs code h e l i j k x y z f =
    let d : Readable 1 code = record { some_level = omega arith; ten_levels = omega arith; room = l } in
    f ∙ as_told (product rs) (get_or rs 0 0) (first_radix rs e).few (digit_at d 0 (omega arith) i x) (digit_at d 1 (omega arith) j y) (digit_at d 2 (omega arith) k z)

-- ---- a later level

levels_ten : (rs : List ℕ) → Fair rs → length (height_levels rs) ≡ 10
levels_ten [] e = clash (let t = e.test in cc)
levels_ten (r ∷ rs) e = omega (arith, length-map rs later_height, ten (r ∷ rs) e)

level_at : (rs : List ℕ) (k : ℕ) → 1 ≤ k → Fair rs → get_or (height_levels rs) k (later_height 0) ≡ later_height (get_or rs k 0)
level_at rs zero l e = absurd (omega arith)
level_at [] (suc k) l e = clash (let t = e.test in cc)
level_at (r ∷ rs) (suc k) l e = get_or-map later_height rs k 0

-- what a digit leads to
module _ (rs : List ℕ) (k : ℕ) (e : Fair rs) (from : 1 ≤ k) (to : k < 10) (m : Layers) (u : KnownLayers rs k m) where
  cell : get_or rs k 0 * thickness_at rs (k + 1) ≡ m.thickness
  cell = thick_step rs k e to ∙ sym u.thick

  pub child : m.thickness / get_or rs k 0 ≡ thickness_at rs (k + 1)
  child = ap (λ (y : ℕ). y / get_or rs k 0) (sym cell) ∙ mul-div_right (thickness_at rs (k + 1)) {m = get_or rs k 0} (later_radix rs k e from to).more

  -- as the code finds it: the radix q, and x that tells the digit of b
  module _ (q : ℕ) (r : q ≡ get_or rs k 0) {b x : ℕ} (i : DigitBelow q b x) (l : x < q) where
    same : x ≡ digit_of b
    same = omega (arith, i.tells)

    thick : m.thickness / q ≡ thickness_at rs (k + 1)
    thick = ap (λ (y : ℕ). m.thickness / y) r ∙ child

    end : m.lowest.rise + x * (m.thickness / q) + m.thickness / q ≤ product rs
    end =
        let c = cut_end x q (m.thickness / q) m.thickness l (ap (λ (y : ℕ). q * y) thick ∙ ap (λ (y : ℕ). y * thickness_at rs (k + 1)) r ∙ cell) in
        omega (arith, u.inside)

    pub next_read : ok (part m.lowest.above (m.lowest.rise + x * (m.thickness / q)) (m.thickness / q)) ≡ child_at rs k b m
    next_read = rw (lt-ltb (digit_of b) (get_or rs k 0) (subst (λ (y : ℕ). y < get_or rs k 0) same (rw r at l)), ← same, thick) refl

    pub next_known : KnownLayers rs (k + 1) (record { lowest = record { rise = m.lowest.rise + x * (m.thickness / q); above = m.lowest.above }; thickness = m.thickness / q })
    next_known = record { thick = thick; inside = end }

module _ (rs : List ℕ) (level k : ℕ) (w : List ℕ) (e : Fair rs) (from : 1 ≤ k) (to : k < 10) (d : Sized level w) where
  -- the level's radix and digit
  abbrev radix : ℕ
  radix = get_or rs k 0

  abbrev v : ℕ
  v = digit_of (get_or w (k + 2) 0)

  -- what is left after k levels, where the code has level k + 1: its digit, and what is left after it
  rest_step : k < level → (a : Bool) (low n : ℕ)
      → height_rest rs level k w (part a low n) ≡ next 1 (guard 0 (ltb v radix) (ok (part a (low + v * (n / radix)) (n / radix)))) (height_rest rs level (k + 1) w)
  unfolding follow
  rest_step h a low n =
      let L = take level (height_levels rs) in
      let ln : length L ≡ level = length-take level (height_levels rs) ∙ omega (arith, levels_ten rs e, d.ten_levels) in
      let g : get_or L k (later_height 0) ≡ later_height radix = get_or-take level (height_levels rs) k (later_height 0) h ∙ level_at rs k from e in
      let c : drop k L ≡ later_height radix ∷ drop (suc k) L = drop-cons L k (later_height 0) (omega arith) ∙ ap (λ t. t ∷ drop (suc k) L) g in
      let ds = map digit_of w in
      let ld : length ds ≡ 2 + level = length-map w digit_of ∙ d.exactly in
      let f : drop (k + 2) ds ≡ get_or ds (k + 2) (digit_of 0) ∷ drop (suc (k + 2)) ds = drop-cons ds (k + 2) (digit_of 0) (omega arith) in
      let u : suc (k + 2) ≡ k + 1 + 2 = omega arith in
      rw (c, f, get_or-map digit_of w (k + 2) 0, u, add-one k) refl

  -- the code ends before level k + 1
  rest_ended : (j : ℕ) → level ≤ j → (n : Stack) → height_rest rs level j w n ≡ ok n
  unfolding follow
  rest_ended j m n =
      let L = take level (height_levels rs) in
      let ln : length L ≡ level = length-take level (height_levels rs) ∙ omega (arith, levels_ten rs e, d.ten_levels) in
      rw (drop_of_length-le L {i = j} (omega arith)) refl

  pub upto_ended : {m : Layers} → level ≤ k → Upto rs level k w (Ok m) → Upto rs level (k + 1) w (Ok m)
  upto_ended {m} l u =
      let n : Stack = part m.lowest.above m.lowest.rise m.thickness in
      record { whole = u.whole ∙ rw (rest_ended k l n, rest_ended (k + 1) (omega arith) n) refl; known = λ o. absurd (omega arith) }

  -- a digit's layers, or its place, as the whole has them
  shifted : (b : Bool) (x : Stack) (f : Stack → Read Stack) → shift (k + 2) (next 1 (guard 0 b (ok x)) f) ≡ next (k + 1 + 2) (guard (k + 2) b (ok x)) f
  shifted true x f = let s : k + 2 + 1 ≡ k + 1 + 2 = omega arith in shift_shift (k + 2) 1 (f x) ∙ ap (λ (y : ℕ). shift y (f x)) s
  shifted false x f = let z : k + 2 + 0 ≡ k + 2 = omega arith in ap bad z

  pub upto_next : {m : Layers} {h : Result Layers ℕ} → k < level → Upto rs level k w (Ok m) → layers_read h ≡ child_at rs k (get_or w (k + 2) 0) m → IfOk h (KnownLayers rs (k + 1))
      → Upto rs level (k + 1) w h
  upto_next {m} l u f g =
      let a = m.lowest.above in
      let z = child rs k e from to m (u.known (omega arith)) in
      record {
        whole = u.whole ∙ ap (shift (k + 2)) (rest_step l a m.lowest.rise m.thickness)
            ∙ shifted (ltb v radix) (part a (m.lowest.rise + v * (m.thickness / radix)) (m.thickness / radix)) (height_rest rs level (k + 1) w)
            ∙ rw (z, f) refl;
        known = λ o. g;
      }

-- a level 1 that was read begins it
pub upto_first : (rs : List ℕ) (level : ℕ) (code : List ℕ) {h : Result Layers ℕ} → Fair rs → Readable level code
    → layers_read h ≡ all_child (product rs) (get_or rs 0 0) (map digit_of (standing 1 code)) → IfOk h (KnownLayers rs 1) → Upto rs level 1 (standing level code) h
unfolding height_read follow
upto_first rs zero code e d f g = absurd (omega (arith, d.some_level))
upto_first [] (suc l) code e d f g = clash (let t = e.test in cc)
upto_first (r ∷ rs) (suc l) code {h} e d f g =
    let w = standing (suc l) code in
    let m : 3 ≤ length w = omega (arith, (sized d).exactly) in
    let c : take 3 (map digit_of w) ≡ map digit_of (standing 1 code) = rw (three w m, stands d 0 (omega arith), stands d 1 (omega arith), stands d 2 (omega arith)) refl in
    record {
      whole = ap (λ x. next 3 x (height_rest (r ∷ rs) (suc l) 1 w)) (rw c (sym f));
      known = λ o. g;
    }

-- all of the code is read
pub upto_all : (rs : List ℕ) (level : ℕ) (w : List ℕ) {m : Layers} → Fair rs → Sized level w → Upto rs level 10 w (Ok m) → layers_read (Ok m) ≡ height_read rs level (map digit_of w)
upto_all rs level w {m} e d u = sym (u.whole ∙ rw (rest_ended rs level 1 w e (omega arith) (omega arith) d 10 d.ten_levels (part m.lowest.above m.lowest.rise m.thickness)) refl)

-- or a character of it is not allowed
pub upto_bad : (rs : List ℕ) (level k : ℕ) (w : List ℕ) {p : ℕ} → Upto rs level k w (Err p) → layers_read (Err p) ≡ height_read rs level (map digit_of w)
upto_bad rs level k w u = sym u.whole
