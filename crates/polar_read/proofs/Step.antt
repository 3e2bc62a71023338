-- Where one level's characters lead from a cursor's cell, in the terms of the code that reads them.
-- Assumes nothing.
use mathlib.Core.Path.{◌≡◌, refl, sym, ◌∙◌, ap}
use mathlib.Core.Bool.{Bool, true, false, cond}
use mathlib.Core.List.{List, [], ◌∷◌}
use Prim.Native.Nat.{ℕ, zero, suc, ◌+◌, ◌-◌, ◌*◌, ◌/◌, ◌%◌, ◌≤◌, ◌<◌, min}
use native.Mathlib.Nat.{add-zero}
use native.Mathlib.Omega.{arith}
use lib.Dec.{ltb, leb}
use lib.ListN.{length, get_or}
use borrow.Author.Tests.{le-leb, leb-true, le-ltb, lt-ltb, ltb-true, ltb-false, ne_eqb}
use Rattle.grid.specs.declared.Split.{Split}
use Rattle.grid.specs.Characters.{digit_of}
use Rattle.grid.specs.Tree.{Read, ok, bad, guard, shift}
use Rattle.grid.specs.Splits.{split_at}
use Rattle.grid.specs.Units.{TURN}
use Rattle.grid.specs.Plane.{Frame, Box, Node, cell, cap, cap_part, polar_part, sub, ring_node, read_as, form_of, child_of, near_pole}
use Rattle.grid.specs.inner.Roads.{DigitBelow}
use Rattle.grid.specs.inner.Standing.{level_place}
use Rattle.grid.proofs.Cut.{all_below, below}
use Rattle.grid.proofs.Lists.{map_one, map_two}
use Rattle.polar_read.specs.declared.Cursor.{Cursor}
use Rattle.polar_read.specs.inner.Reading.{node_of, frame_of, polar_box, columns_of, divided, polar_child, settled_of, PolarDigits, led, polar_level_on}

-- ---- the grid's division, seen from the cursor

near : (c : Cursor) → near_pole (frame_of c) ≡ true
near c = go c.disc refl
  where
    go : (b : Bool) → c.disc ≡ b → near_pole (frame_of c) ≡ true
    go true p = rw p refl
    go false p = rw p refl

child_by : (b n : Bool) (f : Frame) (x : Box) (s : Split) (d : List ℕ) → near_pole f ≡ true
    → child_of s (cond b (cap n x.h) (cell f x)) d
    ≡ read_as (form_of s.characters (cond b s.ring s.columns)) b
    (record { columns = cond b s.ring s.columns; rows = s.inward; width = cond b (TURN / s.ring) (x.w / s.columns); height = x.h / s.inward; form = form_of s.characters (cond b s.ring s.columns) })
    (λ i j. cond b (ring_node n (cap_part s x.h) x.h i j) (cell f (sub (polar_part s x.w x.h) x i j))) d
child_by true n f x s d e = refl
child_by false n f x s d e = rw e refl

child_as : (c : Cursor) (s : Split) (d : List ℕ) → child_of s (node_of c) d ≡ read_as (form_of s.characters (columns_of c s)) c.cap (divided c s) (polar_child c s) d
child_as c s d = child_by c.cap c.north (frame_of c) (polar_box c) s d (near c)

shift_guard : {A : Type 0} (at p : ℕ) (b : Bool) (r : Read A) → shift at (guard p b r) ≡ guard (at + p) b (shift at r)
shift_guard at p true r = refl
shift_guard at p false r = refl

-- ---- digits as far as a test can tell

-- no child: the column is too large, or else the row
settled_none : (c : Cursor) (s : Split) (i j at : ℕ) → (i < columns_of c s → s.inward ≤ j) → settled_of c s i j at ≡ bad at
settled_none c s i j at h = go (ltb i (columns_of c s)) refl
  where
    go : (q : Bool) → ltb i (columns_of c s) ≡ q → settled_of c s i j at ≡ bad at
    go true q = rw (q, le-ltb j s.inward (h (ltb-true _ _ q))) refl
    go false q = rw q refl

-- column f and row g of what tells a digit below m serve as those of the digit, where from m on there is no child
settled_told : {m b r : ℕ} (c : Cursor) (s : Split) (at : ℕ) (f g : ℕ → ℕ) → DigitBelow m b r → ((v : ℕ) → m ≤ v → f v < columns_of c s → s.inward ≤ g v)
    → settled_of c s (f r) (g r) at ≡ settled_of c s (f (digit_of b)) (g (digit_of b)) at
settled_told {m} {b} {r} c s at f g e h = go (ltb r m) refl
  where
    go : (q : Bool) → ltb r m ≡ q → settled_of c s (f r) (g r) at ≡ settled_of c s (f (digit_of b)) (g (digit_of b)) at
    go true q =
        let l : r < m = ltb-true _ _ q in
        let t : r ≡ digit_of b = omega (arith, e.tells) in
        ap (λ (x : ℕ). settled_of c s (f x) (g x) at) t
    go false q =
        let l : m ≤ r = ltb-false _ _ q in
        let k : m ≤ digit_of b = omega (arith, e.tells) in
        settled_none c s (f r) (g r) at (h r l) ∙ sym (settled_none c s (f (digit_of b)) (g (digit_of b)) at (h (digit_of b) k))

-- the columns are no more than the level's characters can name
pub columns_most : (c : Cursor) (s : Split) {columns : ℕ} → columns ≡ columns_of c s → PolarDigits s → columns ≤ 10 * s.characters - 5
columns_most c s e d = rw e (go c.cap refl)
  where
    go : (b : Bool) → c.cap ≡ b → columns_of c s ≤ 10 * s.characters - 5
    go true p = rw p d.ring
    go false p = rw p d.columns

-- ---- two characters: the first is no column; or both are read

module _ (c : Cursor) {s : Split} (d : PolarDigits s) {columns : ℕ} (e : columns ≡ columns_of c s) (at : ℕ) (w : List ℕ) (long : at + s.characters ≤ length w) where
  module _ (two : s.characters ≡ 2) where
    step_two : led s at w (ok (node_of c))
        ≡ guard (s.length - 2) (ltb (digit_of (get_or w at 0)) columns) (settled_of c s (digit_of (get_or w at 0)) (digit_of (get_or w (at + 1) 0)) (s.length - 1))
    step_two =
        let l : 2 ≤ s.length = omega (arith, d.placed, two) in
        let i : s.length - 2 ≡ s.length - 2 + 0 = omega arith in
        let j : s.length - 1 ≡ s.length - 2 + 1 = omega arith in
        rw (child_as, two, map_two digit_of w at (omega (arith, long, two)), ← e, shift_guard, shift_guard, ← i, ← j) refl

    pub two_no : {a : ℕ} → DigitBelow columns (get_or w at 0) a → columns ≤ a → bad (s.length - 2) ≡ led s at w (ok (node_of c))
    two_no {a} ea l = rw (step_two, le-ltb (digit_of (get_or w at 0)) columns (omega (arith, ea.tells))) refl

    pub two_on : {a b : ℕ} → DigitBelow columns (get_or w at 0) a → DigitBelow s.inward (get_or w (at + 1) 0) b → a < columns
        → settled_of c s a b (s.length - 1) ≡ led s at w (ok (node_of c))
    two_on {a} ea eb l =
        let f : a ≡ digit_of (get_or w at 0) = omega (arith, ea.tells) in
        settled_told c s (s.length - 1) (λ v. a) (λ v. v) eb (λ v i j. i) ∙ rw (step_two, ← f, lt-ltb a columns l) refl

  -- ---- one character, in two columns or in more

  module _ (not_two : s.characters ≡ 2 → ⊥) {a : ℕ} (ea : DigitBelow 10 (get_or w at 0) a) where
    one : s.characters ≡ 1
    one = omega (arith, d.some, d.most)

    step_one : led s at w (ok (node_of c)) ≡ shift (s.length - 1) (read_as (form_of 1 columns) c.cap (divided c s) (polar_child c s) (digit_of (get_or w at 0) ∷ []))
    step_one = rw (child_as, one, map_one digit_of w at (omega (arith, long, one)), ← e) refl

    pub one_quad : columns ≡ 2 → settled_of c s (a % 2) (a / 2) (s.length - 1) ≡ led s at w (ok (node_of c))
    one_quad q =
        settled_told c s (s.length - 1) (λ v. v % 2) (λ v. v / 2) ea (λ v i j. omega (arith, d.inward, one))
        ∙ rw (step_one, q, shift_guard, add-zero) refl

    pub one_trio : {i j : ℕ} → (columns ≡ 2 → ⊥) → a - 1 ≡ i → min a 1 ≡ j → settled_of c s i j (s.length - 1) ≡ led s at w (ok (node_of c))
    one_trio {i} {j} n ei ej =
        let u : settled_of c s i j (s.length - 1) ≡ settled_of c s (a - 1) (min a 1) (s.length - 1) = rw (ei, ej) refl in
        u ∙ settled_told c s (s.length - 1) (λ v. v - 1) (λ v. min v 1) ea (λ v x y. absurd (omega (arith, columns_most c s refl d, one)))
        ∙ rw (step_one, ne_eqb columns 2 n, shift_guard, add-zero) refl

-- ---- the level s is level k + 1

digits_at : (k : ℕ) → 1 ≤ k → k < 10 → PolarDigits (split_at k)
digits_at zero a b = absurd (omega arith)
digits_at (suc k) a b =
    record {
      columns = leb-true _ _ (each (λ s. leb s.columns (10 * s.characters - 5)) refl);
      ring = leb-true _ _ (each (λ s. leb s.ring (10 * s.characters - 5)) refl);
      inward = leb-true _ _ (each (λ s. leb s.inward (10 * s.characters - 5)) refl);
      some = leb-true _ _ (each (λ s. leb 1 s.characters) refl);
      most = leb-true _ _ (each (λ s. leb s.characters 2) refl);
      placed = leb-true _ _ (each (λ s. leb s.characters s.length) refl);
      near = leb-true _ _ (each (λ s. leb s.length 20) refl);
    }
  where
    each : (f : Split → Bool) → all_below (λ i. f (split_at (suc i))) 9 ≡ true → f (split_at (suc k)) ≡ true
    each f e = below (λ i. f (split_at (suc i))) 9 k e (omega arith)

module _ (k : ℕ) {s : Split} (e : s ≡ split_at k) where
  pub digits_of : 1 ≤ k → k < 10 → PolarDigits s
  digits_of a b = rw e (digits_at k a b)

  pub on_level : (spaced : Bool) (w : List ℕ) {at : ℕ} (c : Cursor) {q : Read Node} → at ≡ level_place spaced k s → at + s.characters ≤ length w → q ≡ led s at w (ok (node_of c))
      → q ≡ polar_level_on spaced w k (ok (node_of c))
  on_level spaced w {at} c {q} f l t =
      let n : level_place spaced k (split_at k) + (split_at k).characters ≤ length w = rw (← e, ← f) l in
      let u : q ≡ led (split_at k) (level_place spaced k (split_at k)) w (ok (node_of c)) = rw (← e, ← f) t in
      rw (le-leb _ _ n) u
