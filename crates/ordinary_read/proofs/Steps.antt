-- The laws of a cursor's methods: the child in a column and a row, and one level's characters read.
-- Assumes nothing.
use mathlib.Core.Path.{◌≡◌, refl, sym, ◌∙◌, ap, subst}
use mathlib.Core.Bool.{Bool, true, false, ◌&&◌}
use mathlib.Core.List.{List, [], ◌∷◌}
use Prim.Native.Nat.{ℕ, ◌+◌, ◌-◌, ◌*◌, ◌/◌, ◌%◌, ◌≤◌}
use native.Mathlib.Omega.{arith}
use lib.Dec.{ltb}
use lib.ListN.{length, get_or}
use lib.Bits.{bit_or, and_le_l, and_le_r, or_lt, or_add_and}
use borrow.Author.Tests.{lt-ltb, le-ltb, le-leb, ltb-true, ltb-false}
use Rattle.std.specs.Prelude.{Result}
use Rattle.grid.specs.declared.Split.{Split}
use Rattle.grid.specs.Units.{HALF, POLAR}
use Rattle.grid.specs.Characters.{digit_of}
use Rattle.grid.specs.inner.Roads.{DigitBelow, place_of}
use Rattle.grid.specs.Tree.{Read, ok, bad, guard, shift}
use Rattle.grid.specs.Plane.{Node, cell, ordinary, Form, pair, quad, form_of, plain_part, sub, read_as}
use Rattle.grid.proofs.Cut.{clash, cut_end, and_true}
use Rattle.grid.proofs.Characters.{told, guard_below}
use Rattle.grid.proofs.Lists.{map_one, map_two}
use Rattle.ordinary_read.specs.declared.Cursor.{Cursor}
use Rattle.ordinary_read.specs.inner.Reading.{ordinary_box, ordinary_node, ordinary_read, level_digits, onward, DividedBy, Child}

-- ---- the child in a column and a row

-- eight of each: one test tells both
pub both_eight : (a b : ℕ) → ltb (bit_or a b) 8 ≡ (ltb a 8 && ltb b 8)
both_eight a b = go (ltb a 8) refl (ltb b 8) refl
  where
    go : (p : Bool) → ltb a 8 ≡ p → (q : Bool) → ltb b 8 ≡ q → ltb (bit_or a b) 8 ≡ (p && q)
    go true e true f = lt-ltb (bit_or a b) 8 (or_lt 3 a b (ltb-true a 8 e) (ltb-true b 8 f))
    go true e false f = le-ltb (bit_or a b) 8 (omega (arith, ltb-false b 8 f, or_add_and a b, and_le_l a b))
    go false e q f = le-ltb (bit_or a b) 8 (omega (arith, ltb-false a 8 e, or_add_and a b, and_le_r a b))

-- the child lies in its quarter
pub record Lies (s : Split) (column row : ℕ) (c : Cursor) : Type 0 where
  pub across : c.x + (column * s.width + s.width) ≤ HALF
  pub along : c.y + (row * s.height + s.height) ≤ POLAR

pub lies : {s : Split} {column row : ℕ} {c : Cursor} → DividedBy s c → (ltb column s.columns && ltb row s.rows) ≡ true → Lies s column row c
lies {s} {column} {row} {c} d b =
    let t = and_true (ltb column s.columns) (ltb row s.rows) b in
    record {
      across = omega (arith, cut_end column s.columns s.width c.width (ltb-true column s.columns t.0) d.wide, c.across);
      along = omega (arith, cut_end row s.rows s.height c.height (ltb-true row s.rows t.1) d.high, c.along);
    }

-- ---- one level's characters

-- two tests at their places
pair_guards : {A : Type 0} (at l : ℕ) (a b : Bool) (x : A) → at + 1 ≡ l
    → guard at a (guard l b (ok x)) ≡ shift at (guard 0 a (guard 1 (a && (b && true)) (ok x)))
pair_guards at l true true x e = refl
pair_guards at l true false x e = ap bad (sym e)
pair_guards at l false b x e = ap bad (omega arith)

single_guards : {A : Type 0} (at l p : ℕ) (a b : Bool) (x : A) → a ≡ true → at + 0 ≡ l
    → guard p a (guard l b (ok x)) ≡ shift at (guard 0 (a && (b && true)) (ok x))
single_guards at l p true true x t e = refl
single_guards at l p true false x t e = ap bad (sym e)
single_guards at l p false b x t e = clash (cc)

-- the child of the cursor's cell
abbrev child_at : Split → Cursor → ℕ → ℕ → Node
child_at s c column row = cell (ordinary c.north c.east) (sub (plain_part s) (ordinary_box c) column row)

module _ {s : Split} {at place : ℕ} (e : at ≡ place) (w : List ℕ) {c : Cursor} (long : at + s.characters ≤ length w) (d : DividedBy s c) where
  -- reading on reads the level's digits by its form
  goes_on_here : (f : Form) (l : List ℕ) → form_of s.characters s.columns ≡ f → level_digits s at w ≡ l
      → onward s at w (ok (ordinary_node c)) ≡ shift (place_of s) (read_as f false (plain_part s) (child_at s c) l)
  goes_on_here f l e k = rw (le-leb (at + s.characters) (length w) long, k, e) refl

  pub onward_pair : {a b : ℕ} {r : Result Cursor ℕ} → s.characters ≡ 2 → DigitBelow s.columns (get_or w at 0) a → DigitBelow s.rows (get_or w (at + 1) 0) b
      → Child s a b c r → ordinary_read r ≡ onward s place w (ok (ordinary_node c))
  onward_pair {a} {b} {r} two p q k =
      let u : ℕ = digit_of (get_or w at 0) in
      let v : ℕ = digit_of (get_or w (at + 1) 0) in
      let l : level_digits s at w ≡ u ∷ v ∷ [] = rw two (map_two digit_of w at (omega (arith, long))) in
      let row_at : ℕ → ℕ → Read Node = λ column row. guard (s.length - 1) (ltb row s.rows) (ok (child_at s c column row)) in
      subst (λ (i : ℕ). ordinary_read r ≡ onward s i w (ok (ordinary_node c))) e
      (k.read ∙ guard_below p (place_of s) s.columns (λ x. row_at x b) (omega arith)
      ∙ ap (guard (place_of s) (ltb u s.columns)) (guard_below q (s.length - 1) s.rows (λ y. ok (child_at s c u y)) (omega arith))
      ∙ pair_guards (place_of s) (s.length - 1) (ltb u s.columns) (ltb v s.rows) (child_at s c u v) (omega (arith, d.placed)) ∙ sym (goes_on_here pair (u ∷ v ∷ []) (rw two refl) l))

  pub onward_single : {a : ℕ} {r : Result Cursor ℕ} → s.characters ≡ 1 → s.columns ≡ 2 → 2 * s.rows ≤ 10 → DigitBelow 10 (get_or w at 0) a
      → Child s (a % 2) (a / 2) c r → ordinary_read r ≡ onward s place w (ok (ordinary_node c))
  onward_single {a} {r} one two few p k =
      let u : ℕ = digit_of (get_or w at 0) in
      let l : level_digits s at w ≡ u ∷ [] = rw one (map_one digit_of w at (omega (arith, long))) in
      subst (λ (i : ℕ). ordinary_read r ≡ onward s i w (ok (ordinary_node c))) e
      (k.read
      ∙ told p (λ x. guard (place_of s) (ltb (x % 2) s.columns) (guard (s.length - 1) (ltb (x / 2) s.rows) (ok (child_at s c (x % 2) (x / 2))))) (bad (s.length - 1))
      (λ m h. rw (lt-ltb (m % 2) s.columns (omega arith), le-ltb (m / 2) s.rows (omega arith)) refl)
      ∙ single_guards (place_of s) (s.length - 1) (place_of s) (ltb (u % 2) s.columns) (ltb (u / 2) s.rows) (child_at s c (u % 2) (u / 2)) (lt-ltb (u % 2) s.columns (omega arith)) (omega (arith, d.placed)) ∙ sym (goes_on_here quad (u ∷ []) (rw (one, two) refl) l))
