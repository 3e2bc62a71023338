-- The tests of an entry, and what is kept of it: each way out of the functions that make them.
-- Assumes nothing.
use mathlib.Core.Path.{◌≡◌, sym, ◌∙◌, ap}
use mathlib.Core.Bool.{Bool, true, false}
use mathlib.Core.List.{List}
use Prim.Native.Nat.{ℕ, ◌+◌, ◌-◌, ◌≤◌, ◌<◌}
use native.Mathlib.Omega.{arith}
use lib.Dec.{leb, eqb}
use lib.ListN.{length, get_or, take, drop, length-drop}
use lib.Seq.{take_all}
use borrow.Author.Tests.{le-leb, lt-leb, ne_eqb, eq-eqb}
use Rattle.std.specs.Option.{is_some}
use Rattle.grid.specs.Plane.{cell_of}
use Rattle.places.specs.Book.{order, unhyphened, is_accepted}
use Rattle.places.specs.Reading.{word_at, next_body, fair, fair_at}
use Rattle.places.specs.inner.Walk.{AlikeTo, note, opened, closed}
use Rattle.places.specs.declared.Seen.{Seen}

module _ (last name code : List ℕ) {o : ℕ} (is : o ≡ order last name) where
  pub fair_order : (o ≡ 0 → ⊥) → false ≡ fair last name code
  unfolding fair
  fair_order n = rw (← is, ne_eqb o 0 n)

  pub fair_long : o ≡ 0 → 64 < length name → false ≡ fair last name code
  unfolding fair
  fair_long e h = rw (← is, eq-eqb o 0 e, lt-leb (length name) 64 h)

  module _ (e : o ≡ 0) (h : length name ≤ 64) (clear : unhyphened last ≡ true) {d : ℕ} (begin : AlikeTo last name d) {q : Bool}
      (rest : q ≡ unhyphened (take (length name - d) (drop d name))) where
    all_of_it : unhyphened name ≡ q
    all_of_it =
        let whole : take (length name - d) (drop d name) ≡ drop d name = take_all (length name - d) (drop d name) (rw length-drop (omega arith)) in
        sym (rest ∙ ap unhyphened whole ∙ (begin.hyphens clear).1)

    pub fair_hyphened : q ≡ false → false ≡ fair last name code
    unfolding fair
    fair_hyphened u = rw (← is, eq-eqb o 0 e, le-leb (length name) 64 h, all_of_it, u)

    pub fair_hyphenless : q ≡ true → {r : Bool} → r ≡ is_accepted (cell_of code) → r ≡ fair last name code
    unfolding fair
    fair_hyphenless u {r} f = rw (← is, eq-eqb o 0 e, le-leb (length name) 64 h, all_of_it, u) f

module _ (s : List ℕ) (i at : ℕ) (last : List ℕ) {w : ℕ} (is : w ≡ word_at s i) where
  pub fair_elsewhere : (w ≡ at → ⊥) → false ≡ fair_at s i at last
  unfolding fair_at
  fair_elsewhere n = rw (← is, ne_eqb w at n)

  module _ {n m : ℕ} (is-n : n ≡ get_or s (i + 2) 0) (is_m : m ≡ get_or s (i + 3) 0) (here : w ≡ at) where
    pub fair_past : length s < at + n + m → false ≡ fair_at s i at last
    unfolding fair_at
    fair_past h =
        let k : leb (next_body s i at) (length s) ≡ false = lt-leb (next_body s i at) (length s) (omega arith) in
        rw (← is, eq-eqb w at here, k)

    pub fair_within : at + n + m ≤ length s → {r : Bool}
        → r ≡ fair last (take (at + n - at) (drop at s)) (take (at + n + m - (at + n)) (drop (at + n) s)) → r ≡ fair_at s i at last
    unfolding fair_at
    fair_within h e =
        let k : leb (next_body s i at) (length s) ≡ true = le-leb (next_body s i at) (length s) (omega arith) in
        let u : at + n - at ≡ n = omega arith in
        let v : at + n + m - (at + n) ≡ m = omega arith in
        rw (← is, eq-eqb w at here, k, ← is-n, ← is_m) (rw (u, v) at e)

module _ (asked : List ℕ) (v : Seen) (name : List ℕ) (m : ℕ) where
  pub note_met : is_some v.met ≡ true → v ≡ note asked v name m
  unfolding note
  note_met e = rw e

  module _ (not_yet : is_some v.met ≡ false) {o : ℕ} (is : o ≡ order name asked) where
    pub note_below : o ≡ 0 → opened (v.below + 1) (v.start + length name + m) ≡ note asked v name m
    unfolding note
    note_below e = rw (not_yet, ← is, eq-eqb o 0 e)

    pub note_close : (o ≡ 0 → ⊥) → closed v.below v.start (eqb o 1) (length name) m ≡ note asked v name m
    unfolding note
    note_close n = rw (not_yet, ← is, ne_eqb o 0 n)
