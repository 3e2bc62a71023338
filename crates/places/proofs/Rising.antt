-- A list that has a book is one that can be gone through: each entry may stand after the name before it, the first one after the empty name.
-- Assumes nothing.
use mathlib.Core.Path.{◌≡◌, refl, ap}
use mathlib.Core.Bool.{Bool, true, ◌&&◌}
use mathlib.Core.List.{List, [], ◌∷◌}
use Prim.Native.Nat.{ℕ, ◌≤◌}
use native.Mathlib.Omega.{arith}
use lib.Dec.{leb}
use lib.ListN.{length}
use borrow.Author.Tests.{leb-true, le-leb, eqb-true, eq-eqb}
use Rattle.grid.proofs.Cut.{and_true, and_make}
use Rattle.places.specs.Book.{Entry, order, below, is_entry, all_entries, rising, book_of, Good}
use Rattle.places.specs.Reading.{fair}
use Rattle.places.proofs.Ordering.{order_empty}

-- each entry may stand after the name before it, the first one after the name `last`
abbrev pub rises_from : List ℕ → List Entry → Bool
rises_from last [] = true
rises_from last (e ∷ es) = fair last e.name e.code && rises_from e.name es

-- the first name is above `last`
abbrev begins_above : List ℕ → List Entry → Bool
begins_above last [] = true
begins_above last (e ∷ es) = below last e.name

record Parts (last : List ℕ) (es : List Entry) : Type 0 where
  fit_each : all_entries es ≡ true
  rise : rising es ≡ true
  begin : begins_above last es ≡ true

-- what an entry's own tests and its place in the list say together
fair_make : (last : List ℕ) (e : Entry) → is_entry e ≡ true → below last e.name ≡ true → fair last e.name e.code ≡ true
unfolding is_entry fair
fair_make last e i b = and_make (below last e.name) _ b (and_true (leb 1 (length e.name)) _ i).1

nothing_below : (last name : List ℕ) → order last name ≡ 0 → 1 ≤ length name
nothing_below [] [] e = absurd (omega arith)
nothing_below (x ∷ last) [] e = absurd (omega arith)
nothing_below last (y ∷ name) e = omega arith

fair_split : (last : List ℕ) (e : Entry) → fair last e.name e.code ≡ true → (is_entry e ≡ true) × (below last e.name ≡ true)
unfolding is_entry fair
fair_split last e f =
    let a = and_true (below last e.name) _ f in
    (and_make (leb 1 (length e.name)) _ (le-leb 1 (length e.name) (nothing_below last e.name (eqb-true (order last e.name) 0 a.0))) a.1, a.0)

rising_next : (e : Entry) (es : List Entry) → rising (e ∷ es) ≡ true → (begins_above e.name es ≡ true) × (rising es ≡ true)
rising_next e [] r = (refl, refl)
rising_next e (d ∷ es) r = and_true (below e.name d.name) (rising (d ∷ es)) r

rising_make : (e : Entry) (es : List Entry) → begins_above e.name es ≡ true → rising es ≡ true → rising (e ∷ es) ≡ true
rising_make e [] b r = refl
rising_make e (d ∷ es) b r = and_make (below e.name d.name) (rising (d ∷ es)) b r

from_parts : (last : List ℕ) (es : List Entry) → Parts last es → rises_from last es ≡ true
from_parts last [] p = refl
from_parts last (e ∷ es) p =
    let a = and_true (is_entry e) (all_entries es) p.fit_each in
    let n = rising_next e es p.rise in
    and_make (fair last e.name e.code) (rises_from e.name es) (fair_make last e a.0 p.begin)
    (from_parts e.name es (record { fit_each = a.1; rise = n.1; begin = n.0 }))

to_parts : (last : List ℕ) (es : List Entry) → rises_from last es ≡ true → Parts last es
to_parts last [] r = record { fit_each = refl; rise = refl; begin = refl }
to_parts last (e ∷ es) r =
    let a = and_true (fair last e.name e.code) (rises_from e.name es) r in
    let s = fair_split last e a.0 in
    let p = to_parts e.name es a.1 in
    record {
      fit_each = and_make (is_entry e) (all_entries es) s.0 p.fit_each;
      rise = rising_make e es p.begin p.rise;
      begin = s.1;
    }

-- a list of entries, each of them by itself fit for a book, begins above the empty name
begins_empty : (es : List Entry) → all_entries es ≡ true → begins_above [] es ≡ true
unfolding is_entry
begins_empty [] a = refl
begins_empty (e ∷ es) a =
    let l = leb-true 1 (length e.name) (and_true (leb 1 (length e.name)) _ (and_true (is_entry e) (all_entries es) a).0).0 in
    eq-eqb (order [] e.name) 0 (order_empty e.name (λ z. omega (arith, ap length z, l)))

pub good_rises : {es : List Entry} → Good es → rises_from [] es ≡ true
good_rises {es} g = from_parts [] es (record { fit_each = g.fit_each; rise = g.rise; begin = begins_empty es g.fit_each })

pub rises_good : (es : List Entry) → length es ≤ 1000 → rises_from [] es ≡ true → length (book_of es) ≤ 65535 → Good es
rises_good es f r s = let p = to_parts [] es r in record { few = f; fit_each = p.fit_each; rise = p.rise; short = s }
