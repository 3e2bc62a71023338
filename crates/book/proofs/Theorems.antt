-- What the book promises, beside its answers (Reasons.antt) and its safety (Safe.antt): what a record that is added says, and what a call changes.
-- Assumes nothing.
use mathlib.Core.Path.{◌≡◌, refl, ◌∙◌, ap, subst}
use mathlib.Core.Logic.{◌↔◌}
use mathlib.Core.Bool.{Bool, true, false}
use Prim.Native.Nat.{ℕ, ◌≤◌}
use native.Mathlib.Omega.{arith}
use mathlib.Core.List.{List}
use lib.Dec.{ltb, le→leb, leb→le}
use lib.IntN.{ℤ, pos, negsuc, neg_ℤ}
use lib.ListN.{set}
use lib.Signed.{◌≤ℤ◌, le_z_yes}
use borrow.Author.Tests.{ltb-false, le-ltb}
use Rattle.grid.specs.declared.Cell.{Cell}
use Rattle.grid.specs.declared.Refusal.{Refusal}
use Rattle.grid.specs.declared.SpaceCell.{SpaceCell}
use Rattle.grid.specs.Units.{Cube}
use Rattle.grid.specs.Answers.{Answer, accepted, refused, refusal, unless, and_then}
use Rattle.grid.specs.Cells.{Within, CoversCube}
use Rattle.grid.specs.Layers.{ours}
use Rattle.grid.specs.Plane.{cell_of}
use Rattle.grid.specs.Space.{space_cell_of}
use Rattle.grid.proofs.Answers.{accepted_inj, unless_accepted, then_from}
use Rattle.grid.proofs.Cut.{clash}
use Rattle.reservations.specs.declared.Reservation.{Reservation}
use Rattle.book.specs.Asking.{Ask, over, column, ground_column, reserved, plane_record, ground_record, space_record, to_add, to_release}
use Rattle.book.specs.Meaning.{Reserves, InColumn, InPlane, InGround, WhyNone, no_code, no_minutes, TurnedOff}
use Rattle.book.specs.Book.{off, record_at, leaves, carried}

-- ---- the record that is added

-- the record of a space cell
reserves : (flight start end : ℕ) (s : SpaceCell) (a : Reservation) → reserved flight start end s ≡ accepted a → (a.space ≡ s) × Reserves flight start end (CoversCube s) a
reserves flight start end s a e =
    subst (λ (z : Reservation). (z.space ≡ s) × Reserves flight start end (CoversCube s) z) (accepted_inj (unless_accepted (ltb start end) (refusal 14 0) _ a e).1)
    (refl, record { alive = refl; flown = refl; names = λ t. (λ x. x, λ x. x); minutes = λ m. (λ x. (x.begun, x.going), λ x. record { begun = x.0; going = x.1 }) })

-- a space code's record holds its space cell, and names exactly the cubes of it, and its minutes
pub space_reserves : (code : List ℕ) (flight start end : ℕ) (a : Reservation) → space_record code flight start end ≡ accepted a
    → (s : SpaceCell) × (space_cell_of ours code ≡ accepted s) × (a.space ≡ s) × Reserves flight start end (CoversCube s) a
unfolding space_record
space_reserves code flight start end a e =
    let f = then_from (space_cell_of ours code) _ a e in
    let r = reserves flight start end f.0 a f.2 in
    (f.0, f.1, r.0, r.1)

-- the record of a plane code, over so many layers from a floor on that they are those from the lowest to the highest
module _ (floor : Cell → ℤ) (n : Cell → ℕ) (lowest highest : ℤ) (same : (c : Cell) (z : ℤ) → Within (floor c) (n c) z ↔ ((lowest ≤ℤ z) × (z ≤ℤ highest))) where
  column_cubes : (c : Cell) (s : Cube) → CoversCube (over (floor c) (n c) c) s ↔ InColumn lowest highest c s
  column_cubes c s = (
    λ x. let z = (same c s.1).0 x.high in record { square = x.plan; not_below = z.0; not_above = z.1 },
    λ x. record { plan = x.square; high = (same c s.1).1 (x.not_below, x.not_above) },
  )

  over_reserves : (code : List ℕ) (flight start end : ℕ) (a : Reservation) → and_then (cell_of code) (λ c. reserved flight start end (over (floor c) (n c) c)) ≡ accepted a
      → (c : Cell) × (cell_of code ≡ accepted c) × (a.space.cell ≡ c) × Reserves flight start end (InColumn lowest highest c) a
  over_reserves code flight start end a e =
      let f = then_from (cell_of code) _ a e in
      let h = reserves flight start end (over (floor f.0) (n f.0) f.0) a f.2 in
      let r : Reserves flight start end (CoversCube (over (floor f.0) (n f.0) f.0)) a = h.1 in (
        f.0,
        f.1,
        ap (λ (z : SpaceCell). z.cell) h.0,
        record { alive = r.alive; flown = r.flown; names = λ s. (λ x. (column_cubes f.0 s).0 ((r.names s).0 x), λ x. (r.names s).1 ((column_cubes f.0 s).1 x)); minutes = r.minutes },
      )

-- -1,887,436,800 to 1,887,436,799
all_layers : (c : Cell) (z : ℤ) → Within (column c).floor (column c).thickness z ↔ ((neg_ℤ (pos 1887436800) ≤ℤ z) × (z ≤ℤ pos 1887436799))
all_layers c (pos n) = (
  λ x. (le_z_yes tt, le_z_yes (le→leb n 1887436799 (omega (arith, x.ends)))),
  λ x. let h : n ≤ 1887436799 = leb→le n 1887436799 x.1.le in record { starts = omega arith; ends = omega arith },
)
all_layers c (negsuc n) = (
  λ x. (le_z_yes (le→leb n 1887436799 (omega (arith, x.starts))), le_z_yes tt),
  λ x. let h : n ≤ 1887436799 = leb→le n 1887436799 x.0.le in record { starts = omega arith; ends = omega arith },
)

-- 0 to 1,887,436,799
ground_layers : (c : Cell) (z : ℤ) → Within (ground_column c).floor (ground_column c).thickness z ↔ ((pos 0 ≤ℤ z) × (z ≤ℤ pos 1887436799))
ground_layers c (pos n) = (
  λ x. (le_z_yes (le→leb 0 n (omega arith)), le_z_yes (le→leb n 1887436799 (omega (arith, x.ends)))),
  λ x. let h : n ≤ 1887436799 = leb→le n 1887436799 x.1.le in record { starts = omega arith; ends = omega arith },
)
ground_layers c (negsuc n) = (λ x. absurd (omega (arith, x.starts)), λ x. absurd x.0.le)

-- a plane code's record holds its cell, and names exactly the cubes over it in layers -1,887,436,800 to 1,887,436,799, and its minutes
pub plane_reserves : (code : List ℕ) (flight start end : ℕ) (a : Reservation) → plane_record code flight start end ≡ accepted a
    → (c : Cell) × (cell_of code ≡ accepted c) × (a.space.cell ≡ c) × Reserves flight start end (InPlane c) a
unfolding plane_record
plane_reserves code flight start end a e =
    over_reserves (λ c. (column c).floor) (λ c. (column c).thickness) (neg_ℤ (pos 1887436800)) (pos 1887436799) all_layers code flight start end a e

-- and in the ground call in layers 0 to 1,887,436,799
pub ground_reserves : (code : List ℕ) (flight start end : ℕ) (a : Reservation) → ground_record code flight start end ≡ accepted a
    → (c : Cell) × (cell_of code ≡ accepted c) × (a.space.cell ≡ c) × Reserves flight start end (InGround c) a
unfolding ground_record
ground_reserves code flight start end a e =
    over_reserves (λ c. (ground_column c).floor) (λ c. (ground_column c).thickness) (pos 0) (pos 1887436799) ground_layers code flight start end a e

-- ---- 6, 7 and 14

refused_inj : {C : Type 0} {p q : Refusal} → ◌≡◌ {A = Answer C} (refused p) (refused q) → p ≡ q
refused_inj e = cc

module _ {C : Type 0} (read : Answer C) (flight start end : ℕ) (cell : C → SpaceCell) where
  abbrev made : Answer C → Answer Reservation
  made x = and_then x (λ c. reserved flight start end (cell c))

  why_none : (r : Refusal) (x : Answer C) → read ≡ x → made x ≡ refused r → WhyNone read start end r
  why_none r (refused q) e f = no_code r (e ∙ ap refused (refused_inj f))
  why_none r (accepted c) e f = go (ltb start end) refl f
    where
      go : (b : Bool) → ltb start end ≡ b → unless {C = Reservation} b (refusal 14 0) (accepted (record { live = 1; flight = flight; space = cell c; start = start; end = end })) ≡ refused r → WhyNone read start end r
      go true d g = clash (cc)
      go false d g = subst (WhyNone read start end) (refused_inj g) (no_minutes c e (ltb-false _ _ d))

  so_none : (r : Refusal) → WhyNone read start end r → made read ≡ refused r
  so_none r (no_code q e) = ap made e
  so_none r (no_minutes c e l) = ap made e ∙ (rw (le-ltb start end l) refl)

  none_exactly_when : (r : Refusal) → (made read ≡ refused r) ↔ WhyNone read start end r
  none_exactly_when r = (why_none r read refl, so_none r)

-- no record by plane code exactly when the code is refused, or the start is not before the end
pub plane_none_exactly_when : (code : List ℕ) (flight start end : ℕ) (r : Refusal) → (plane_record code flight start end ≡ refused r) ↔ WhyNone (cell_of code) start end r
unfolding plane_record
plane_none_exactly_when code flight start end r = none_exactly_when (cell_of code) flight start end column r

-- and in the ground call
pub ground_none_exactly_when : (code : List ℕ) (flight start end : ℕ) (r : Refusal) → (ground_record code flight start end ≡ refused r) ↔ WhyNone (cell_of code) start end r
unfolding ground_record
ground_none_exactly_when code flight start end r = none_exactly_when (cell_of code) flight start end ground_column r

-- and by space code
pub space_none_exactly_when : (code : List ℕ) (flight start end : ℕ) (r : Refusal) → (space_record code flight start end ≡ refused r) ↔ WhyNone (space_cell_of ours code) start end r
unfolding space_record
space_none_exactly_when code flight start end r = none_exactly_when (space_cell_of ours code) flight start end (λ s. s) r

-- ---- what a call changes

module _ (book : List Reservation) where
  left : (q : Ask) {x : Answer ℕ} → (carried q book).0 ≡ x → (carried q book).1 ≡ leaves q x book
  unfolding carried
  left q e = ap (λ (x : Answer ℕ). leaves q x book) e

  -- a refusal changes nothing
  pub refusal_keeps : (q : Ask) (r : Refusal) → (carried q book).0 ≡ refused r → (carried q book).1 ≡ book
  refusal_keeps q r e = left q e

  -- adding stores the record at the place that it answers, and changes nothing else
  pub adding_stores : (a : Reservation) (k : ℕ) → (carried (to_add (accepted a)) book).0 ≡ accepted k → (carried (to_add (accepted a)) book).1 ≡ set book k a
  adding_stores a k e = left (to_add (accepted a)) e

  -- releasing turns off the live mark of the record at the place that it answers, and changes nothing else
  pub releasing_turns_off : (flight k : ℕ) → (carried (to_release flight) book).0 ≡ accepted k
      → (r : Reservation) × ((carried (to_release flight) book).1 ≡ set book k r) × TurnedOff (record_at book k) r
  releasing_turns_off flight k e =
      (off (record_at book k), left (to_release flight) e, record { dead = refl; flight_same = refl; cell_same = refl; start_same = refl; end_same = refl })
