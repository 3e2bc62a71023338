-- What a reservation keeps out until its flight is released: a plane code's, every space code over or under it; a space code's, every plane code.
-- Assumes nothing.
use mathlib.Core.Path.{◌≡◌, refl, sym, ◌∙◌, ap, subst}
use mathlib.Core.Logic.{◌≢◌}
use Prim.Native.Nat.{ℕ, ◌≤◌, ◌<◌}
use native.Mathlib.Nat.{lt_of_le_of_lt}
use native.Mathlib.Omega.{arith}
use mathlib.Core.Bool.{Bool, true, false}
use mathlib.Core.List.{List, [], ◌∷◌}
use lib.Dec.{ltb}
use lib.IntN.{ℤ, pos, negsuc}
use lib.ListN.{length, length-set}
use lib.Seq.{get_or-set_same, get_or-set_other}
use borrow.Author.Tests.{ltb-true, ltb-false, lt-ltb}
use Rattle.grid.specs.declared.SpaceCell.{SpaceCell}
use Rattle.grid.specs.Answers.{Answer, accepted, refused, and_then}
use Rattle.grid.specs.Cells.{Within}
use Rattle.grid.specs.Layers.{ours, product, all, edition_in}
use Rattle.grid.specs.Plane.{cell_of}
use Rattle.grid.specs.Space.{space_cell_of}
use Rattle.grid.proofs.Answers.{accepted_inj, then_accepted}
use Rattle.grid.proofs.Cut.{clash}
use Rattle.grid.proofs.LayerLaws.{stack_covers}
use Rattle.grid.proofs.Ranges.{space_in_ranges}
use Rattle.reservations.specs.declared.Reservation.{Reservation}
use Rattle.reservations.specs.Naming.{Conflict}
use Rattle.reservations.proofs.Exactly.{conflict_turned}
use Rattle.book.specs.Asking.{Ask, blank, column, reserved, plane_record, ground_record, space_record, to_add, to_release}
use Rattle.book.specs.Book.{record_at, leaves, carried}
use Rattle.book.specs.Safety.{LiveAt, Call, add_plane, add_ground, add_space, release, ask_of, after}
use Rattle.book.specs.Reasons.{WhyAdd, add_too_long, no_record, already, conflict, full, added}
use Rattle.book.specs.Holding.{NotReleased, Crossing, KeptOut, flight_live, in_conflict}
use Rattle.book.proofs.Reasons.{added_exactly_when, added_free, released_flies}
use Rattle.book.proofs.Theorems.{adding_stores}

-- ---- a live record that stays where it is

module _ (a : Reservation) (live : a.live ≡ 1) (k : ℕ) where
  -- it stands at the place, in a book that is not too long
  record Stands (book : List Reservation) : Type 0 where
    short : length book ≤ 256
    inside : k < length book
    is : record_at book k ≡ a

  -- another place is used
  stays : (q : Ask) (book : List Reservation) → Stands book → (x : Answer ℕ) → ((j : ℕ) → x ≡ accepted j → j ≢ k) → Stands (leaves q x book)
  stays q book s (refused r) other = s
  stays q book s (accepted j) other =
      record {
        short = subst (λ (n : ℕ). n ≤ 256) (sym (length-set book j _)) s.short;
        inside = subst (λ (n : ℕ). k < n) (sym (length-set book j _)) s.inside;
        is = get_or-set_other book j k _ blank (λ e. other j refl (sym e)) ∙ s.is;
      }

  after_adding : (made : Answer Reservation) (book : List Reservation) → Stands book → Stands (carried (to_add made) book).1
  unfolding carried
  after_adding made book s =
      stays (to_add made) book s (carried (to_add made) book).0 (λ j e f.
      let d : (record_at book j).live ≡ 0 = (added_free made book j e).1.dead in
      let l : (record_at book j).live ≡ 1 = ap (λ (z : ℕ). (record_at book z).live) f ∙ ap (λ (r : Reservation). r.live) s.is ∙ live in
      absurd (omega arith))

  after_releasing : (flight : ℕ) → flight ≢ a.flight → (book : List Reservation) → Stands book → Stands (carried (to_release flight) book).1
  unfolding carried
  after_releasing flight ne book s =
      stays (to_release flight) book s (carried (to_release flight) book).0 (λ j e f.
      ne (sym (released_flies flight book j e).same ∙ ap (λ (z : ℕ). (record_at book z).flight) f ∙ ap (λ (r : Reservation). r.flight) s.is))

  after_call : (c : Call) → c ≢ release a.flight → (book : List Reservation) → Stands book → Stands (carried (ask_of c) book).1
  after_call (add_plane code flight start end) ne book s = after_adding (plane_record code flight start end) book s
  after_call (add_ground code flight start end) ne book s = after_adding (ground_record code flight start end) book s
  after_call (add_space code flight start end) ne book s = after_adding (space_record code flight start end) book s
  after_call (release flight) ne book s = after_releasing flight (λ e. ne (ap release e)) book s

  after_calls : (cs : List Call) → NotReleased a.flight cs → (book : List Reservation) → Stands book → Stands (after cs book)
  after_calls [] ne book s = s
  after_calls (c ∷ cs) ne book s = after_calls cs ne.1 (carried (ask_of c) book).1 (after_call c ne.0 book s)

  -- it stands where the call that added it put it
  stands : (book : List Reservation) → (carried (to_add (accepted a)) book).0 ≡ accepted k → Stands (carried (to_add (accepted a)) book).1
  stands book e =
      let u = added_free (accepted a) book k e in
      let l : k < length book = u.1.inside in
      subst Stands (sym (adding_stores book a k e)) (record {
        short = subst (λ (n : ℕ). n ≤ 256) (sym (length-set book k a)) u.0;
        inside = subst (λ (n : ℕ). k < n) (sym (length-set book k a)) l;
        is = get_or-set_same book k a blank l;
      })

  -- a record that conflicts with it is kept out
  keeps_out : (book : List Reservation) → Stands book → (b : Reservation) → Conflict b a → (x : Answer ℕ) → WhyAdd (accepted b) book x → KeptOut k x
  keeps_out book s b c = go
    where
      there : LiveAt book k
      there = record { inside = s.inside; alive = let e : (record_at book k).live ≡ 1 = ap (λ (r : Reservation). r.live) s.is ∙ live in omega arith }

      meets : (d : Reservation) → accepted b ≡ accepted d → Conflict d (record_at book k)
      meets d e = subst (λ (r : Reservation). Conflict d r) (sym s.is) (subst (λ (r : Reservation). Conflict r a) (accepted_inj e) c)

      go : (x : Answer ℕ) → WhyAdd (accepted b) book x → KeptOut k x
      go x (add_too_long l) = let h : length book ≤ 256 = s.short in absurd (omega (arith, l))
      go x (no_record t r e) = clash (cc)
      go x (already d y i w) = flight_live
      go x (conflict d y m j w) = in_conflict j (first (ltb k j) refl)
        where
          first : (q : Bool) → ltb k j ≡ q → j ≤ k
          first true e = absurd (w.before k (ltb-true _ _ e) (record { live = there; conflict = meets d y.record_is }))
          first false e = ltb-false _ _ e
      go x (full d y m none o) = absurd (none k (record { live = there; conflict = meets d y.record_is }))
      go x (added d y m none i o) = absurd (none k (record { live = there; conflict = meets d y.record_is }))

-- from the call that adds the one record on, until its flight is released, a record that conflicts with it is kept out
module _ (one other : Answer Reservation) (a b : Reservation) (one-is : one ≡ accepted a) (other-is : other ≡ accepted b) (live : a.live ≡ 1) (meet : Conflict b a) where
  held : (book : List Reservation) (k : ℕ) → (carried (to_add one) book).0 ≡ accepted k → (cs : List Call) → NotReleased a.flight cs
      → KeptOut k (carried (to_add other) (after cs (carried (to_add one) book).1)).0
  held book k e cs ne =
      rw (one-is, other-is) (keeps_out a live k later (after_calls a live k cs ne _ (stands a live k book (rw one-is at e))) b meet _ ((added_exactly_when (accepted b) later _).0 refl))
    where
      later : List Reservation
      later = after cs (carried (to_add (accepted a)) book).1

-- ---- a plane code and a space code

-- its own floor is one of a run's numbers
own_floor : (z : ℤ) (n : ℕ) → 0 < n → Within z n z
own_floor (pos a) n h = record { starts = omega arith; ends = omega arith }
own_floor (negsuc a) n h = record { starts = omega arith; ends = omega arith }

-- a code that is read, with a minute, has a record
module _ (flight start end : ℕ) {C : Type 0} (cell : C → SpaceCell) where
  made : (read : Answer C) (c : C) → read ≡ accepted c → (m : ℕ) → (start ≤ m) × (m < end)
      → and_then read (λ y. reserved flight start end (cell y)) ≡ accepted (record { live = 1; flight = flight; space = cell c; start = start; end = end })
  made read c e m l = sym (then_accepted (λ (y : C). reserved flight start end (cell y)) e) ∙ (rw (lt-ltb start end (lt_of_le_of_lt l.0 l.1)) refl)

module _ (plane : List ℕ) (start end : ℕ) (space : List ℕ) (from to : ℕ) (x : Crossing plane start end space from to) (flight another : ℕ) where
  abbrev a : Reservation
  a = record { live = 1; flight = flight; space = column x.plane_cell; start = start; end = end }

  abbrev b : Reservation
  b = record { live = 1; flight = another; space = x.space_cell; start = from; end = to }

  plane_made : plane_record plane flight start end ≡ accepted a
  unfolding plane_record
  plane_made = made flight start end column (cell_of plane) x.plane_cell x.plane_read_law x.minute x.plane_minute

  space_made : space_record space another from to ≡ accepted b
  unfolding space_record
  space_made = made another from to (λ s. s) (space_cell_of ours space) x.space_cell x.space_read_law x.minute x.space_minute

  -- whatever the space code's layers are, its floor is one that the plane code stands for
  cross : Conflict b a
  unfolding edition_in
  cross =
      let r = (space_in_ranges (pos 1) ours space x.space_cell refl x.space_read_law).layers_in in
      record {
        minute = x.minute;
        minutes = (record { begun = x.space_minute.0; going = x.space_minute.1 }, record { begun = x.plane_minute.0; going = x.plane_minute.1 });
        layers = record { layer = x.space_cell.floor; named = (own_floor x.space_cell.floor x.space_cell.thickness r.some, stack_covers (product ours) all x.space_cell.floor (omega arith) refl r.begins_in) };
        square = x.square;
        squares = (x.squares.1, x.squares.0);
      }

-- ---- the reason for the wish

-- a plane code's reservation keeps every space code out whose plane cell shares a square with it, at whatever layer, for a minute that they share
pub column_held : (plane : List ℕ) (flight start end : ℕ) (book : List Reservation) (k : ℕ) → (carried (to_add (plane_record plane flight start end)) book).0 ≡ accepted k
    → (cs : List Call) → NotReleased flight cs → (space : List ℕ) (another from to : ℕ) → Crossing plane start end space from to
    → KeptOut k (carried (to_add (space_record space another from to)) (after cs (carried (to_add (plane_record plane flight start end)) book).1)).0
column_held plane flight start end book k e cs ne space another from to x =
    held (plane_record plane flight start end) (space_record space another from to) (a plane start end space from to x flight another) (b plane start end space from to x flight another)
    (plane_made plane start end space from to x flight another) (space_made plane start end space from to x flight another) refl (cross plane start end space from to x flight another) book k e cs ne

-- and a space code's reservation every such plane code
pub column_kept_out : (space : List ℕ) (flight from to : ℕ) (book : List Reservation) (k : ℕ) → (carried (to_add (space_record space flight from to)) book).0 ≡ accepted k
    → (cs : List Call) → NotReleased flight cs → (plane : List ℕ) (another start end : ℕ) → Crossing plane start end space from to
    → KeptOut k (carried (to_add (plane_record plane another start end)) (after cs (carried (to_add (space_record space flight from to)) book).1)).0
column_kept_out space flight from to book k e cs ne plane another start end x =
    held (space_record space flight from to) (plane_record plane another start end) (b plane start end space from to x another flight) (a plane start end space from to x another flight)
    (space_made plane start end space from to x another flight) (plane_made plane start end space from to x another flight) refl
    (conflict_turned _ _ (cross plane start end space from to x another flight)) book k e cs ne
