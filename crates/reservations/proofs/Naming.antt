-- What a record names, counted: longitudes west to west + width - 1, those full turns apart being the same, latitudes south to south + height - 1, layers floor to floor + thickness - 1.
-- All are whole numbers, whatever the record holds: no sum wraps at 32 bits, and no end of the globe or of the layers is looked at.
-- Assumes nothing.
use mathlib.Core.Path.{◌≡◌, refl, sym, ◌∙◌, ap, subst}
use mathlib.Core.Bool.{Bool, true, false}
use mathlib.Core.Logic.{◌↔◌, ◌⊎◌, inl, inr}
use Prim.Native.Nat.{ℕ, ◌+◌, ◌-◌, ◌*◌, ◌/◌, ◌%◌, ◌≤◌, ◌<◌}
use native.Mathlib.Omega.{arith}
use lib.Dec.{eqb}
use lib.IntN.{ℤ, pos, ◌+ℤ◌}
use borrow.Author.Tests.{eqb-true, eqb-false}
use Rattle.grid.specs.Units.{TURN, Square}
use Rattle.grid.specs.Cells.{around, above, Within}
use Rattle.distances.proofs.Turning.{around_below, around_on}
use Rattle.distances.proofs.Rising.{above_one_way, above_on, on_above}
use Rattle.reservations.specs.declared.Reservation.{Reservation}
use Rattle.reservations.specs.Naming.{NamesSquare, NamesLayer, NamesMinute, CountedFrom, CountedRound, TurnsOn}

-- ---- runs of whole numbers and arcs of longitudes

-- so many from a number on, by how far they lie above it and by counting
within_counted : (f : ℤ) (n : ℕ) (v : ℤ) → Within f n v ↔ CountedFrom f n v
within_counted f n v = (
  λ w. record { step = above f v; below = w.ends; is = on_above f v w.starts },
  λ c. subst (Within f n) (sym c.is) (let a = above_on f c.step in record { starts = a.0; ends = subst (λ (k : ℕ). k < n) (sym a.1) c.below }),
)

module _ (w : ℤ) (n : ℕ) (u : ℤ) where
  -- and so round a full turn
  round_counted : (around u + (TURN - around w)) % TURN < n ↔ CountedRound w n u
  round_counted = (
    λ h. record { step = (around u + (TURN - around w)) % TURN; below = h; same = way_back ∙ sym (around_on w _) },
    λ c. no_longer c.step c.below (c.same ∙ around_on w c.step),
  )
    where
      way_back : around u ≡ (around w + (around u + (2654208000 - around w)) % 2654208000) % 2654208000
      way_back = omega (arith, around_below w, around_below u)

      no_longer : (j : ℕ) → j < n → around u ≡ (around w + j) % 2654208000 → (around u + (2654208000 - around w)) % 2654208000 < n
      no_longer j l e = omega (arith, l, e, around_below w)

-- ---- what a record names

-- the squares: longitudes west to west + width - 1, full turns apart the same, and latitudes south to south + height - 1
pub names_square_exactly : (r : Reservation) (s : Square) → NamesSquare r s ↔ (CountedRound r.space.cell.west r.space.cell.width s.longitude × CountedFrom r.space.cell.south r.space.cell.height s.latitude)
names_square_exactly r s =
    let a = round_counted r.space.cell.west r.space.cell.width s.longitude in
    let b = within_counted r.space.cell.south r.space.cell.height s.latitude in
    (λ c. (a.0 c.across, b.0 c.along), λ c. record { across = a.1 c.0; along = b.1 c.1 })

-- the layers: floor to floor + thickness - 1
pub names_layer_exactly : (r : Reservation) (z : ℤ) → NamesLayer r z ↔ CountedFrom r.space.floor r.space.thickness z
names_layer_exactly r = within_counted r.space.floor r.space.thickness

-- ---- longitudes a full turn apart

-- a full turn on is the same
pub turn_same : (z : ℤ) → around (z +ℤ pos TURN) ≡ around z
turn_same z = let h : around z < 2654208000 = around_below z in around_on z TURN ∙ omega arith

-- two are the same exactly when one is a number of full turns on from the other
pub same_exactly : (u v : ℤ) → (around u ≡ around v) ↔ (TurnsOn u v ⊎ TurnsOn v u)
same_exactly u v = (turned, same)
  where
    -- from one up to the other
    up : (a b : ℤ) → above b a ≡ 0 → around a ≡ around b → TurnsOn a b
    up a b z e =
        let d = above a b in
        let o : b ≡ a +ℤ pos d = on_above a b z in
        let s : around b ≡ (around a + d) % 2654208000 = ap around o ∙ around_on a d in
        let h : around a < 2654208000 = around_below a in
        let w : d ≡ d / 2654208000 * 2654208000 = omega arith in
        record { turns = d / 2654208000; is = o ∙ ap (λ (x : ℕ). a +ℤ pos x) w }

    turned : around u ≡ around v → TurnsOn u v ⊎ TurnsOn v u
    turned e = go (eqb (above v u) 0) refl
      where
        go : (q : Bool) → eqb (above v u) 0 ≡ q → TurnsOn u v ⊎ TurnsOn v u
        go true z = inl (up u v (eqb-true _ _ z) e)
        go false z = inr (up v u (above_one_way v u (eqb-false _ _ z)) (sym e))

    back : (a b : ℤ) → TurnsOn a b → around a ≡ around b
    back a b t = let h : around a < 2654208000 = around_below a in sym (ap around t.is ∙ around_on a (t.turns * TURN) ∙ omega arith)

    same : TurnsOn u v ⊎ TurnsOn v u → around u ≡ around v
    same (inl t) = back u v t
    same (inr t) = sym (back v u t)

-- ---- sizes of a full turn and of nothing

module _ (r : Reservation) where
  -- a width of a full turn or more names every longitude
  pub turn_names_all : TURN ≤ r.space.cell.width → (u : ℤ) → CountedRound r.space.cell.west r.space.cell.width u
  turn_names_all h u = (round_counted r.space.cell.west r.space.cell.width u).0 (omega arith)

  -- a width of 0 names no square
  pub no_width : r.space.cell.width ≡ 0 → (s : Square) → NamesSquare r s → ⊥
  no_width e s c = let h = c.across in omega arith

  -- a height of 0 names no square
  pub no_height : r.space.cell.height ≡ 0 → (s : Square) → NamesSquare r s → ⊥
  no_height e s c = let h = c.along.ends in omega arith

  -- a thickness of 0 names no layer
  pub no_thickness : r.space.thickness ≡ 0 → (z : ℤ) → NamesLayer r z → ⊥
  no_thickness e z c = let h = c.ends in omega arith

  -- a start that is not before the end names no minute
  pub no_minute : r.end ≤ r.start → (m : ℕ) → NamesMinute r m → ⊥
  no_minute e m c = omega arith
