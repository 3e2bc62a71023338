-- The computed test holds exactly when two records conflict, for all records; and they conflict exactly when they share a unit cube and a minute.
-- Assumes nothing.
use mathlib.Core.Path.{◌≡◌, refl}
use mathlib.Core.Bool.{true}
use mathlib.Core.Logic.{◌↔◌}
use Prim.Native.Nat.{ℕ, ◌<◌, min, max}
use native.Mathlib.Omega.{arith}
use borrow.Author.Tests.{ltb-true, lt-ltb}
use Rattle.grid.specs.Units.{Square, Cube}
use Rattle.grid.specs.Cells.{Covers}
use Rattle.grid.specs.declared.Cell.{Cell}
use Rattle.grid.proofs.Cut.{and_true}
use Rattle.distances.specs.Distances.{between}
use Rattle.reservations.specs.declared.Reservation.{Reservation}
use Rattle.reservations.specs.Naming.{NamesMinute, NamesCube, ShareLayer, Conflict}
use Rattle.reservations.specs.Meeting.{minutes_meet, runs_meet, squares_meet, layers_meet, conflict_test}
use Rattle.reservations.proofs.Arcs.{longitudes_meet, longitudes_shared}
use Rattle.reservations.proofs.Runs.{numbers_meet, numbers_shared}

-- ---- minutes

minutes_meet_law : (a b : Reservation) (m : ℕ) → NamesMinute a m → NamesMinute b m → minutes_meet a.start a.end b.start b.end ≡ true
unfolding minutes_meet
minutes_meet_law a b m x y = lt-ltb (max a.start b.start) (min a.end b.end) (omega arith)

minutes_shared : (a b : Reservation) → minutes_meet a.start a.end b.start b.end ≡ true → NamesMinute a (max a.start b.start) × NamesMinute b (max a.start b.start)
unfolding minutes_meet
minutes_shared a b t =
    let h : max a.start b.start < min a.end b.end = ltb-true _ _ t in
    (record { begun = omega arith; going = omega arith }, record { begun = omega arith; going = omega arith })

-- ---- layers

module _ (a b : Reservation) where
  layers_meet_law : ShareLayer a b → layers_meet a b ≡ true
  unfolding layers_meet
  layers_meet_law s = numbers_meet a.space.floor b.space.floor a.space.thickness b.space.thickness s.layer s.named.0 s.named.1

  layers_shared : layers_meet a b ≡ true → ShareLayer a b
  unfolding layers_meet
  layers_shared t =
      let v = numbers_shared a.space.floor b.space.floor a.space.thickness b.space.thickness t in
      record { layer = v.0; named = (v.1, v.2) }

-- ---- squares

-- two cells share a square exactly when the test says so
pub squares_exactly_when : (c d : Cell) → (squares_meet c d ≡ true) ↔ ((s : Square) × Covers c s × Covers d s)
unfolding squares_meet between
squares_exactly_when c d = (finds, tests)
  where
    finds : squares_meet c d ≡ true → (s : Square) × Covers c s × Covers d s
    finds t =
        let k = and_true (runs_meet c.south c.height d.south d.height) _ t in
        let v = numbers_shared c.south d.south c.height d.height k.0 in
        let u = longitudes_shared c.west d.west c.width d.width k.1 in
        (record { longitude = u.0; latitude = v.0 }, record { across = u.1; along = v.1 }, record { across = u.2; along = v.2 })

    tests : (s : Square) × Covers c s × Covers d s → squares_meet c d ≡ true
    tests (s, x, y) =
        rw (
          numbers_meet c.south d.south c.height d.height s.latitude x.along y.along,
          longitudes_meet c.west d.west c.width d.width s.longitude x.across y.across,
        ) refl

-- ---- records

pub conflict_exactly_when : (a b : Reservation) → (conflict_test a b ≡ true) ↔ Conflict a b
unfolding conflict_test
conflict_exactly_when a b = (finds, tests)
  where
    finds : conflict_test a b ≡ true → Conflict a b
    finds t =
        let k = and_true (minutes_meet a.start a.end b.start b.end) _ t in
        let l = and_true (squares_meet a.space.cell b.space.cell) _ k.1 in
        let s = (squares_exactly_when a.space.cell b.space.cell).0 l.0 in
        record {
          minute = max a.start b.start;
          minutes = minutes_shared a b k.0;
          layers = layers_shared a b l.1;
          square = s.0;
          squares = (s.1, s.2);
        }

    tests : Conflict a b → conflict_test a b ≡ true
    tests c =
        rw (
          minutes_meet_law a b c.minute c.minutes.0 c.minutes.1,
          (squares_exactly_when a.space.cell b.space.cell).1 (c.square, c.squares.0, c.squares.1),
          layers_meet_law a b c.layers,
        ) refl

-- document 02's sentence: they share a unit cube and a minute
pub conflict_shares : (a b : Reservation) → Conflict a b ↔ ((s : Cube) × (NamesCube a s × NamesCube b s) × ((m : ℕ) × NamesMinute a m × NamesMinute b m))
conflict_shares a b = (
  λ c. ((c.square, c.layers.layer), (record { plan = c.squares.0; high = c.layers.named.0 }, record { plan = c.squares.1; high = c.layers.named.1 }), (c.minute, c.minutes.0, c.minutes.1)),
  λ s. record {
    minute = s.2.0;
    minutes = (s.2.1, s.2.2);
    layers = record { layer = s.0.1; named = (s.1.0.high, s.1.1.high) };
    square = s.0.0;
    squares = (s.1.0.plan, s.1.1.plan);
  },
)

-- neither comes first
pub conflict_turned : (a b : Reservation) → Conflict a b → Conflict b a
conflict_turned a b c =
    record {
      minute = c.minute;
      minutes = (c.minutes.1, c.minutes.0);
      layers = record { layer = c.layers.layer; named = (c.layers.named.1, c.layers.named.0) };
      square = c.square;
      squares = (c.squares.1, c.squares.0);
    }
