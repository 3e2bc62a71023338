-- What a record that a call would add says, why a call has none to add, and what releasing makes of a record.
-- Assumes nothing.
use Rattle.std.specs.Prelude.{◌≡◌, ◌↔◌, ℕ, ◌≤◌, ◌<◌, ℤ, pos, neg_ℤ, ◌≤ℤ◌}
use Rattle.grid.specs.declared.Cell.{Cell}
use Rattle.grid.specs.declared.Refusal.{Refusal}
use Rattle.grid.specs.Units.{Cube}
use Rattle.grid.specs.Answers.{Answer, accepted, refused, refusal}
use Rattle.grid.specs.Cells.{Covers}
use Rattle.reservations.specs.declared.Reservation.{Reservation}
use Rattle.reservations.specs.Naming.{NamesCube, NamesMinute}

-- a live record of the flight that names exactly these cubes, and the minutes from start to end, the end not included
pub record Reserves (flight start end : ℕ) (cubes : Cube → Type 0) (a : Reservation) : Type 0 where
  pub alive : a.live ≡ 1
  pub flown : a.flight ≡ flight
  pub names : (s : Cube) → NamesCube a s ↔ cubes s
  pub minutes : (m : ℕ) → NamesMinute a m ↔ ((start ≤ m) × (m < end))

-- the cubes over the squares of a cell, in the layers from the lowest to the highest, both included
pub record InColumn (lowest highest : ℤ) (c : Cell) (s : Cube) : Type 0 where
  pub square : Covers c s.0
  pub not_below : lowest ≤ℤ s.1
  pub not_above : s.1 ≤ℤ highest

-- the cubes of a plane code: layers -1,887,436,800 to 1,887,436,799
abbrev pub InPlane : Cell → Cube → Type 0
InPlane c s = InColumn (neg_ℤ (pos 1887436800)) (pos 1887436799) c s

-- the cubes of a plane code in the ground call: layers 0 to 1,887,436,799
abbrev pub InGround : Cell → Cube → Type 0
InGround c s = InColumn (pos 0) (pos 1887436799) c s

-- why there is no record to add: the code's own refusal, else 14
pub data WhyNone {C : Type 0} (read : Answer C) (start end : ℕ) : Refusal → Type 0 where
  -- 6, 7 or 20: the code is refused
  no_code : (r : Refusal) → read ≡ refused r → WhyNone read start end r
  -- 14: the start is not before the end
  no_minutes : (c : C) → read ≡ accepted c → end ≤ start → WhyNone read start end (refusal 14 0)

-- the record with its live mark off, and all else as it was
pub record TurnedOff (before after : Reservation) : Type 0 where
  pub dead : after.live ≡ 0
  pub flight_same : after.flight ≡ before.flight
  pub cell_same : after.space ≡ before.space
  pub start_same : after.start ≡ before.start
  pub end_same : after.end ≡ before.end
