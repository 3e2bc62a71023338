-- What a call asks of the book: the record that it would add, with every refusal decided that the book has no part in; or the flight to release.
-- Assumes nothing.
use Rattle.std.specs.Prelude.{List, ℕ, ltb, ℤ, pos, Result, Ok, Err}
use Rattle.grid.specs.declared.Cell.{Cell}
use Rattle.grid.specs.declared.SpaceCell.{SpaceCell}
use Rattle.grid.specs.declared.Refusal.{Refusal}
use Rattle.grid.specs.Answers.{Answer, accepted, refused, refusal, unless, and_then}
use Rattle.grid.specs.Layers.{ours, product, all, floor_of, thickness_of}
use Rattle.grid.specs.Plane.{cell_of}
use Rattle.grid.specs.Space.{space_cell_of}
use Rattle.reservations.specs.declared.Reservation.{Reservation}
use Rattle.book.specs.declared.Task.{Task}
use Rattle.book.specs.declared.Task.TheVariants.{Add, Release}

-- what a call asks of the book: the task, or the refusal that it has already
abbrev pub Ask : Type 0
Ask = Result Task Refusal

-- a record of flight 0 that is not live and names nothing: what stands where there is no record
abbrev pub blank : Reservation
blank = record {
  live = 0;
  flight = 0;
  space = record { cell = record { level = 0; west = pos 0; south = pos 0; width = 0; height = 0 }; floor = pos 0; thickness = 0 };
  start = 0;
  end = 0;
}

-- a cell over so many layers from a floor on
abbrev pub over : ℤ → ℕ → Cell → SpaceCell
over floor n c = record { cell = c; floor = floor; thickness = n }

-- a plane code's cell over the layers that it stands for: all of edition 1, -1,887,436,800 to 1,887,436,799
abbrev pub column : Cell → SpaceCell
column c = over (floor_of (product ours) all) (thickness_of (product ours) all) c

-- what it stands for in the ground call: those from the ground up, 0 to 1,887,436,799
abbrev pub ground_column : Cell → SpaceCell
ground_column c = over (pos 0) (product ours) c

-- 14 where the start is not before the end, else a live record of the flight, the space cell and the minutes
abbrev pub reserved : ℕ → ℕ → ℕ → SpaceCell → Answer Reservation
reserved flight start end s =
    unless (ltb start end) (refusal 14 0) (accepted (record { live = 1; flight = flight; space = s; start = start; end = end }))

-- by plane code: 6, 7 or 20, 14, else the record of its cell over its layers
unfoldable pub plane_record : List ℕ → ℕ → ℕ → ℕ → Answer Reservation
plane_record code flight start end = and_then (cell_of code) (λ c. reserved flight start end (column c))

-- by plane code from the ground up: the same of those layers
unfoldable pub ground_record : List ℕ → ℕ → ℕ → ℕ → Answer Reservation
ground_record code flight start end = and_then (cell_of code) (λ c. reserved flight start end (ground_column c))

-- by space code of edition 1: 6, 7 or 20, 14, else the record of its space cell
unfoldable pub space_record : List ℕ → ℕ → ℕ → ℕ → Answer Reservation
space_record code flight start end = and_then (space_cell_of ours code) (λ s. reserved flight start end s)

-- a record to add; or nothing, being refused already
abbrev pub to_add : Answer Reservation → Ask
to_add (accepted a) = Ok (Add a)
to_add (refused r) = Err r

-- a flight to release
abbrev pub to_release : ℕ → Ask
to_release flight = Ok (Release flight)
