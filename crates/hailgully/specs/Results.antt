-- The C interface's structs, as a call's answer fills them: on a refusal every other field is 0, on success the refusal's three numbers are.
-- Assumes nothing.
use Rattle.std.specs.Prelude.{◌≡◌, List, ℕ, ◌+◌, pos, take, drop}
use Rattle.grid.specs.declared.Refusal.{Refusal}
use Rattle.grid.specs.declared.Cell.{Cell}
use Rattle.grid.specs.declared.SpaceCell.{SpaceCell}
use Rattle.grid.specs.Answers.{Answer, accepted, refused}
use Rattle.arcseconds.specs.declared.Units.{Units}
use Rattle.arcseconds.specs.declared.ArcBox.{ArcBox}
use Rattle.arcseconds.specs.Boxes.{Exactly}
use Rattle.places.specs.declared.Spot.{Spot}
use Rattle.hailgully.specs.declared.HgRefusal.{HgRefusal}
use Rattle.hailgully.specs.declared.HgWritten.{HgWritten}
use Rattle.hailgully.specs.declared.HgPlaneCell.{HgPlaneCell}
use Rattle.hailgully.specs.declared.HgSpaceCell.{HgSpaceCell}
use Rattle.hailgully.specs.declared.HgUnits.{HgUnits}
use Rattle.hailgully.specs.declared.HgBox.{HgBox}
use Rattle.hailgully.specs.declared.HgBooked.{HgBooked}
use Rattle.hailgully.specs.declared.HgPart.{HgPart}

-- no refusal: all zeros
abbrev pub no_refusal : HgRefusal
no_refusal = record { number = 0; ordinal = 0; place = 0 }

-- a refusal's three numbers
abbrev pub refusal_of : Refusal → HgRefusal
refusal_of r = record { number = r.number; ordinal = r.ordinal; place = r.place }

-- a writer's answer
unfoldable pub written_of : Answer ℕ → HgWritten
written_of (accepted n) = record { refusal = no_refusal; length = n }
written_of (refused r) = record { refusal = refusal_of r; length = 0 }

-- an answer of the book
unfoldable pub booked_for : Answer ℕ → HgBooked
booked_for (accepted k) = record { refusal = no_refusal; at = k }
booked_for (refused r) = record { refusal = refusal_of r; at = 0 }

-- a plane reader's answer
unfoldable pub plane_cell_of : Answer Cell → HgPlaneCell
plane_cell_of (accepted c) =
    record { refusal = no_refusal; level = c.level; west = c.west; south = c.south; width = c.width; height = c.height }
plane_cell_of (refused r) = record { refusal = refusal_of r; level = 0; west = pos 0; south = pos 0; width = 0; height = 0 }

-- a space reader's answer
unfoldable pub space_cell_for : Answer SpaceCell → HgSpaceCell
space_cell_for (accepted c) =
    record {
      refusal = no_refusal;
      level = c.cell.level;
      west = c.cell.west;
      south = c.cell.south;
      width = c.cell.width;
      height = c.cell.height;
      floor = c.floor;
      thickness = c.thickness;
    }
space_cell_for (refused r) =
    record { refusal = refusal_of r; level = 0; west = pos 0; south = pos 0; width = 0; height = 0; floor = pos 0; thickness = 0 }

-- a reading's answer
unfoldable pub units_for : Answer Units → HgUnits
units_for (accepted u) = record { refusal = no_refusal; longitude = u.longitude; latitude = u.latitude }
units_for (refused r) = record { refusal = refusal_of r; longitude = pos 0; latitude = pos 0 }

-- where an entry of a place book stands
unfoldable pub part_for : Answer Spot → HgPart
part_for (accepted p) = record { refusal = no_refusal; start = p.start; name = p.name; code = p.code }
part_for (refused r) = record { refusal = refusal_of r; start = 0; name = 0; code = 0 }

-- the bytes of a place book that a part's numbers name
abbrev pub part_bytes : HgPart → List ℕ → List ℕ
part_bytes p s = take (p.name + p.code) (drop p.start s)

-- a refusal and a box side by side
abbrev pub box_with : HgRefusal → ArcBox → HgBox
box_with q b = record { refusal = q; west = b.west; south = b.south; width = b.width; height = b.height }

-- all zeros: what stands for the cell on a refusal
abbrev pub zero_cell : Cell
zero_cell = record { level = 0; west = pos 0; south = pos 0; width = 0; height = 0 }

-- the refusal, and the four numbers of a cell's box, each exact
pub record BoxIs (q : HgRefusal) (c : Cell) (b : HgBox) : Type 0 where
  pub refusal_is : b.refusal ≡ q
  pub west_is : Exactly c.west b.west
  pub south_is : Exactly c.south b.south
  pub width_is : Exactly (pos c.width) b.width
  pub height_is : Exactly (pos c.height) b.height

-- the box of what a code reads as
unfoldable pub BoxFor : Answer Cell → HgBox → Type 0
BoxFor (accepted c) b = BoxIs no_refusal c b
BoxFor (refused r) b = BoxIs (refusal_of r) zero_cell b
