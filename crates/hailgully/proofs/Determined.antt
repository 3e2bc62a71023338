-- Two results that one contract allows are equal: for each public call of the library, and for its C form. Each contract stands here as it does in the code.
-- Assumes nothing.
use mathlib.Core.Path.{◌≡◌, refl, sym, ap, ◌∙◌}
use mathlib.Core.List.{List}
use Prim.Native.Nat.{ℕ}
use lib.IntN.{ℤ}
use lib.Ieee.{Float}
use Rattle.std.specs.Prelude.{Result, Ok, Err}
use Rattle.grid.specs.declared.Cell.{Cell}
use Rattle.grid.specs.declared.Refusal.{Refusal}
use Rattle.grid.specs.declared.SpaceCell.{SpaceCell}
use Rattle.grid.specs.Answers.{Answer, accepted, refused, answer_of}
use Rattle.grid.specs.Laying.{laid}
use Rattle.grid.specs.Plane.{cell_of}
use Rattle.grid.specs.Space.{space_cell_in}
use Rattle.grid.proofs.Answers.{accepted_inj}
use Rattle.grid.proofs.Cut.{clash}
use Rattle.grid.proofs.Laying.{laid_one, answer_one}
use Rattle.plane.specs.Text.{plane_text}
use Rattle.space.specs.Space.{space_text}
use Rattle.reference.specs.Text.{reference_text, target_text}
use Rattle.arcseconds.specs.declared.Units.{Units}
use Rattle.arcseconds.specs.Readings.{units_of}
use Rattle.arcseconds.specs.Boxes.{BoxSays}
use Rattle.arcseconds.proofs.Exact.{one_exactly}
use Rattle.arcseconds.proofs.Theorems as arc
use Rattle.reservations.specs.declared.Reservation.{Reservation}
use Rattle.book.specs.declared.Done.{Done}
use Rattle.book.specs.Asking.{Ask, plane_record, ground_record, space_record, to_add, to_release}
use Rattle.book.specs.Book.{carried, used_in, booked, used_by}
use Rattle.places.specs.declared.NotFound.{NotFound}
use Rattle.places.specs.declared.NotFound.TheVariants as why_as
use Rattle.places.specs.declared.Spot.{Spot}
use Rattle.places.specs.Finding.{place_refusal, place_found, found_in, part_in}
use Rattle.places.proofs.Finding.{missing_not_badly}
use Rattle.short_codes.specs.Text.{short_text}
use Rattle.hailgully.specs.declared.HgBooked.{HgBooked}
use Rattle.hailgully.specs.declared.HgPart.{HgPart}
use Rattle.hailgully.specs.declared.HgPlaneCell.{HgPlaneCell}
use Rattle.hailgully.specs.declared.HgRefusal.{HgRefusal}
use Rattle.hailgully.specs.declared.HgSpaceCell.{HgSpaceCell}
use Rattle.hailgully.specs.declared.HgUnits.{HgUnits}
use Rattle.hailgully.specs.declared.HgWritten.{HgWritten}
use Rattle.hailgully.specs.Results.{written_of, plane_cell_of, space_cell_for, units_for, booked_for, part_for, BoxIs, BoxFor}
use Rattle.hailgully.specs.Determined.{Determined}

-- ---- the library's calls

-- a writer that lays the text t down
written_one : (t : Answer (List ℕ)) (line : List ℕ) (at : ℕ) → Determined (λ (r : Result ℕ Refusal × List ℕ). (answer_of r.0, r.1) ≡ laid t line at)
written_one t line at a b e f = let w = laid_one t line at a.0 b.0 a.1 b.1 e f in λ j. (w.0 j, w.1 j)

pub plane_write : (level longitude latitude : ℤ) (line : List ℕ) (at : ℕ)
    → Determined (λ (r : Result ℕ Refusal × List ℕ). (answer_of r.0, r.1) ≡ laid (plane_text level longitude latitude) line at)
plane_write level longitude latitude line at = written_one (plane_text level longitude latitude) line at

pub plane_read_law : (code : List ℕ) → Determined (λ (r : Result Cell Refusal). answer_of r ≡ cell_of code)
plane_read_law code a b e f = answer_one a b (e ∙ sym f)

pub space_write : (edition level longitude latitude layer : ℤ) (line : List ℕ) (at : ℕ)
    → Determined (λ (r : Result ℕ Refusal × List ℕ). (answer_of r.0, r.1) ≡ laid (space_text edition level longitude latitude layer) line at)
space_write edition level longitude latitude layer line at = written_one (space_text edition level longitude latitude layer) line at

pub space_read_law : (edition : ℤ) (code : List ℕ) → Determined (λ (r : Result SpaceCell Refusal). answer_of r ≡ space_cell_in edition code)
space_read_law edition code a b e f = answer_one a b (e ∙ sym f)

pub reference_write : (base target line : List ℕ) (at : ℕ)
    → Determined (λ (r : Result ℕ Refusal × List ℕ). (answer_of r.0, r.1) ≡ laid (reference_text base target) line at)
reference_write base target line at = written_one (reference_text base target) line at

pub reference_read : (code line : List ℕ) (at : ℕ)
    → Determined (λ (r : Result ℕ Refusal × List ℕ). (answer_of r.0, r.1) ≡ laid (target_text code) line at)
reference_read code line at = written_one (target_text code) line at

pub arcseconds_read : (longitude latitude : Float) → Determined (λ (r : Result Units Refusal). answer_of r ≡ units_of longitude latitude)
arcseconds_read longitude latitude a b e f = arc.one_units_read longitude latitude a b e f

-- the f64 results too
pub plane_box : (code : List ℕ) → Determined (BoxSays (cell_of code))
plane_box code a b e f = arc.one_box_read (cell_of code) a b e f

booked_one : (a b : Result Done Refusal) → booked a ≡ booked b → used_by a ≡ used_by b → a ≡ b
booked_one (Ok d) (Ok e) f g = λ j. Ok (record { at = accepted_inj f j; used = g j })
booked_one (Ok d) (Err r) f g = clash (cc)
booked_one (Err r) (Ok d) f g = clash (cc)
booked_one (Err r) (Err q) f g = cc

-- the answer, the record used, and every record of the book
pub book_run : (q : Ask) (book : List Reservation)
    → Determined (λ (r : Result Done Refusal × List Reservation). (booked r.0 ≡ (carried q book).0) × (used_by r.0 ≡ used_in (carried q book)) × (r.1 ≡ (carried q book).1))
book_run q book a b e f = λ j. (booked_one a.0 b.0 (e.0 ∙ sym f.0) (e.1 ∙ sym f.1) j, (e.2 ∙ sym f.2) j)

why_one : (a b : NotFound) → ◌≡◌ {A = Answer Spot} (refused (place_refusal a)) (refused (place_refusal b)) → a ≡ b
why_one why_as.BadlyFormed why_as.BadlyFormed e = refl
why_one why_as.BadlyFormed why_as.NotInBook e = absurd (missing_not_badly (sym e))
why_one why_as.NotInBook why_as.BadlyFormed e = absurd (missing_not_badly e)
why_one why_as.NotInBook why_as.NotInBook e = refl

found_one : (a b : Result Spot NotFound) → place_found a ≡ place_found b → a ≡ b
found_one (Ok p) (Ok q) e = cc
found_one (Ok p) (Err b) e = clash (cc)
found_one (Err a) (Ok q) e = clash (cc)
found_one (Err a) (Err b) e = ap Err (why_one a b e)

pub places_find : (name places : List ℕ) → Determined (λ (r : Result Spot NotFound). place_found r ≡ found_in name places)
places_find name places a b e f = found_one a b (e ∙ sym f)

-- an equation of the result
equal : {A : Type 0} {x : A} → Determined (λ (r : A). r ≡ x)
equal a b e f = e ∙ sym f

-- the bytes of the part
pub places_part : (name places : List ℕ) → Determined (λ (r : List ℕ). r ≡ part_in name places)
places_part name places = equal

pub short_read : (code places line : List ℕ) (at : ℕ)
    → Determined (λ (r : Result ℕ Refusal × List ℕ). (answer_of r.0, r.1) ≡ laid (short_text code places) line at)
short_read code places line at = written_one (short_text code places) line at

-- ---- their C forms

-- a writer that lays the text t down
hg_written_one : (t : Answer (List ℕ)) (line : List ℕ) (at : ℕ)
    → Determined (λ (r : HgWritten × List ℕ). (r.0 ≡ written_of (laid t line at).0) × (r.1 ≡ (laid t line at).1))
hg_written_one t line at a b e f = λ j. (equal a.0 b.0 e.0 f.0 j, equal a.1 b.1 e.1 f.1 j)

pub hg_plane_write : (level longitude latitude : ℤ) (line : List ℕ) (at : ℕ)
    → Determined (λ (r : HgWritten × List ℕ). (r.0 ≡ written_of (laid (plane_text level longitude latitude) line at).0) × (r.1 ≡ (laid (plane_text level longitude latitude) line at).1))
hg_plane_write level longitude latitude line at = hg_written_one (plane_text level longitude latitude) line at

pub hg_plane_read : (code : List ℕ) → Determined (λ (r : HgPlaneCell). r ≡ plane_cell_of (cell_of code))
hg_plane_read code = equal

pub hg_space_write : (edition level longitude latitude layer : ℤ) (line : List ℕ) (at : ℕ)
    → Determined (λ (r : HgWritten × List ℕ). (r.0 ≡ written_of (laid (space_text edition level longitude latitude layer) line at).0) × (r.1 ≡ (laid (space_text edition level longitude latitude layer) line at).1))
hg_space_write edition level longitude latitude layer line at = hg_written_one (space_text edition level longitude latitude layer) line at

pub hg_space_read : (edition : ℤ) (code : List ℕ) → Determined (λ (r : HgSpaceCell). r ≡ space_cell_for (space_cell_in edition code))
hg_space_read edition code = equal

pub hg_reference_write : (base target line : List ℕ) (at : ℕ)
    → Determined (λ (r : HgWritten × List ℕ). (r.0 ≡ written_of (laid (reference_text base target) line at).0) × (r.1 ≡ (laid (reference_text base target) line at).1))
hg_reference_write base target line at = hg_written_one (reference_text base target) line at

pub hg_reference_read : (code line : List ℕ) (at : ℕ)
    → Determined (λ (r : HgWritten × List ℕ). (r.0 ≡ written_of (laid (target_text code) line at).0) × (r.1 ≡ (laid (target_text code) line at).1))
hg_reference_read code line at = hg_written_one (target_text code) line at

pub hg_arcseconds : (longitude latitude : Float) → Determined (λ (r : HgUnits). r ≡ units_for (units_of longitude latitude))
hg_arcseconds longitude latitude = equal

one_box_is : {q : HgRefusal} {c : Cell} → Determined (BoxIs q c)
one_box_is a b e f =
    λ j. record {
      refusal = (e.refusal_is ∙ sym f.refusal_is) j;
      west = one_exactly _ _ _ e.west_is f.west_is j;
      south = one_exactly _ _ _ e.south_is f.south_is j;
      width = one_exactly _ _ _ e.width_is f.width_is j;
      height = one_exactly _ _ _ e.height_is f.height_is j;
    }

pub hg_plane_box : (code : List ℕ) → Determined (BoxFor (cell_of code))
unfolding BoxFor
hg_plane_box code = go (cell_of code)
  where
    go : (answer : Answer Cell) → Determined (BoxFor answer)
    go (accepted c) = one_box_is
    go (refused r) = one_box_is

-- what is asked of a book, carried out
hg_booked_one : (q : Ask) (book : List Reservation) → Determined (λ (r : HgBooked × List Reservation). (r.0 ≡ booked_for (carried q book).0) × (r.1 ≡ (carried q book).1))
hg_booked_one q book a b e f = λ j. (equal a.0 b.0 e.0 f.0 j, equal a.1 b.1 e.1 f.1 j)

pub hg_book_add_plane : (code : List ℕ) (flight start end : ℕ) (book : List Reservation)
    → Determined (λ (r : HgBooked × List Reservation). (r.0 ≡ booked_for (carried (to_add (plane_record code flight start end)) book).0) × (r.1 ≡ (carried (to_add (plane_record code flight start end)) book).1))
hg_book_add_plane code flight start end book = hg_booked_one (to_add (plane_record code flight start end)) book

pub hg_book_add_ground : (code : List ℕ) (flight start end : ℕ) (book : List Reservation)
    → Determined (λ (r : HgBooked × List Reservation). (r.0 ≡ booked_for (carried (to_add (ground_record code flight start end)) book).0) × (r.1 ≡ (carried (to_add (ground_record code flight start end)) book).1))
hg_book_add_ground code flight start end book = hg_booked_one (to_add (ground_record code flight start end)) book

pub hg_book_add_space : (code : List ℕ) (flight start end : ℕ) (book : List Reservation)
    → Determined (λ (r : HgBooked × List Reservation). (r.0 ≡ booked_for (carried (to_add (space_record code flight start end)) book).0) × (r.1 ≡ (carried (to_add (space_record code flight start end)) book).1))
hg_book_add_space code flight start end book = hg_booked_one (to_add (space_record code flight start end)) book

pub hg_book_release : (flight : ℕ) (book : List Reservation)
    → Determined (λ (r : HgBooked × List Reservation). (r.0 ≡ booked_for (carried (to_release flight) book).0) × (r.1 ≡ (carried (to_release flight) book).1))
hg_book_release flight book = hg_booked_one (to_release flight) book

pub hg_place_find : (name places : List ℕ) → Determined (λ (r : HgRefusal). r ≡ (part_for (found_in name places)).refusal)
hg_place_find name places = equal

pub hg_place_part : (name places : List ℕ) → Determined (λ (r : HgPart). r ≡ part_for (found_in name places))
hg_place_part name places = equal

pub hg_short_read : (code places line : List ℕ) (at : ℕ)
    → Determined (λ (r : HgWritten × List ℕ). (r.0 ≡ written_of (laid (short_text code places) line at).0) × (r.1 ≡ (laid (short_text code places) line at).1))
hg_short_read code places line at = hg_written_one (short_text code places) line at
