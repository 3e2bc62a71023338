-- What the contracts of this crate come to (document 01, "Arc-seconds"): the floor's meaning, which refusal is given when,
-- that the box reads back, and that each contract allows one result.
-- Assumes nothing.
use mathlib.Core.Path.{◌≡◌, refl, sym, ap, ap₂, ◌∙◌, subst}
use mathlib.Core.Bool.{Bool}
use mathlib.Core.List.{List}
use mathlib.Core.Logic.{◌↔◌}
use Prim.Native.Nat.{ℕ, ◌*◌, ◌≤◌}
use lib.IntN.{ℤ, pos, negsuc, nat_abs}
use lib.Ieee.{Float, fin, binary64, up, down, is_nan, of_bits}
use lib.Ieee.Fits.{down_pos}
use Rattle.std.specs.Prelude.{Result, Ok, Err}
use Rattle.grid.specs.declared.Refusal.{Refusal}
use Rattle.grid.specs.Answers.{answer_of}
use Rattle.grid.specs.declared.Cell.{Cell}
use Rattle.grid.specs.Units.{HALF, QUARTER}
use Rattle.grid.specs.Answers.{Answer, accepted, refused, refusal}
use Rattle.grid.specs.Plane.{cell_of}
use Rattle.grid.proofs.Cut.{clash}
use Rattle.grid.proofs.Ends.{size_below}
use Rattle.grid.proofs.Ranges.{plane_in_ranges}
use Rattle.arcseconds.specs.declared.Units.{Units}
use Rattle.arcseconds.specs.declared.ArcBox.{ArcBox}
use Rattle.arcseconds.specs.Readings.{greatest_whole, reading_of, units, units_at, units_of, Floors, Why}
use Rattle.arcseconds.specs.Boxes.{SecondsOf, BoxOf, BoxSays}
use Rattle.arcseconds.proofs.Whole.{whole_is}
use Rattle.arcseconds.proofs.Exact.{one_exactly}
use Rattle.arcseconds.proofs.Meaning.{both_whole, why, so, seconds_whole}

-- ---- the floor

-- each finite reading has whole units that are the greatest not above it; they are the only ones (`one_floor` in Whole.antt)
pub a_floor : (s : Bool) (m : ℕ) (e : ℤ) → (u : ℤ) × Floors (fin s m e) u
unfolding Floors
a_floor s m e = (greatest_whole s (2048 * (m * up e)) (down e), whole_is s (2048 * (m * up e)) (down e) (down_pos e))

-- ---- what is answered when

-- a position or a refusal is answered exactly when its reason holds
pub answered_exactly_when : (x y : Float) (a : Answer Units) → (units_of x y ≡ a) ↔ Why x y a
answered_exactly_when x y a = (λ h. subst (Why x y) h (why x y), so x y a)

-- ---- the box reads back

-- exact arc-seconds of a number in its range read as that number, the ends 648,000 and 324,000 too
pub units_back : (u v : ℤ) (x y : Float) → nat_abs u ≤ HALF → nat_abs v ≤ QUARTER → SecondsOf u x → SecondsOf v y → units_of x y ≡ accepted (units u v)
units_back u v x y a b p q = both_whole x y u v (seconds_whole 2 HALF u x a p) (seconds_whole 3 QUARTER v y b q)

-- a box that a plane code gets has the west and south of the code's cell, which read back as the same units
pub box_back : (w : List ℕ) (b : ArcBox) → BoxSays (cell_of w) (Ok b) → (c : Cell) × (cell_of w ≡ accepted c) × (units_of b.west b.south ≡ accepted (units c.west c.south))
unfolding BoxSays
box_back w b h = go (cell_of w) refl h
  where
    go : (a : Answer Cell) → cell_of w ≡ a → BoxSays a (Ok b) → (c : Cell) × (cell_of w ≡ accepted c) × (units_of b.west b.south ≡ accepted (units c.west c.south))
    go (accepted c) e v =
        let i = plane_in_ranges w c e in
        (c, e, units_back c.west c.south b.west b.south (size_below HALF c.west i.west_in) (size_below QUARTER c.south i.rows_in.begins_in) v.west_is.value v.south_is.value)
    go (refused r) e v = absurd v

-- ---- each contract allows one result

pub one_units_read : (x y : Float) (a b : Result Units Refusal) → answer_of a ≡ units_of x y → answer_of b ≡ units_of x y → a ≡ b
one_units_read x y a b p q = same a b (p ∙ sym q)
  where
    same : (a b : Result Units Refusal) → answer_of a ≡ answer_of b → a ≡ b
    same (Ok u) (Ok v) h = cc
    same (Ok u) (Err r) h = clash (cc)
    same (Err r) (Ok u) h = clash (cc)
    same (Err r) (Err s) h = cc

pub one_box : (c : Cell) (a b : ArcBox) → BoxOf c a → BoxOf c b → a ≡ b
one_box c a b p q =
    ap₂ (λ (w s : Float). box w s a.width a.height) (one_exactly _ _ _ p.west_is q.west_is) (one_exactly _ _ _ p.south_is q.south_is)
    ∙ ap₂ (λ (w h : Float). box b.west b.south w h) (one_exactly _ _ _ p.width_is q.width_is) (one_exactly _ _ _ p.height_is q.height_is)
  where
    box : Float → Float → Float → Float → ArcBox
    box w s x y = record { west = w; south = s; width = x; height = y }

pub one_box_read : (r : Answer Cell) (a b : Result ArcBox Refusal) → BoxSays r a → BoxSays r b → a ≡ b
unfolding BoxSays
one_box_read (accepted c) (Ok a) (Ok b) p q = ap Ok (one_box c a b p q)
one_box_read (accepted c) (Ok a) (Err s) p q = absurd q
one_box_read (accepted c) (Err r) b p q = absurd p
one_box_read (refused r) (Ok a) b p q = absurd p
one_box_read (refused r) (Err s) (Ok b) p q = absurd q
one_box_read (refused r) (Err s) (Err t) p q = ap Err (p ∙ sym q)

-- ---- worked cases, by computing: bit patterns of f64

-- minus zero is 0; -1/2048 is -1, and so is every smaller one below 0, down to the least
pub minus_zero : units_of (of_bits binary64 0x8000_0000_0000_0000) (of_bits binary64 0) ≡ accepted (units (pos 0) (pos 0))
unfolding units_of reading_of units_at of_bits is_nan
minus_zero = refl

pub one_below : units_of (of_bits binary64 0xbf40_0000_0000_0000) (of_bits binary64 0x8000_0000_0000_0001) ≡ accepted (units (negsuc 0) (negsuc 0))
unfolding units_of reading_of units_at of_bits is_nan
one_below = refl

-- -648000 and -324000 are the least numbers, 648000 and 324000 the greatest
pub least_corner : units_of (of_bits binary64 0xc123_c680_0000_0000) (of_bits binary64 0xc113_c680_0000_0000) ≡ accepted (units (negsuc 1327103999) (negsuc 663551999))
unfolding units_of reading_of units_at of_bits is_nan
least_corner = refl

pub greatest_corner : units_of (of_bits binary64 0x4123_c680_0000_0000) (of_bits binary64 0x4113_c680_0000_0000) ≡ accepted (units (pos 1327104000) (pos 663552000))
unfolding units_of reading_of units_at of_bits is_nan
greatest_corner = refl

-- the f64 next above 648000 and next above 324000 are outside, though the greatest whole units not above them are these numbers
pub above_longitude : units_of (of_bits binary64 0x4123_c680_0000_0001) (of_bits binary64 0x4113_c680_0000_0001) ≡ refused (refusal 2 0)
unfolding units_of reading_of units_at of_bits is_nan
above_longitude = refl

pub above_latitude : units_of (of_bits binary64 0x4123_c680_0000_0000) (of_bits binary64 0x4113_c680_0000_0001) ≡ refused (refusal 3 0)
unfolding units_of reading_of units_at of_bits is_nan
above_latitude = refl

-- and so are those next below -648000 and -324000
pub below_longitude : units_of (of_bits binary64 0xc123_c680_0000_0001) (of_bits binary64 0xc113_c680_0000_0001) ≡ refused (refusal 2 0)
unfolding units_of reading_of units_at of_bits is_nan
below_longitude = refl

pub below_latitude : units_of (of_bits binary64 0xc123_c680_0000_0000) (of_bits binary64 0xc113_c680_0000_0001) ≡ refused (refusal 3 0)
unfolding units_of reading_of units_at of_bits is_nan
below_latitude = refl

-- an infinite longitude gets 2, and 11 goes before it
pub infinite : units_of (of_bits binary64 0xfff0_0000_0000_0000) (of_bits binary64 0) ≡ refused (refusal 2 0)
unfolding units_of reading_of units_at of_bits is_nan
infinite = refl

pub eleven_first : units_of (of_bits binary64 0x7ff0_0000_0000_0000) (of_bits binary64 0x7ff8_0000_0000_0000) ≡ refused (refusal 11 0)
unfolding units_of reading_of units_at of_bits is_nan
eleven_first = refl
