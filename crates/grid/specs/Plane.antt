-- The plane codes of levels 1 to 10: how a cell is divided, how its children are written, and what a cell is to a caller.
-- Assumes nothing.
use Rattle.std.specs.Prelude.{ℕ, zero, suc, ◌+◌, ◌-◌, ◌*◌, ◌/◌, ◌%◌, min, Bool, true, false, cond, not, ◌&&◌, ◌||◌, List, [], ◌∷◌, ℤ, pos, negsuc, ◌==◌, nat_le, nat_lt}
use Rattle.grid.specs.declared.Split.{Split}
use Rattle.grid.specs.declared.Cell.{Cell}
use Rattle.grid.specs.Units.{DEGREE, TURN, HALF, QUARTER, POLAR, side, index, eastward, from_pole, Square}
use Rattle.grid.specs.Tree.{Tree, Read, ok, bad, guard}
use Rattle.grid.specs.Answers.{Answer}
use Rattle.grid.specs.Codes.{Codes, code_in, read_in}
use Rattle.grid.specs.Splits.{first, second, splits, plane_lengths, polar_cell_at}

-- ---- cells, seen from where their columns and rows count

-- a quarter of the globe, outward from the prime meridian and the equator; or the disc about a pole, eastward and from the pole.
-- The first Bool says north, the second east
pub data Frame : Type 0 where
  ordinary : Bool → Bool → Frame
  belt : Bool → Bool → Frame
  disc : Bool → Frame

-- where a square stands in a frame
abbrev pub x_in : Frame → Square → ℕ
x_in (ordinary n e) s = index s.longitude
x_in (belt n e) s = index s.longitude
x_in (disc n) s = eastward s.longitude

-- northward or southward from the equator, or from the pole
abbrev pub y_in : Frame → Square → ℕ
y_in (ordinary n e) s = index s.latitude
y_in (belt n e) s = index s.latitude
y_in (disc n) s = from_pole s.latitude

-- from x on w wide, from y on h high
pub record Box : Type 0 where
  pub x : ℕ
  pub w : ℕ
  pub y : ℕ
  pub h : ℕ

-- the whole globe; N000 or S000; a cell that is no cap; a cap so many units about a pole
pub data Node : Type 0 where
  globe : Node
  pole : Bool → Node
  cell : Frame → Box → Node
  cap : Bool → ℕ → Node

-- ---- one division

-- two characters are column, then row; one is 2·row + column; in a cap of three columns it is row + column
pub data Form : Type 0 where
  pair quad trio : Form

-- the form of a level, by how many characters and columns it has
abbrev pub form_of : ℕ → ℕ → Form
form_of characters columns = cond (characters == 2) pair (cond (columns == 2) quad trio)

-- into how many columns and rows, and how large each child is
pub record Part : Type 0 where
  pub columns : ℕ
  pub rows : ℕ
  pub width : ℕ
  pub height : ℕ
  pub form : Form

-- of an ordinary cell: all from the table
abbrev pub plain_part : Split → Part
plain_part t =
    record { columns = t.columns; rows = t.rows; width = t.width; height = t.height; form = form_of t.characters t.columns }

-- of a belt or disc cell w wide and h high
abbrev pub polar_part : Split → ℕ → ℕ → Part
polar_part t w h =
    record {
      columns = t.columns;
      rows = t.inward;
      width = w / t.columns;
      height = h / t.inward;
      form = form_of t.characters t.columns;
    }

-- of a cap h high: the columns go round the pole
abbrev pub cap_part : Split → ℕ → Part
cap_part t h =
    record {
      columns = t.ring;
      rows = t.inward;
      width = TURN / t.ring;
      height = h / t.inward;
      form = form_of t.characters t.ring;
    }

-- a belt or disc cell, and no ordinary one
abbrev pub near_pole : Frame → Bool
near_pole (ordinary n e) = false
near_pole (belt n e) = true
near_pole (disc n) = true

-- of a cell w wide and h high, near a pole or not
abbrev pub part_of : Split → Bool → ℕ → ℕ → Part
part_of t false w h = plain_part t
part_of t true w h = polar_part t w h

-- the child in column c and row r
abbrev pub sub : Part → Box → ℕ → ℕ → Box
sub p b c r = record { x = b.x + c * p.width; w = p.width; y = b.y + r * p.height; h = p.height }

-- a cap, seen as a box of the disc
abbrev pub round : ℕ → Box
round h = record { x = 0; w = TURN; y = 0; h = h }

-- row 0 of a cap is the new cap
abbrev pub ring_node : Bool → Part → ℕ → ℕ → ℕ → Node
ring_node n p h c zero = cap n p.height
ring_node n p h c (suc r) = cell (disc n) (sub p (round h) c (suc r))

-- row 0 of a cap has column 0 only
abbrev pub ring_column : Part → ℕ → ℕ → ℕ
ring_column p zero e = 0
ring_column p (suc r) e = e / p.width

-- ---- the digits of one division

-- a column and a row as digits
abbrev pub write : Form → ℕ → ℕ → List ℕ
write pair c r = c ∷ r ∷ []
write quad c r = (2 * r + c) ∷ []
write trio c r = (r + c) ∷ []

-- inner: the part is a cap's, where row 0 has column 0 only
abbrev pub allowed : Bool → Part → ℕ → ℕ → Bool
allowed inner p c r = nat_lt c p.columns && (nat_lt r p.rows && (not inner || (nat_lt 0 r || c == 0)))

-- the digits read back: k gives the child in a column and a row
abbrev pub read_as : Form → Bool → Part → (ℕ → ℕ → Node) → List ℕ → Read Node
read_as pair i p k [] = bad 0
read_as pair i p k (c ∷ []) = bad 0
read_as pair i p k (c ∷ r ∷ []) = guard 0 (nat_lt c p.columns) (guard 1 (allowed i p c r) (ok (k c r)))
read_as pair i p k (c ∷ r ∷ x ∷ w) = bad 0
read_as quad i p k [] = bad 0
read_as quad i p k (v ∷ []) = guard 0 (allowed i p (v % 2) (v / 2)) (ok (k (v % 2) (v / 2)))
read_as quad i p k (v ∷ x ∷ w) = bad 0
read_as trio i p k [] = bad 0
read_as trio i p k (v ∷ []) = guard 0 (allowed i p (v - 1) (min v 1)) (ok (k (v - 1) (min v 1)))
read_as trio i p k (v ∷ x ∷ w) = bad 0

-- the digits of the child that has a square
abbrev pub cell_digits : Part → Frame → Box → Square → List ℕ
cell_digits p f b s = write p.form ((x_in f s - b.x) / p.width) ((y_in f s - b.y) / p.height)

-- the child that digits lead to
abbrev pub cell_child : Part → Frame → Box → List ℕ → Read Node
cell_child p f b w = read_as p.form false p (λ c r. cell f (sub p b c r)) w

-- the same for a cap, whose columns count eastward and whose rows count from the pole
abbrev pub cap_digits : Part → Square → List ℕ
cap_digits p s =
    write p.form (ring_column p (from_pole s.latitude / p.height) (eastward s.longitude)) (from_pole s.latitude / p.height)

-- the child of a cap
abbrev pub cap_child : Part → Bool → ℕ → List ℕ → Read Node
cap_child p n h w = read_as p.form true p (λ c r. ring_node n p h c r) w

-- ---- level 1: the zone and the row letter, or 000 from 88° on

-- N or S
abbrev pub letter : Bool → ℕ
letter true = 23
letter false = 28

-- 31 + index / 44,236,800 east, 30 - index / 44,236,800 west
abbrev pub zone : ℤ → ℕ
zone (pos x) = 31 + x / first.width
zone (negsuc x) = 30 - x / first.width

-- the row letter, A to V, is 10 + row as a digit
abbrev pub globe_digits : Square → List ℕ
globe_digits s =
    letter (side s.latitude) ∷
    cond (nat_lt (index s.latitude) POLAR)
    ((zone s.longitude / 10) ∷ (zone s.longitude % 10) ∷ (10 + index s.latitude / first.height) ∷ [])
    (0 ∷ 0 ∷ 0 ∷ [])

-- the cell of zone z and row r
abbrev pub sheet : Bool → ℕ → ℕ → Node
sheet n z r =
    cond (nat_le 31 z)
    (cell (ordinary n true)
    (record { x = (z - 31) * first.width; w = first.width; y = r * first.height; h = first.height }))
    (cell (ordinary n false)
    (record { x = (30 - z) * first.width; w = first.width; y = r * first.height; h = first.height }))

-- the sheet, or N000 or S000, that four digits lead to: a zone 1 to 60 and a letter A to V, or 000
abbrev pub globe_child : List ℕ → Read Node
globe_child [] = bad 0
globe_child (a ∷ []) = bad 0
globe_child (a ∷ b ∷ []) = bad 0
globe_child (a ∷ b ∷ c ∷ []) = bad 0
globe_child (a ∷ b ∷ c ∷ d ∷ []) =
    guard 0 (a == 23 || a == 28)
    (guard 1 (nat_le (10 * b) first.columns)
    (guard 2 (nat_le c 9 && nat_le (10 * b + c) first.columns)
    (cond (10 * b + c == 0)
    (guard 3 (d == 0) (ok (pole (a == 23))))
    (guard 3 (nat_le 10 d && nat_lt (d - 10) first.rows) (ok (sheet (a == 23) (10 * b + c) (d - 10)))))))
globe_child (a ∷ b ∷ c ∷ d ∷ x ∷ w) = bad 0

-- ---- level 2 of N000 and S000: the sixteen polar cells

-- N000 and S000: two degrees, the whole turn
abbrev pub pole_width : ℕ
pole_width = TURN / first.ring

-- from 88° to the pole
abbrev pub pole_height : ℕ
pole_height = 2 * DEGREE / first.inward

-- 60°, the width of a belt cell
abbrev pub SIXTH : ℕ
SIXTH = 60 * DEGREE

-- the cap goes all round, the disc's other three cells are 120° wide, and the belt's twelve 60°
abbrev pub polar_width : ℕ → ℕ
polar_width k = cond (k == 0) TURN (cond (nat_lt k 4) (TURN / second.ring) SIXTH)

-- all are 30' high
abbrev pub polar_height : ℕ
polar_height = pole_height / second.inward

-- the polar cell k has the square
abbrev pub polar_holds : Square → ℕ → Bool
polar_holds s k =
    (nat_le (polar_cell_at k).west (eastward s.longitude) && nat_lt (eastward s.longitude) ((polar_cell_at k).west + polar_width k)) &&
    (nat_le (polar_cell_at k).low (index s.latitude) && nat_lt (index s.latitude) ((polar_cell_at k).low + polar_height))

-- the least number from k on, among n of them, that passes the test
abbrev pub first_from : (ℕ → Bool) → ℕ → ℕ → ℕ
first_from f k zero = k
first_from f k (suc n) = cond (f k) k (first_from f (suc k) n)

-- the one of the sixteen that has the square
unfoldable pub polar_cell_of : Square → ℕ
polar_cell_of s = first_from (polar_holds s) 0 16

-- the two digits of the polar cell that has a square
abbrev pub pole_digits : Square → List ℕ
pole_digits s = (polar_cell_of s / 4) ∷ (polar_cell_of s % 4) ∷ []

-- a belt cell that begins at the west edge e: on the side of the prime meridian where it lies
abbrev pub belt_box : ℕ → ℕ → Box
belt_box e y = record { x = cond (nat_lt e HALF) e (TURN - e - SIXTH); w = SIXTH; y = y; h = polar_height }

-- a disc cell that begins at the west edge e: its rows count from the pole
abbrev pub disc_box : ℕ → ℕ → ℕ → Box
disc_box e w y = record { x = e; w = w; y = QUARTER - y - polar_height; h = polar_height }

-- 00 is the cap, 01 to 03 lie in the disc, the others in the belt
abbrev pub polar_node : Bool → ℕ → Node
polar_node n k =
    cond (k == 0) (cap n polar_height)
    (cond (nat_lt k 4)
    (cell (disc n) (disc_box (polar_cell_at k).west (polar_width k) (polar_cell_at k).low))
    (cell (belt n (nat_lt (polar_cell_at k).west HALF)) (belt_box (polar_cell_at k).west (polar_cell_at k).low)))

-- the polar cell that two digits below 4 lead to
abbrev pub pole_child : Bool → List ℕ → Read Node
pole_child n [] = bad 0
pole_child n (a ∷ []) = bad 0
pole_child n (a ∷ b ∷ []) = guard 0 (nat_lt a 4) (guard 1 (nat_lt b 4) (ok (polar_node n (4 * a + b))))
pole_child n (a ∷ b ∷ x ∷ w) = bad 0

-- ---- the tree

-- the digits that lead from a node to its child that has a square
abbrev pub digits_of : Split → Node → Square → List ℕ
digits_of t globe s = globe_digits s
digits_of t (pole n) s = pole_digits s
digits_of t (cell f b) s = cell_digits (part_of t (near_pole f) b.w b.h) f b s
digits_of t (cap n h) s = cap_digits (cap_part t h) s

-- the child of a node that digits lead to
abbrev pub child_of : Split → Node → List ℕ → Read Node
child_of t globe w = globe_child w
child_of t (pole n) w = pole_child n w
child_of t (cell f b) w = cell_child (part_of t (near_pole f) b.w b.h) f b w
child_of t (cap n h) w = cap_child (cap_part t h) n h w

-- the tree of plane cells
abbrev pub plane : Tree
plane =
    record { Level = Split; Node = Node; Point = Square; size = λ t. t.characters; digits = digits_of; child = child_of }

-- ---- what a reader hands back

-- the least of the n numbers on a side whose outward indices are from u on
abbrev pub least : Bool → ℕ → ℕ → ℤ
least true u n = pos u
least false u n = negsuc (u + n - 1)

-- the longitude e units eastward of 0, as a square has it
abbrev pub longitude_at : ℕ → ℤ
longitude_at e = cond (nat_lt e HALF) (pos e) (negsuc (TURN - 1 - e))

-- the least of the n latitudes whose distances from a pole are from q on
abbrev pub least_from_pole : Bool → ℕ → ℕ → ℤ
least_from_pole true q n = pos (QUARTER - (q + n))
least_from_pole false q n = negsuc (QUARTER - 1 - q)

-- a cell by its five numbers
abbrev pub cell_from : ℕ → ℤ → ℤ → ℕ → ℕ → Cell
cell_from l west south w h = record { level = l; west = west; south = south; width = w; height = h }

-- N000, S000 and every cap have west 0 and go all round
abbrev pub cell_at : ℕ → Node → Cell
cell_at l globe = cell_from l (pos 0) (negsuc (QUARTER - 1)) TURN HALF
cell_at l (pole n) = cell_from l (pos 0) (least_from_pole n 0 pole_height) pole_width pole_height
cell_at l (cell (ordinary n e) b) = cell_from l (least e b.x b.w) (least n b.y b.h) b.w b.h
cell_at l (cell (belt n e) b) = cell_from l (least e b.x b.w) (least n b.y b.h) b.w b.h
cell_at l (cell (disc n) b) = cell_from l (longitude_at b.x) (least_from_pole n b.y b.h) b.w b.h
cell_at l (cap n h) = cell_from l (pos 0) (least_from_pole n 0 h) TURN h

-- ---- plane codes

-- plane codes: the ten levels of the table, from the globe on
unfoldable pub plane_codes : Codes
plane_codes =
    record { tree = plane; levels = splits; root = globe; lengths = plane_lengths; Cell = Cell; cell_at = cell_at }

-- level and position to plane code
unfoldable pub code_of : ℕ → Square → List ℕ
unfolding plane_codes
code_of l s = code_in plane_codes l s

-- bytes to the cell, or refusal 6, or 7 or 20 with its place
unfoldable pub cell_of : List ℕ → Answer Cell
unfolding plane_codes
cell_of w = read_in plane_codes w
