-- The first four characters of a plane code, as the reader finds them; in a space code the sign stands behind the first.
-- Assumes nothing.
use Rattle.std.specs.Prelude.{ℕ, ◌+◌, ◌-◌, ◌*◌, ◌<◌, ◌≤◌, Bool, cond, ◌&&◌, ◌||◌, List, Result, Ok, Err, [], ◌∷◌, ◌==◌, nat_le, nat_lt, slice_index}
use Rattle.grid.specs.Characters.{digit_of}
use Rattle.grid.specs.Splits.{first}
use Rattle.grid.specs.Tree.{Read, ok, bad, guard}
use Rattle.grid.specs.Plane.{Node, pole, sheet}
use Rattle.grid.specs.inner.Standing.{zone_place}
use Rattle.plane.specs.declared.First.{First}
use Rattle.plane.specs.declared.First.TheVariants.{Sheet, Pole}

-- the digits of the four: N or S, then three that stand behind the sign in a space code
abbrev pub first_digits : Bool → List ℕ → List ℕ
first_digits spaced w =
    digit_of (slice_index w 0)
    ∷ digit_of (slice_index w (zone_place spaced))
    ∷ digit_of (slice_index w (zone_place spaced + 1))
    ∷ digit_of (slice_index w (zone_place spaced + 2))
    ∷ []

-- the node of level 1, or the place of the first bad character: `answer` (grid, specs/Codes.antt) makes it refusal 7
abbrev pub first_read : Result First ℕ → Read Node
first_read (Ok (Sheet n z r)) = ok (sheet n z r)
first_read (Ok (Pole n)) = ok (pole n)
first_read (Err p) = bad p

-- a sheet's zone is one of the sixty, and its row one of the twenty-two
abbrev pub Ranged : Result First ℕ → Type 0
Ranged (Ok (Sheet n z r)) = (1 ≤ z) × (z ≤ first.columns) × (r < first.rows)
Ranged (Ok (Pole n)) = Unit {0}
Ranged (Err p) = Unit {0}

-- whether a byte is N, 78, or S, 83
abbrev pub north_or_south : ℕ → Bool
north_or_south a = a == 78 || a == 83

-- the row letter d of the zone z
unfoldable pub lettered_read : Bool → ℕ → ℕ → Read Node
lettered_read n z d = guard 3 (nat_le 10 d && nat_lt (d - 10) first.rows) (ok (sheet n z (d - 10)))

-- the digits b, c and d after N or S
unfoldable pub zoned_read : Bool → ℕ → ℕ → ℕ → Read Node
zoned_read n b c d =
    guard 1 (nat_le (10 * b) first.columns)
    (guard 2 (nat_le c 9 && nat_le (10 * b + c) first.columns)
    (cond (10 * b + c == 0) (guard 3 (d == 0) (ok (pole n))) (lettered_read n (10 * b + c) d)))
