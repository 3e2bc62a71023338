-- What the stores of level 1 leave.
-- Assumes nothing.
use mathlib.Core.Path.{◌≡◌, refl}
use mathlib.Core.Bool.{Bool, true, false}
use mathlib.Core.List.{List, [], ◌∷◌}
use Prim.Native.Nat.{ℕ, ◌+◌, ◌/◌, ◌%◌, ◌≤◌, ◌<◌}
use native.Mathlib.Omega.{arith}
use lib.ListN.{set}
use borrow.Author.Tests.{lt-ltb, le-ltb}
use Rattle.grid.specs.declared.Place.{Place}
use Rattle.grid.specs.Units.{HALF, POLAR, unit}
use Rattle.grid.specs.Characters.{char_of}
use Rattle.grid.specs.Tree.{code}
use Rattle.grid.specs.Codes.{code_in}
use Rattle.grid.specs.Splits.{first}
use Rattle.grid.specs.inner.Roads.{square_of}
use Rattle.grid.specs.inner.Standing.{zone_place, plane_place, stands_at, spread}
use Rattle.grid.specs.Plane.{letter, zone, plane_codes, code_of}
use Rattle.grid.proofs.Characters.{char_decimal}
use Rattle.grid.proofs.Globe.{zone_high}
use Rattle.grid.proofs.PlaneLaws.{index_unit, side_unit}

char_letter : (r : ℕ) → char_of (10 + r) ≡ 65 + r
unfolding char_of
char_letter r = rw (le-ltb (10 + r) 10 (omega arith)) (omega arith)

pub zone_small : (e : Bool) (x : ℕ) → x < HALF → zone (unit e x) ≤ first.columns
zone_small e x h = zone_high (unit e x) (rw index_unit h)

first_code : (p : Place) {z a r : ℕ} → p.x < HALF → p.y < POLAR → z ≡ zone (unit p.east p.x) → a ≡ char_of (letter p.north) → r ≡ p.y / first.height
    → code_of 1 (square_of p) ≡ a ∷ (48 + z / 10) ∷ (48 + z % 10) ∷ (65 + r) ∷ []
unfolding code_of code_in plane_codes code
first_code p {z} hx hy e f g =
    let u : zone (unit p.east p.x) ≤ first.columns = zone_small p.east p.x hx in
    rw (
      f,
      g,
      side_unit p.north p.y,
      index_unit p.north p.y,
      lt-ltb p.y POLAR hy,
      ← e,
      ← char_decimal (z / 10) (omega arith),
      ← char_decimal (z % 10) (omega arith),
      char_letter (p.y / first.height),
    ) refl

-- the stores of level 1, in a plane code or in a space code
pub first_stored : (spaced : Bool) (p : Place) (l : List ℕ) {z a r at : ℕ} → p.x < HALF → p.y < POLAR → z ≡ zone (unit p.east p.x) → a ≡ char_of (letter p.north) → r ≡ p.y / first.height
    → at ≡ zone_place spaced → set (set (set (set l 0 a) at (48 + z / 10)) (at + 1) (48 + z % 10)) (at + 2) (65 + r) ≡ spread (stands_at spaced) 0 (code_of 1 (square_of p)) l
unfolding plane_place
first_stored true p l hx hy e f g h = rw (first_code p hx hy e f g, h) refl
first_stored false p l hx hy e f g h = rw (first_code p hx hy e f g, h) refl
