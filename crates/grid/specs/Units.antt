-- Units, the unit square and the globe. A unit is 1/2048 arc-second; a position names a unit square by its west and south corner.
-- Assumes nothing.
use Rattle.std.specs.Prelude.{ℕ, ◌-◌, ◌*◌, ◌<◌, Bool, true, false, ℤ, pos, negsuc}

-- one minute: 60 arc-seconds of 2048 units
abbrev pub MINUTE : ℕ
MINUTE = 60 * 2048

-- one degree: 7,372,800 units
abbrev pub DEGREE : ℕ
DEGREE = 60 * MINUTE

-- a full turn, 360°
abbrev pub TURN : ℕ
TURN = 360 * DEGREE

-- 180°: so many longitudes from 0 on, and as many below
abbrev pub HALF : ℕ
HALF = 180 * DEGREE

-- 90°: so many latitudes from 0 on, and as many below
abbrev pub QUARTER : ℕ
QUARTER = 90 * DEGREE

-- 88°, where the ordinary cells end
abbrev pub POLAR : ℕ
POLAR = 88 * DEGREE

-- 89°, where the belt ends and the disc begins
abbrev pub DISC : ℕ
DISC = 89 * DEGREE

-- which side of 0 a number lies on: true for 0 and above
abbrev pub side : ℤ → Bool
side (pos n) = true
side (negsuc n) = false

-- the outward index: u where u is 0 or more, -1 - u where it is negative (`negsuc n` is -1 - n)
abbrev pub index : ℤ → ℕ
index (pos n) = n
index (negsuc n) = n

-- the number on a side with an index
abbrev pub unit : Bool → ℕ → ℤ
unit true n = pos n
unit false n = negsuc n

-- the longitude taken eastward, 0 to a turn less one
abbrev pub eastward : ℤ → ℕ
eastward (pos n) = n
eastward (negsuc n) = TURN - 1 - n

-- the distance from the pole: 663,551,999 minus the latitude index
abbrev pub from_pole : ℤ → ℕ
from_pole v = QUARTER - 1 - index v

-- a unit square, by its west and south corner
pub record Square : Type 0 where
  pub longitude : ℤ
  pub latitude : ℤ

-- the square lies on the globe: its outward indices are below those of 180° and 90°
pub record OnGlobe (s : Square) : Type 0 where
  pub longitude_in : index s.longitude < HALF
  pub latitude_in : index s.latitude < QUARTER

-- a unit cube: a square and a layer
abbrev pub Cube : Type 0
Cube = Square × ℤ
