-- Where the characters of a code stand: of a plane code, or (where `spaced` is true) of a space code, whose height characters stand between; and what
-- laying them there leaves in a line. All the places come from the table of splits.
-- Assumes nothing.
use Rattle.std.specs.Prelude.{◌≡◌, ℕ, zero, suc, ◌+◌, ◌-◌, ◌<◌, ◌≤◌, Bool, cond, List, [], ◌∷◌, map, length, take, ◌==◌, nat_le, nat_lt, slice_index, slice_set}
use Rattle.grid.specs.declared.Split.{Split}
use Rattle.grid.specs.Splits.{first, splits, split_at}
use Rattle.grid.specs.inner.Roads.{place_of}

-- where the characters after N or S begin: in a space code behind the sign
abbrev pub zone_place : Bool → ℕ
zone_place spaced = cond spaced 2 1

-- where those of level k + 1, a later one, begin: in a space code behind the height characters of the levels before it, two more than there are
abbrev pub level_place : Bool → ℕ → Split → ℕ
level_place spaced k t = cond spaced (place_of t + 2 + k) (place_of t)

-- how long the codes of a level are
abbrev pub length_in : Bool → ℕ → ℕ
length_in spaced l = cond spaced ((split_at (l - 1)).length + 2 + l) (split_at (l - 1)).length

-- how many levels, one after the other, end before the plane character p
abbrev pub ended_by : ℕ → List Split → ℕ
ended_by p [] = 0
ended_by p (t ∷ ts) = cond (nat_le t.length p) (suc (ended_by p ts)) 0

-- where the plane character p stands in a space code: behind the sign, and behind the height characters of the levels before its own; 0 for one that
-- there is not
unfoldable pub plane_place : ℕ → ℕ
plane_place p = cond (nat_lt p 20) (cond (nat_lt p first.length) (cond (p == 0) 0 (p + 1)) (p + 2 + ended_by p splits)) 0

-- where it stands
abbrev pub stands_at : Bool → ℕ → ℕ
stands_at spaced p = cond spaced (plane_place p) p

-- where the height character p stands: the sign second, every other one behind the plane characters of its level
unfoldable pub height_place : ℕ → ℕ
height_place p = cond (p == 0) 1 ((split_at (p - 2)).length + p)

-- the numbers below n, from k on
abbrev pub count_from : ℕ → ℕ → List ℕ
count_from k zero = []
count_from k (suc n) = k ∷ count_from (suc k) n

-- the plane code of a level among the characters of a code
abbrev pub plane_in : Bool → ℕ → List ℕ → List ℕ
plane_in spaced l w = cond spaced (take (split_at (l - 1)).length (map (λ p. slice_index w (plane_place p)) (count_from 0 20))) w

-- the code w is as long as one of its level, and has the plane character p
pub record HasPlane (spaced : Bool) (level : ℕ) (w : List ℕ) (p : ℕ) : Type 0 where
  pub some : 1 ≤ level
  pub most : level ≤ 10
  pub long : length w ≡ length_in spaced level
  pub character : p < (split_at (level - 1)).length

-- the characters w, from the character k on, each laid down at its place; the first of them first
abbrev pub spread : (ℕ → ℕ) → ℕ → List ℕ → List ℕ → List ℕ
spread place k [] l = l
spread place k (c ∷ w) l = spread place (suc k) w (slice_set l (place k) c)

-- the same, the last of them first
abbrev pub spread_back : (ℕ → ℕ) → ℕ → List ℕ → List ℕ → List ℕ
spread_back place k [] l = l
spread_back place k (c ∷ w) l = slice_set (spread_back place (suc k) w l) (place k) c
