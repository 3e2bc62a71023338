-- The C call answers the numbers of the part of a place book that `places::part` hands back.
-- Assumes nothing.
use mathlib.Core.Path.{◌≡◌, refl}
use mathlib.Core.List.{List}
use Prim.Native.Nat.{ℕ}
use Rattle.grid.specs.Answers.{Answer, accepted, refused}
use Rattle.places.specs.declared.Spot.{Spot}
use Rattle.places.specs.Finding.{found_in, part_at, part_in}
use Rattle.hailgully.specs.Results.{part_for, part_bytes}

-- on a refusal too, where both are empty
pub part_by_numbers : (asked s : List ℕ) → part_in asked s ≡ part_bytes (part_for (found_in asked s)) s
unfolding part_in part_for
part_by_numbers asked s = go (found_in asked s)
  where
    go : (a : Answer Spot) → part_at s a ≡ part_bytes (part_for a) s
    go (accepted p) = refl
    go (refused r) = refl
