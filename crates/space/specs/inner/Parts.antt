-- The two parts of a space code, its plane characters and its height characters: how they are woven, and what both readers answer together.
-- Assumes nothing.
use Rattle.std.specs.Prelude.{true, false, cond, List, [], ◌∷◌, ℕ, ◌<◌, ltb, ℤ, Option, Result, Ok, Err}
use Rattle.grid.specs.declared.Refusal.{Refusal}
use Rattle.grid.specs.declared.Split.{Split}
use Rattle.grid.specs.declared.SpaceCell.{SpaceCell}
use Rattle.grid.specs.declared.Cell.{Cell}
use Rattle.grid.specs.Splits.{splits}
use Rattle.grid.specs.Codes.{place_in}
use Rattle.grid.specs.Tree.{Read, ok, bad}
use Rattle.grid.specs.Answers.{Answer, accepted, refused, wrong_at}
use Rattle.grid.specs.inner.Roads.{at_place}
use Rattle.grid.specs.inner.Standing.{plane_place, height_place}
use Rattle.grid.specs.Layers.{Stack, floor_of, thickness_of}
use Rattle.grid.specs.Space.{space_lengths}
use Rattle.plane.specs.inner.Lengths.{found}
use Rattle.space.specs.inner.Weave.{Strand}

-- the level of the space codes that are n bytes long, if there are any
unfoldable pub space_level_of : ℕ → Option ℕ
space_level_of n = found (place_in n 1 space_lengths)

-- a level after the first: its plane characters, then one height character
abbrev pub later_strands : List Split → List Strand
later_strands [] = []
later_strands (t ∷ ts) = record { lead = false; one = t.characters; two = 1 } ∷ later_strands ts

-- the first level: N or S and the sign in front, then the zone and the row, then two more height characters
abbrev pub strands_of : List Split → List Strand
strands_of [] = []
strands_of (t ∷ ts) = record { lead = true; one = t.characters; two = 3 } ∷ later_strands ts

-- the strands of the ten levels
abbrev pub ten_strands : List Strand
ten_strands = strands_of splits

-- of two refusals, the one whose character stands first
abbrev pub earlier : Refusal → Refusal → Refusal
earlier r q = cond (ltb r.place q.place) r q

-- a refusal of the plane characters, at its place in the space code
abbrev pub of_plane : Refusal → Refusal
of_plane r = at_place (plane_place r.place) r

-- what was read of the height, where `top` layers lie above ground: the lowest layer and how many there are, or the bad character's place in the space code
abbrev pub heights_in : ℕ → Read Stack → Read (ℤ × ℕ)
heights_in top (ok m) = ok (floor_of top m, thickness_of top m)
heights_in top (bad p) = bad (height_place p)

-- the same as the code has it
abbrev pub heights_read : Result (ℤ × ℕ) ℕ → Read (ℤ × ℕ)
heights_read (Ok h) = ok h
heights_read (Err p) = bad (height_place p)

-- a bad height character is one of twelve, and stands in a code of n characters
abbrev pub BadWithin : ℕ → Result (ℤ × ℕ) ℕ → Type 0
BadWithin n (Ok h) = Unit {0}
BadWithin n (Err p) = (p < 12) × (height_place p < n)

-- what the plane reader answers and the height reader finds in the space code w, together: the cell with its layers, or the first bad character of either
abbrev pub joined_answer : List ℕ → Answer Cell → Read (ℤ × ℕ) → Answer SpaceCell
joined_answer w (accepted c) (ok h) = accepted (record { cell = c; floor = h.0; thickness = h.1 })
joined_answer w (accepted c) (bad p) = refused (wrong_at w p)
joined_answer w (refused r) (ok h) = refused (of_plane r)
joined_answer w (refused r) (bad p) = refused (earlier (of_plane r) (wrong_at w p))
