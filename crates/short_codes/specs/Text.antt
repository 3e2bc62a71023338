-- Short codes (document 02, Wish 6; source 000 clause 8): a place name, a hyphen, M and N. What the reader is to write.
-- Assumes nothing.
use Rattle.std.specs.Prelude.{List, ◌++◌, ℕ, ◌+◌, ◌-◌, leb, length, take, drop, get_or}
use Rattle.grid.specs.Answers.{Answer, unless, and_then, wrong_length}
use Rattle.places.specs.declared.Spot.{Spot}
use Rattle.places.specs.Reading.{entries_of}
use Rattle.places.specs.Finding.{well_formed, found_among}
use Rattle.reference.specs.Text.{offset_in, target_text}

-- the place name: all but the last three bytes
unfoldable pub name_in : List ℕ → List ℕ
name_in w = take (length w - 3) w

-- the last three bytes: the hyphen, M and N
abbrev pub last_three : List ℕ → List ℕ
last_three w = drop (length w - 3) w

-- M and N, read by themselves: 6 where the short code has under four bytes; 7 or 20 at the first of the last three that is wrong, its place in the
-- whole short code
unfoldable pub offset_of : List ℕ → Answer (ℕ × ℕ)
offset_of w =
    let k = length w - 3 in
    unless (leb 4 (length w)) wrong_length (offset_in k (get_or w k 0) (get_or w (k + 1) 0) (get_or w (k + 2) 0))

-- the code of the entry that stands at a spot
abbrev pub code_at : List ℕ → Spot → List ℕ
code_at s p = take p.code (drop (p.start + p.name) s)

-- what the reader is to write: 21, then 6, 7 or 20, then 22, then 8 and 12 of the reference reader, else the target's plane code:
-- what the reference reader gives for the place's code with the last three bytes behind it
unfoldable pub short_text : List ℕ → List ℕ → Answer (List ℕ)
short_text w s =
    and_then (well_formed (entries_of s)) (λ es.
    and_then (offset_of w) (λ o.
    and_then (found_among (name_in w) es) (λ p.
    target_text (code_at s p ++ last_three w))))
