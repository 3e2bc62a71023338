-- Reference codes (document 01, source 000 clause 7): a plane code, a hyphen, M and N. What the writer and the reader are to write.
-- Assumes nothing.
use Rattle.std.specs.Prelude.{Bool, ◌&&◌, List, [], ◌∷◌, ◌++◌, map, ℕ, ◌+◌, ◌-◌, ltb, leb, eqb, length, take, get_or}
use Rattle.grid.specs.declared.Cell.{Cell}
use Rattle.grid.specs.Units.{POLAR, index, Square}
use Rattle.grid.specs.Characters.{char_of, digit_of}
use Rattle.grid.specs.Answers.{Answer, accepted, refused, refusal, about, unless, and_then, wrong_character}
use Rattle.grid.specs.Splits.{plane_lengths}
use Rattle.grid.specs.Plane.{code_of, cell_of}
use Rattle.reference.specs.Offsets.{offset_digit, moved, span_of}

-- the byte of a hyphen
abbrev pub HYPHEN : ℕ
HYPHEN = 45

-- a base or a target: level 5 or finer, and ordinary, which is south of 88° north and north of 88° south
unfoldable pub fit : Cell → Bool
fit c = leb 5 c.level && ltb (index c.south) POLAR

-- ---- from base and target to reference code

-- M: cells east
abbrev pub east_span : Cell → Cell → ℕ
east_span b t = span_of b.width b.west t.west

-- N: cells north
abbrev pub north_span : Cell → Cell → ℕ
north_span b t = span_of b.height b.south t.south

-- the base's code w, the hyphen, M and N
abbrev pub reference_code : List ℕ → ℕ → ℕ → List ℕ
reference_code w m n = w ++ (HYPHEN ∷ char_of m ∷ char_of n ∷ [])

-- 10, else the reference code: w is the base's code
unfoldable pub spelled : List ℕ → Cell → Cell → Answer (List ℕ)
spelled w b t =
    unless (leb (east_span b t) 16 && leb (north_span b t) 16) (refusal 10 0) (accepted (reference_code w (east_span b t) (north_span b t)))

-- 8 and 9, else what the offset decides
unfoldable pub spanned : List ℕ → Cell → Cell → Answer (List ℕ)
spanned w b t = unless (fit b && fit t) (refusal 8 0) (unless (eqb b.level t.level) (refusal 9 0) (spelled w b t))

-- 6, 7 or 20 of the base, then of the target, which is the second code
abbrev pub related : List ℕ → Answer Cell → Answer Cell → Answer (List ℕ)
related w (refused r) t = refused r
related w (accepted b) (refused r) = refused (about 2 r)
related w (accepted b) (accepted t) = spanned w b t

-- what the writer is to write: 6, 7 or 20 of the base, 6, 7 or 20 of the target, 8, 9, 10 in that order, else the reference code
unfoldable pub reference_text : List ℕ → List ℕ → Answer (List ℕ)
reference_text base target = related base (cell_of base) (cell_of target)

-- ---- from reference code to target

-- the square of the target's west and south corner
abbrev pub target_square : Cell → ℕ → ℕ → Square
target_square b m n = record { longitude = moved b.width m b.west; latitude = moved b.height n b.south }

-- a base's cell, M and N
pub record Aim : Type 0 where
  pub from : Cell
  pub m : ℕ
  pub n : ℕ

-- 8 and 12, else the target's plane code
unfoldable pub target_of : Aim → Answer (List ℕ)
target_of a =
    let s = target_square a.from a.m a.n in
    unless (fit a.from) (refusal 8 0)
    (unless (ltb (index s.latitude) POLAR) (refusal 12 0) (accepted (code_of a.from.level s)))

-- M and N by themselves, with no base: the hyphen at place k and two offset digits, as the three characters h, m and n; 7 or 20 at the first that is wrong
unfoldable pub offset_in : ℕ → ℕ → ℕ → ℕ → Answer (ℕ × ℕ)
offset_in k h m n =
    unless (eqb h HYPHEN) (wrong_character k h)
    (unless (offset_digit (digit_of m)) (wrong_character (k + 1) m)
    (unless (offset_digit (digit_of n)) (wrong_character (k + 2) n) (accepted (digit_of m, digit_of n))))

-- the base, k bytes long, is read; then the hyphen, M and N behind it
abbrev pub aimed : ℕ → ℕ → ℕ → ℕ → Answer Cell → Answer Aim
aimed k h m n base = and_then base (λ b. and_then (offset_in k h m n) (λ o. accepted (record { from = b; m = o.0; n = o.1 })))

-- what the base's length k makes of a reference code
abbrev pub aimed_at : List ℕ → ℕ → Answer Aim
aimed_at w k = aimed k (get_or w k 0) (get_or w (k + 1) 0) (get_or w (k + 2) 0) (cell_of (take k w))

-- the base, M and N of a reference code; 6 where the total less 3 is no plane length, or 7 or 20 with its place in the whole code
abbrev pub aim_of : List ℕ → Answer Aim
aim_of w = aimed_at w (length w - 3)

-- the lengths of reference codes: three more than those of plane codes
abbrev pub reference_lengths : List ℕ
reference_lengths = map (λ k. k + 3) plane_lengths

-- what the reader is to write: 6, 7 or 20, 8, 12 in that order, else the target's plane code
unfoldable pub target_text : List ℕ → Answer (List ℕ)
target_text w = and_then (aim_of w) target_of
