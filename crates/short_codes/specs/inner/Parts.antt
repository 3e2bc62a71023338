-- What the parts of the reader of short codes answer to each other.
-- Assumes nothing.
use Rattle.std.specs.Prelude.{List, ℕ, ◌+◌, ◌≤◌, length}
use Rattle.grid.specs.Answers.{Answer, refused, refusal, and_then}
use Rattle.grid.specs.Plane.{cell_of}
use Rattle.places.specs.declared.Spot.{Spot}
use Rattle.reference.specs.inner.Parts.{target_from}
use Rattle.short_codes.specs.Text.{code_at}

-- an entry at the spot lies in the book
abbrev pub SpotInside : List ℕ → Spot → Type 0
SpotInside s p = p.start + p.name + p.code ≤ length s

-- the short code's own refusal, else what M and N lead to from the code of the entry at the spot
abbrev pub text_at : List ℕ → Spot → Answer (ℕ × ℕ) → Answer (List ℕ)
text_at s p o = and_then o (λ x. target_from (cell_of (code_at s p)) x.0 x.1)

-- the short code's own refusal, else 22
abbrev pub text_nowhere : Answer (ℕ × ℕ) → Answer (List ℕ)
text_nowhere o = and_then o (λ x. refused (refusal 22 0))
