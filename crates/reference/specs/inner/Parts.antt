-- What the parts of the writer and of the reader answer to each other.
-- Assumes nothing.
use Rattle.std.specs.Prelude.{◌≡◌, List, ℕ, Result, Ok, Err, ◌≤◌, ◌<◌}
use Rattle.grid.specs.declared.Cell.{Cell}
use Rattle.grid.specs.declared.Refusal.{Refusal}
use Rattle.grid.specs.Answers.{Answer, accepted, refused, and_then}
use Rattle.grid.specs.Plane.{cell_of}
use Rattle.reference.specs.declared.offset.Offset.{Offset}
use Rattle.reference.specs.Text.{target_of}

-- M and N, or the refusal
abbrev pub offset_answer : Result Offset Refusal → Answer (ℕ × ℕ)
offset_answer (Ok o) = accepted (o.m, o.n)
offset_answer (Err r) = refused r

-- the text that a part's result stands for, or the refusal
abbrev pub text_of : {C : Type 0} → Result C Refusal → (C → List ℕ) → Answer (List ℕ)
text_of (Ok c) f = accepted (f c)
text_of (Err r) f = refused r

-- what M and N, as digits, lead to from a base that was read: its refusal, 8, 12 in that order, else the target's plane code
abbrev pub target_from : Answer Cell → ℕ → ℕ → Answer (List ℕ)
target_from base m n = and_then base (λ b. target_of (record { from = b; m = m; n = n }))

-- c is the cell of an accepted code
abbrev pub Known : Cell → Type 0
Known c = (w : List ℕ) × (cell_of w ≡ accepted c)

-- its sizes are those of level 5 or finer
abbrev pub Steps : Cell → Type 0
Steps c = (0 < c.width) × (c.width ≤ 8192) × (0 < c.height) × (c.height ≤ 8192)
