-- Laying a text into a lent line: one definition for every writer.
-- Assumes nothing.
use Rattle.std.specs.Prelude.{◌≡◌, ℕ, ◌+◌, ◌≤◌, Bool, true, false, List, ◌++◌, length, take, drop, nat_le}
use Rattle.grid.specs.declared.Refusal.{Refusal}
use Rattle.grid.specs.Answers.{Answer, accepted, refused, refusal}

-- 5: from the place given, the line lacks bytes for the whole code
abbrev pub no_room : Refusal
no_room = refusal 5 0

-- the bytes w laid into the line from a place on, if there is room: 5 where there is not
abbrev pub laid_if : Bool → List ℕ → List ℕ → ℕ → Answer ℕ × List ℕ
laid_if true w line at = (accepted (length w), take at line ++ w ++ drop (at + length w) line)
laid_if false w line at = (refused no_room, line)

-- of a text, what is to be written with every refusal but 5 decided: the answer, and the line afterwards; the text stands from the place on,
-- the bytes before it and after it are as they were, and a refusal changes none
unfoldable pub laid : Answer (List ℕ) → List ℕ → ℕ → Answer ℕ × List ℕ
laid (refused r) line at = (refused r, line)
laid (accepted w) line at = laid_if (nat_le (at + length w) (length line)) w line at

-- what a success leaves: n bytes written, for which there was room; from the place on they are the text, and the bytes before it and after it stay
pub record LaidDown (w line : List ℕ) (at n : ℕ) (after : List ℕ) : Type 0 where
  pub long : length w ≡ n
  pub room : at + n ≤ length line
  pub before : take at after ≡ take at line
  pub there : take n (drop at after) ≡ w
  pub behind : drop (at + n) after ≡ drop (at + n) line
