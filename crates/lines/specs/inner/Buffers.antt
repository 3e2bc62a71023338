-- What the functions that fill buffers ask of them, and how they leave them.
-- Assumes nothing.
use Rattle.std.specs.Prelude.{List, ◌≡◌, ℕ, ◌+◌, ◌≤◌, length}
use Rattle.std.proofs.lemmas.List.Edits.{sets}
use Rattle.lines.specs.declared.Marks.{Marks}
use Rattle.lines.specs.declared.Text.{Text}
use Rattle.lines.specs.Filling.{KEPT, ROOM}

-- the text stands in the buffer from a place on, and nothing else of it has changed; the next place is behind it
pub record Laid (before : List ℕ) (at : ℕ) (text : List ℕ) (next : ℕ) (after : List ℕ) : Type 0 where
  pub ends : next ≡ at + length text
  pub stands : after ≡ sets before at text

-- a text is longer by some bytes: they stand in the output from where it had come to, and the output is the one that it was lent
pub record LongerBy (more : List ℕ) (before after : Text) : Type 0 where
  pub same_output : after.out.ghost_name ≡ before.out.ghost_name
  pub laid : Laid before.out.now before.at more after.at after.out.now

-- the marks lie within the buffers
pub record MarksWithin (m : Marks) (line out : List ℕ) : Type 0 where
  pub few : m.held ≤ KEPT
  pub long : KEPT ≤ length line
  pub inside : m.at ≤ length out

-- what a caller lends with a line that has begun: the buffers are as long as need be
pub record Lent (held : ℕ) (line out : List ℕ) : Type 0 where
  pub few : held ≤ KEPT
  pub long : KEPT ≤ length line
  pub room : ROOM ≤ length out
