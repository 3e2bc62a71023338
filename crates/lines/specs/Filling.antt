-- How the output is filled: the line so far in a buffer of 21 bytes, the answers in another, and the marks of how far each has come.
-- Of a line that is longer its first 21 bytes are kept: they are refused 6 as the whole line is.
-- Assumes nothing.
use Rattle.std.specs.Prelude.{cond, List, [], ◌∷◌, ℕ, ◌+◌, eqb, ltb, leb, length, take, set}
use Rattle.std.proofs.lemmas.List.Edits.{sets}
use Rattle.lines.specs.declared.Marks.{Marks}
use Rattle.lines.specs.Text.{FEED}
use Rattle.lines.specs.Lines.{line_text}

-- bytes of a line that are kept, and the room that the longest answer finds place in
abbrev pub KEPT : ℕ
KEPT = 21

abbrev pub ROOM : ℕ
ROOM = 128

-- the next byte, the bytes held and the bytes written
abbrev pub marks : ℕ → ℕ → ℕ → Marks
marks n h a = record { next = n; held = h; at = a }

-- the marks, and what stands in the two buffers
pub record Work : Type 0 where
  pub marked : Marks
  pub line : List ℕ
  pub out : List ℕ

-- marks and buffers together
abbrev pub work : Marks → List ℕ → List ℕ → Work
work m line out = record { marked = m; line = line; out = out }

-- a line has begun, nothing of the block is used yet, and nothing is written
abbrev pub start : ℕ → List ℕ → List ℕ → Work
start held line out = work (marks 0 held 0) line out

-- the line so far
abbrev pub line_in : Work → List ℕ
line_in w = take w.marked.held w.line

-- a line feed: the line's answer is laid down, and the next line begins
abbrev pub answered : Work → Work
answered w =
    work (marks (w.marked.next + 1) 0 (w.marked.at + length (line_text (line_in w)))) w.line
    (sets w.out w.marked.at (line_text (line_in w)))

-- another byte: it is kept at the line's end
abbrev pub longer : ℕ → Work → Work
longer b w = work (marks (w.marked.next + 1) (w.marked.held + 1) w.marked.at) (set w.line w.marked.held b) w.out

-- or it is passed over, where the line has its 21 bytes
abbrev pub passed : Work → Work
passed w = work (marks (w.marked.next + 1) w.marked.held w.marked.at) w.line w.out

-- one byte more
unfoldable pub on_byte : ℕ → Work → Work
on_byte b w = cond (eqb b FEED) (answered w) (cond (ltb w.marked.held KEPT) (longer b w) (passed w))

-- one byte after the other, while there is room for an answer
unfoldable pub fill : Work → List ℕ → Work
fill w [] = w
fill w (b ∷ more) = cond (leb (w.marked.at + ROOM) (length w.out)) (fill (on_byte b w) more) w
