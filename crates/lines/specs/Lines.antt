-- What the program prints for an input: the answer of each line. A line is ended by a line feed or by the input's end.
-- Assumes nothing.
use Rattle.std.specs.Prelude.{cond, List, [], ◌∷◌, ◌++◌, ℕ, eqb}
use Rattle.grid.specs.Plane.{cell_of}
use Rattle.lines.specs.Text.{FEED, answer_text}

-- the last line, which the input's end ends: nothing after the last line feed is no line
abbrev pub last_line : List ℕ → List (List ℕ)
last_line [] = []
last_line (b ∷ w) = (b ∷ w) ∷ []

-- the lines of what follows, where `line` has begun already
unfoldable pub lines_after : List ℕ → List ℕ → List (List ℕ)
lines_after line [] = last_line line
lines_after line (b ∷ w) = cond (eqb b FEED) (line ∷ lines_after [] w) (lines_after (line ++ (b ∷ [])) w)

-- what is printed for one line: the cell of the plane code, or the refusal
abbrev pub line_text : List ℕ → List ℕ
line_text line = answer_text (cell_of line)

-- the answers of the lines, in their order
unfoldable pub lines_text : List (List ℕ) → List ℕ
lines_text [] = []
lines_text (line ∷ more) = line_text line ++ lines_text more

-- the whole output for a whole input
unfoldable pub output_of : List ℕ → List ℕ
output_of input = lines_text (lines_after [] input)
