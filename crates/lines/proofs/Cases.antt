-- Document 01's lines for the program, computed over the definitions: `N31A`, `n31A` and an empty one; the input's end; a line feed at the very
-- end; empty input; a carriage return, which is a byte like any other; a cell south and west of 0; a line of more than 20 bytes; and characters that are
-- misplaced and garbled.
-- Assumes nothing.
use mathlib.Core.Path.{◌≡◌, refl}
use mathlib.Core.List.{List, [], ◌∷◌, map}
use Prim.Native.Nat.{ℕ}
use Prim.Native.Char.{code}
use Prim.Native.String.{String}
use Rattle.grid.specs.Characters.{digit_of}
use Rattle.grid.specs.Tree.{follow}
use Rattle.grid.specs.Answers.{wrong_number}
use Rattle.grid.specs.Codes.{read_in}
use Rattle.grid.specs.Plane.{plane_codes, cell_of}
use Rattle.lines.specs.Text.{decimal_in, answer_text}
use Rattle.lines.specs.Lines.{lines_after, lines_text, output_of}

-- a text's bytes
abbrev bytes : String → List ℕ
bytes String.[] = []
bytes (String.◌∷◌ c t) = code c ∷ bytes t

abbrev inputs : List String
inputs = "N31A\nn31A\n\n" ∷ "N31A\nn31A" ∷ "N31A\r" ∷ "" ∷ "\n" ∷ "S30A\nS000" ∷ "N31A00000000000000000\n" ∷ "N00A\nN61A\nN31W\n" ∷ []

abbrev outputs : List String
outputs =
    "1 0 0 44236800 29491200\nrefused 7 0\nrefused 6 0\n"
    ∷ "1 0 0 44236800 29491200\nrefused 7 0\n"
    ∷ "refused 6 0\n"
    ∷ ""
    ∷ "refused 6 0\n"
    ∷ "1 -44236800 -29491200 44236800 29491200\n1 0 -663552000 2654208000 14745600\n"
    ∷ "refused 6 0\n"
    ∷ "refused 20 3\nrefused 20 2\nrefused 7 3\n"
    ∷ []

printed : map (λ t. output_of (bytes t)) inputs ≡ map (λ t. bytes t) outputs
unfolding output_of lines_after lines_text answer_text decimal_in cell_of read_in plane_codes follow digit_of wrong_number
printed = refl
