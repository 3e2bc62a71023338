-- A run of the program, whatever pieces its input comes in and however much the output takes at a time.
-- Assumes nothing.
use Rattle.std.specs.Prelude.{Bool, true, List, [], ◌++◌, ◌≡◌, ℕ, take, drop}
use Rattle.std.proofs.lemmas.List.Edits.{sets}
use Rattle.lines.specs.Lines.{lines_text, last_line}
use Rattle.lines.specs.Filling.{Work, start, line_in, fill}

-- what is printed at the input's end
abbrev pub finish_text : Work → List ℕ
finish_text w = lines_text (last_line (line_in w))

-- what was filled is written: the output begins anew, and the bytes that were not used yet come again
abbrev pub emptied : Work → Work
emptied w = start w.marked.held w.line w.out

-- from a state, the input that is still to come makes the program print the output:
-- a piece of the input is filled in as far as there is room, and what was filled is printed; or the input has ended
pub data Run : Work → List ℕ → List ℕ → Type 0 where
  ended : {w : Work} → Run w [] (finish_text w)
  more : {w : Work} (piece rest : List ℕ) {output : List ℕ}
      → Run (emptied (fill w piece)) (drop (fill w piece).marked.next piece ++ rest) output
      → Run w (piece ++ rest) (take (fill w piece).marked.at (fill w piece).out ++ output)

-- from a state, part after part of a block: each is filled in as far as there is room, and what was filled is handed to the output;
-- the state that this leads to, what is then left of the block, and all that was handed over
pub data Printing (w : Work) (block : List ℕ) : Work → List ℕ → List ℕ → Type 0 where
  none : Printing w block w block []
  part : {v : Work} {left output : List ℕ} → Printing w block v left output
      → Printing w block (emptied (fill v left)) (drop (fill v left).marked.next left) (output ++ take (fill v left).marked.at (fill v left).out)

-- a block was printed so, and nothing of it is left where all went well
pub record Through (w : Work) (block : List ℕ) (v : Work) (well : Bool) : Type 0 where
  pub left : List ℕ
  pub output : List ℕ
  pub printing : Printing w block v left output
  pub whole : well ≡ true → left ≡ []

-- turn after turn of the program: each prints a block whole; the state that this leads to, the input so far, and all that was handed over
pub data Turns (w : Work) : Work → List ℕ → List ℕ → Type 0 where
  begun : Turns w w [] []
  turn : {v u : Work} {block input output : List ℕ} → Turns w v input output
      → (t : Through v block u true) → Turns w u (input ++ block) (output ++ t.output)

-- all was read and printed: some turns, and then the answer of the last line, which stands in the output
pub record Ran (w : Work) (out : List ℕ) : Type 0 where
  pub last : Work
  pub input : List ℕ
  pub output : List ℕ
  pub turns : Turns w last input output
  pub answered : out ≡ sets last.out 0 (finish_text last)
