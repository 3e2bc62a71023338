-- Document 01's case P13 and the examples of source 000, clause 8.1, computed over the definitions; and a refusal of each kind.
-- Assumes nothing.
use mathlib.Core.Path.{◌≡◌, refl}
use mathlib.Core.List.{List, [], ◌∷◌, map}
use Prim.Native.Nat.{ℕ}
use Prim.Native.Char.{code}
use Prim.Native.String.{String}
use Rattle.grid.specs.declared.Refusal.{Refusal}
use Rattle.grid.specs.Characters.{char_of, digit_of}
use Rattle.grid.specs.Tree as Tree
use Rattle.grid.specs.Answers as answers
use Rattle.grid.specs.Codes.{code_in, read_in}
use Rattle.grid.specs.Plane.{code_of, cell_of}
use Rattle.distances.specs.Distances.{between}
use Rattle.reference.specs.Offsets.{moved_to, span_in}
use Rattle.reference.specs.Text.{fit, spelled, spanned, reference_text, target_of, offset_in, target_text}

-- a text's bytes
abbrev bytes : String → List ℕ
bytes String.[] = []
bytes (String.◌∷◌ c t) = code c ∷ bytes t

record Case : Type 0 where
  base : String
  target : String
  reference : String

abbrev from : String → String → String → Case
from b t r = record { base = b; target = t; reference = r }

-- P13; then 000's 8.1: the east gate from the tower, the gate from the office, the tower from the gate
abbrev cases : List Case
cases =
    from "N50J475492E" "N50J475493E" "N50J475492E-10"
    ∷ from "N31A0000000" "S31A0000000" "N31A0000000-0A"
    ∷ from "N30A0000000" "N31A0000000" "N30A0000000-10"
    ∷ from "N50J475491E" "N50J475493E" "N50J475491E-20"
    ∷ from "N50J475493E" "N50J475491E" "N50J475493E-B0"
    ∷ from "S31V0000000" "S30V0000000" "S31V0000000-A0"
    ∷ from "N01AB01E0E0" "N60AB01E0E0" "N01AB01E0E0-A0"
    ∷ from "N60AB01E0E0" "N01AB01E0E0" "N60AB01E0E0-10"
    ∷ []

written : map (λ c. reference_text (bytes c.base) (bytes c.target)) cases ≡ map (λ c. answers.accepted (bytes c.reference)) cases
unfolding reference_text spanned spelled fit between span_in cell_of read_in Tree.follow digit_of char_of
written = refl

read : map (λ c. target_text (bytes c.reference)) cases ≡ map (λ c. answers.accepted (bytes c.target)) cases
unfolding target_text offset_in target_of fit moved_to cell_of read_in code_of code_in Tree.follow Tree.code digit_of char_of
read = refl

-- ---- refusals, each with its number, place and ordinal

record Refused : Type 0 where
  code : String
  other : String
  gives : Refusal

abbrev refused : String → String → ℕ → ℕ → ℕ → Refused
refused c d n p o = record { code = c; other = d; gives = record { number = n; place = p; ordinal = o } }

-- base, target
abbrev not_written : List Refused
not_written =
    refused "N31A000000" "N31A0000000" 6 0 1
    ∷ refused "n31A0000000" "N31A000000" 7 0 1
    ∷ refused "N31A0000000" "N31A000000" 6 0 2
    ∷ refused "N31A0000000" "N31A000000F" 20 10 2
    ∷ refused "N31A00000" "N31A0000000" 8 0 1
    ∷ refused "N31A0000000" "N0000000000" 8 0 1
    ∷ refused "N31A0000000" "N31A00000000" 9 0 1
    ∷ refused "N31A0000000" "N31A0000080" 10 0 1
    ∷ refused "N31A0000000" "S31A0000007" 10 0 1
    ∷ []

writing : map (λ c. reference_text (bytes c.code) (bytes c.other)) not_written ≡ map (λ c. answers.refused c.gives) not_written
unfolding reference_text spanned spelled fit between span_in cell_of read_in Tree.follow digit_of char_of answers.wrong_number
writing = refl

-- a reference code; the other is not looked at
abbrev not_read : List Refused
not_read =
    refused "" "" 6 0 1
    ∷ refused "-10" "" 6 0 1
    ∷ refused "N31A000000-10" "" 6 0 1
    ∷ refused "N31A0000F00+80" "" 20 8 1
    ∷ refused "N31A0000-00+80" "" 7 8 1
    ∷ refused "N31A0000000+80" "" 7 11 1
    ∷ refused "N31A0000000V80" "" 20 11 1
    ∷ refused "N31A0000000-8H" "" 20 12 1
    ∷ refused "N31A0000000--H" "" 7 12 1
    ∷ refused "N31A0000000-0H" "" 20 13 1
    ∷ refused "N31A0000000-0W" "" 7 13 1
    ∷ refused "N31A-10" "" 8 0 1
    ∷ refused "N0000000000-00" "" 8 0 1
    ∷ refused "N31V074090E-01" "" 12 0 1
    ∷ refused "S31V074090E-0A" "" 12 0 1
    ∷ []

reading : map (λ c. target_text (bytes c.code)) not_read ≡ map (λ c. answers.refused c.gives) not_read
unfolding target_text offset_in target_of fit moved_to cell_of read_in code_of code_in Tree.follow Tree.code digit_of char_of answers.wrong_number
reading = refl
