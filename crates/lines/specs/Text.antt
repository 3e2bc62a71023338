-- An answer of the program as text (document 01, "Positions to check"): level, west, south, width and height in decimal, or "refused", number
-- and place, with single spaces between and a line feed at the end. Assumes nothing.
use Rattle.std.specs.Prelude.{cond, List, [], ◌∷◌, ◌++◌, ℕ, zero, suc, ◌+◌, ◌/◌, ◌%◌, ltb, ℤ, pos, negsuc}
use Rattle.grid.specs.declared.Cell.{Cell}
use Rattle.grid.specs.declared.Refusal.{Refusal}
use Rattle.grid.specs.Answers.{Answer, accepted, refused}

-- the bytes ' ', '-' and the line feed
abbrev pub SPACE : ℕ
SPACE = 32

abbrev pub MINUS : ℕ
MINUS = 45

abbrev pub FEED : ℕ
FEED = 10

-- a number below 10 ^ k in decimal: its one digit, or the digits of its tenth and then its last
unfoldable pub decimal_in : ℕ → ℕ → List ℕ
decimal_in zero n = []
decimal_in (suc k) n = cond (ltb n 10) ((48 + n) ∷ []) (decimal_in k (n / 10) ++ ((48 + n % 10) ∷ []))

-- a number of 64 bits in decimal, which has at most 20 digits
abbrev pub decimal_of : ℕ → List ℕ
decimal_of n = decimal_in 20 n

-- a signed number in decimal: a minus before one below 0 (`negsuc n` is -1 - n)
abbrev pub signed_of : ℤ → List ℕ
signed_of (pos n) = decimal_of n
signed_of (negsuc n) = MINUS ∷ decimal_of (n + 1)

-- a number and the byte after it
abbrev pub number_text : ℕ → ℕ → List ℕ
number_text n end = decimal_of n ++ (end ∷ [])

-- a signed number and the byte after it
abbrev pub signed_text : ℤ → ℕ → List ℕ
signed_text z end = signed_of z ++ (end ∷ [])

-- the bytes of "refused "
abbrev pub refused_word : List ℕ
refused_word = 114 ∷ 101 ∷ 102 ∷ 117 ∷ 115 ∷ 101 ∷ 100 ∷ SPACE ∷ []

-- two numbers, which end an answer
abbrev pub two_text : ℕ → ℕ → List ℕ
two_text a b = number_text a SPACE ++ number_text b FEED

-- west south
abbrev pub corner_text : ℤ → ℤ → List ℕ
corner_text west south = signed_text west SPACE ++ signed_text south SPACE

-- level west south width height
abbrev pub cell_text : Cell → List ℕ
cell_text c = number_text c.level SPACE ++ (corner_text c.west c.south ++ two_text c.width c.height)

-- refused number place
abbrev pub refusal_text : Refusal → List ℕ
refusal_text r = refused_word ++ two_text r.number r.place

-- one answer with its line feed
unfoldable pub answer_text : Answer Cell → List ℕ
answer_text (accepted c) = cell_text c
answer_text (refused r) = refusal_text r
