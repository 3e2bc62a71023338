-- Edition 2 as source 000's annex C.14 has it: the layer as 32 bits, and fields of them.
-- Assumes nothing.
use Rattle.std.specs.Prelude.{List, [], ◌∷◌, ℕ, ◌+◌, ◌-◌, ◌/◌, ◌%◌, ◌^◌, ℤ, pos, negsuc}

-- the layer's 32 bits in two's complement, as a number
abbrev pub twos_complement : ℤ → ℕ
twos_complement (pos n) = n
twos_complement (negsuc n) = 2 ^ 32 - 1 - n

-- n(a:b): the bits a to b of n, counted from the lowest, which is bit 1
abbrev pub bits : ℕ → ℕ → ℕ → ℕ
bits n a b = n / 2 ^ (a - 1) % 2 ^ (b + 1 - a)

-- (C.14): bit 32; 26 to 31 as two decimal digits; 23 to 25; 22; 18 to 21; 14 to 17; 13; 10 to 12; 7 to 9; 4 to 6; 1 to 3
abbrev pub bit_digits : ℕ → List ℕ
bit_digits n =
    bits n 32 32
    ∷ (bits n 26 31 / 10)
    ∷ (bits n 26 31 % 10)
    ∷ bits n 23 25
    ∷ bits n 22 22
    ∷ bits n 18 21
    ∷ bits n 14 17
    ∷ bits n 13 13
    ∷ bits n 10 12
    ∷ bits n 7 9
    ∷ bits n 4 6
    ∷ bits n 1 3
    ∷ []

-- where the height characters stand in a space code of level 10
abbrev pub height_places : List ℕ
height_places = 1 ∷ 5 ∷ 6 ∷ 9 ∷ 11 ∷ 14 ∷ 17 ∷ 19 ∷ 22 ∷ 25 ∷ 28 ∷ 31 ∷ []
