-- Code characters and digits. A digit is a number below 32: 0 to 9, then the letters A to V (N is 23, S is 28).
-- Assumes nothing.
use Rattle.std.specs.Prelude.{ℕ, ◌+◌, ◌-◌, Bool, cond, ◌&&◌, nat_le, nat_lt}

-- a digit's byte: '0' to '9', then 'A' to 'V'
unfoldable pub char_of : ℕ → ℕ
char_of v = cond (nat_lt v 10) (48 + v) (55 + v)

-- a byte's digit; 32 where it is no code character
unfoldable pub digit_of : ℕ → ℕ
digit_of b = cond (nat_le 48 b && nat_le b 57) (b - 48) (cond (nat_le 65 b && nat_le b 86) (b - 55) 32)

-- the byte counts as a code character: 0 to 9 and A to V do (document 02, Wish 5)
abbrev pub code_character : ℕ → Bool
code_character b = nat_lt (digit_of b) 32
