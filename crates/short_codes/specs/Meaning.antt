-- What a short code means, and which answer its reader gives when.
-- Assumes nothing.
use Rattle.std.specs.Prelude.{Bool, true, false, List, ◌++◌, ◌≡◌, ℕ, ◌+◌, ◌-◌, ◌≤◌, ◌<◌, length, get_or}
use Rattle.grid.specs.Answers.{Answer, refused, refusal, wrong_length, wrong_at}
use Rattle.grid.specs.Characters.{digit_of}
use Rattle.places.specs.Book.{WellFormed}
use Rattle.places.specs.Meaning.{Named}
use Rattle.reference.specs.Offsets.{offset_digit}
use Rattle.reference.specs.Text.{HYPHEN, target_text}
use Rattle.short_codes.specs.Text.{name_in, last_three}

-- the character at place p is one of an offset's
abbrev pub OffsetAt : List ℕ → ℕ → Bool → Type 0
OffsetAt w p q = offset_digit (digit_of (get_or w p 0)) ≡ q

-- p is the first of the last three bytes that is wrong: no hyphen, or the hyphen and no M, or the hyphen and M and no N
pub data FirstWrong (w : List ℕ) : ℕ → Type 0 where
  no_hyphen : (get_or w (length w - 3) 0 ≡ HYPHEN → ⊥) → FirstWrong w (length w - 3)
  no_m : get_or w (length w - 3) 0 ≡ HYPHEN → OffsetAt w (length w - 3 + 1) false → FirstWrong w (length w - 3 + 1)
  no_n : get_or w (length w - 3) 0 ≡ HYPHEN → OffsetAt w (length w - 3 + 1) true → OffsetAt w (length w - 3 + 2) false → FirstWrong w (length w - 3 + 2)

-- w has four bytes or more, and the last three are the hyphen, M and N
pub record Short (w : List ℕ) : Type 0 where
  pub long : 4 ≤ length w
  pub hyphen : get_or w (length w - 3) 0 ≡ HYPHEN
  pub m : OffsetAt w (length w - 3 + 1) true
  pub n : OffsetAt w (length w - 3 + 2) true

-- the reader's answers to a short code w with a place book s
pub data WhyShort (w s : List ℕ) : Answer (List ℕ) → Type 0 where
  -- 21: the book is badly formed
  badly : (WellFormed s → ⊥) → WhyShort w s (refused (refusal 21 0))
  -- 6: the short code has under four bytes
  six : WellFormed s → length w < 4 → WhyShort w s (refused wrong_length)
  -- 7 or 20: it has four or more, and p is the first of the last three that is wrong
  wrong : {p : ℕ} → WellFormed s → 4 ≤ length w → FirstWrong w p → WhyShort w s (refused (wrong_at w p))
  -- 22: they are right, and no entry has the name
  nowhere : WellFormed s → Short w → (Named (name_in w) s → ⊥) → WhyShort w s (refused (refusal 22 0))
  -- what the reference reader gives for the code of the entry that has the name, with the last three bytes behind it
  somewhere : {a : Answer (List ℕ)} → Short w → (x : Named (name_in w) s) → target_text (x.entry.code ++ last_three w) ≡ a → WhyShort w s a
