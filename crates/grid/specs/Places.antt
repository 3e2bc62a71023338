-- When a reader of codes refuses with 6, with 7 and with 20, and at which place: stated once, over the reader and the lengths of its codes.
-- Assumes nothing.
use Rattle.std.specs.Prelude.{◌≡◌, ℕ, suc, ◌<◌, Bool, true, false, ◌||◌, ◌⊎◌, ◌↔◌, List, [], ◌∷◌, length, take, ◌==◌, ◌≢◌, slice_index}
use Rattle.grid.specs.Characters.{code_character}
use Rattle.grid.specs.Answers.{Answer, accepted, refused, refusal, wrong_length, wrong_at}

-- n is one of the list
abbrev pub among : ℕ → List ℕ → Bool
among n [] = false
among n (x ∷ xs) = n == x || among n xs

-- the byte b is one of w's
abbrev pub StandsIn : ℕ → List ℕ → Type 0
StandsIn b w = (p : ℕ) × (p < length w) × (slice_index w p ≡ b)

module _ {C : Type 0} (read : List ℕ → Answer C) where
  -- w is accepted
  abbrev pub Accepted : List ℕ → Type 0
  Accepted w = (c : C) × (read w ≡ accepted c)

  -- p is the first place at which no accepted code of w's length goes on: one has w's characters before p, none has that at p too
  pub record FirstBad (w : List ℕ) (p : ℕ) : Type 0 where
    pub inside : p < length w
    pub before : (v : List ℕ) × (length v ≡ length w) × Accepted v × (take p v ≡ take p w)
    pub no_further : (v : List ℕ) → length v ≡ length w → Accepted v → take (suc p) v ≢ take (suc p) w

  -- of a reader whose codes have these lengths
  pub record Places (lengths : List ℕ) : Type 0 where
    -- every string of bytes is accepted, or gets 6, or gets 7 or 20 with a place
    pub accepted_six_or_wrong : (w : List ℕ) → Accepted w ⊎ ((read w ≡ refused wrong_length) ⊎ ((p : ℕ) × (read w ≡ refused (wrong_at w p))))
    -- 6 exactly when its length is none of these
    pub six_exactly_when : (w : List ℕ) → (read w ≡ refused wrong_length) ↔ (among (length w) lengths ≡ false)
    -- these are exactly the lengths that accepted codes have
    pub lengths_exactly : (n : ℕ) → (among n lengths ≡ true) ↔ ((w : List ℕ) × (length w ≡ n) × Accepted w)
    -- 7 or 20 at p exactly when p is the first place at which no accepted code of that length goes on
    pub wrong_exactly_when : (w : List ℕ) (p : ℕ) → (read w ≡ refused (wrong_at w p)) ↔ FirstBad w p
    -- 7 exactly when the byte there is no code character
    pub seven_exactly_when : (w : List ℕ) (p : ℕ) → (read w ≡ refused (refusal 7 p)) ↔ (FirstBad w p × (code_character (slice_index w p) ≡ false))
    -- 20 exactly when it is one
    pub twenty_exactly_when : (w : List ℕ) (p : ℕ) → (read w ≡ refused (refusal 20 p)) ↔ (FirstBad w p × (code_character (slice_index w p) ≡ true))
