-- What it is that a contract determines its results.
-- Assumes nothing.
use Rattle.std.specs.Prelude.{◌≡◌}

-- two results that one contract allows are equal; where a line or a book is lent, the result is the answer and every byte or record of it
abbrev pub Determined : {A : Type 0} → (A → Type 0) → Type 0
Determined {A} Allowed = (a b : A) → Allowed a → Allowed b → a ≡ b
