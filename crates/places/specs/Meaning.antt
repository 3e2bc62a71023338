-- What it means that a name is in a place book and where it stands, and which answer is given when.
-- Assumes nothing.
use Rattle.std.specs.Prelude.{List, ◌∷◌, ◌++◌, ◌≡◌, ℕ, ◌+◌, length}
use Rattle.grid.specs.Answers.{Answer, accepted, refused, refusal}
use Rattle.places.specs.Book.{Entry, bodies, first_body, BookWith, WellFormed}
use Rattle.places.specs.Finding.{spot_at}
use Rattle.places.specs.declared.Spot.{Spot}

-- s is a well-formed book in which an entry has the name; the entries before it, it, and those behind it
pub record Named (asked s : List ℕ) : Type 0 where
  pub before : List Entry
  pub entry : Entry
  pub behind : List Entry
  pub book : BookWith s (before ++ (entry ∷ behind))
  pub named : entry.name ≡ asked

-- where that entry stands: behind the count, the contents and the bodies of those before it
abbrev pub spot_of : {asked s : List ℕ} → Named asked s → Spot
spot_of x = spot_at (first_body (length (x.before ++ (x.entry ∷ x.behind))) + length (bodies x.before)) x.entry

-- the answers to a name
pub data WhyFound (asked s : List ℕ) : Answer Spot → Type 0 where
  -- 21: the book is badly formed
  badly_formed : (WellFormed s → ⊥) → WhyFound asked s (refused (refusal 21 0))
  -- 22: it is not, and no entry has the name
  not_in_book : WellFormed s → (Named asked s → ⊥) → WhyFound asked s (refused (refusal 22 0))
  -- where the entry stands that has it
  in_book : (x : Named asked s) → WhyFound asked s (accepted (spot_of x))
