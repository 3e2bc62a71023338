-- What the walk over a place book keeps, and what its parts answer to each other.
-- Assumes nothing.
use Rattle.std.specs.Prelude.{Bool, true, cond, List, [], ◌∷◌, ◌≡◌, ℕ, ◌+◌, ◌*◌, ◌≤◌, eqb, length, drop, Option, Some, None, Result, Ok, Err}
use Rattle.std.specs.Option.{is_some}
use Rattle.std.proofs.Math.Option as math
use Rattle.std.proofs.Math.Option.{some, none}
use Rattle.std.specs.Simd.{first_chunks}
use Rattle.grid.specs.Answers.{Answer, accepted, refused, refusal}
use Rattle.places.specs.Book.{Entry, first_body, order, below, unhyphened}
use Rattle.places.specs.Reading.{word_at, entries_from}
use Rattle.places.specs.Finding.{place_refusal}
use Rattle.places.specs.declared.Spot.{Spot}
use Rattle.places.specs.declared.Met.{Met}
use Rattle.places.specs.declared.Seen.{Seen}
use Rattle.places.specs.declared.NotFound.{NotFound}
use Rattle.places.specs.declared.NotFound.TheVariants.{BadlyFormed}

-- the number of four bytes at i, the highest first
abbrev pub four_at : List ℕ → ℕ → ℕ
four_at s i = 65536 * word_at s i + word_at s (i + 2)

-- two names begin alike up to i: the rest decides their order, and where the first has no hyphen, whether the second has one
pub record AlikeTo (a b : List ℕ) (i : ℕ) : Type 0 where
  pub inside_a : i ≤ length a
  pub inside_b : i ≤ length b
  pub decides : order (drop i a) (drop i b) ≡ order a b
  pub hyphens : unhyphened a ≡ true → (unhyphened (drop i a) ≡ true) × (unhyphened (drop i b) ≡ unhyphened b)

-- and have no four bytes more alike
pub record Alike (a b : List ℕ) (i : ℕ) : Type 0 where
  pub to : AlikeTo a b i
  pub apart : i + 4 ≤ length a → i + 4 ≤ length b → four_at a i ≡ four_at b i → ⊥

-- ---- what is kept of an asked name

-- so many names below, the next body at `at`, and no entry met yet that is not below
abbrev pub opened : ℕ → ℕ → Seen
opened b at = record { below = b; start = at; met = None }

-- such an entry met, and whether it has the name
abbrev pub closed : ℕ → ℕ → Bool → ℕ → ℕ → Seen
closed b at q n m = record { below = b; start = at; met = Some (record { same = q; name = n; code = m }) }

-- the first of the entries that are not below
abbrev pub headed : List ℕ → ℕ → ℕ → List Entry → Seen
headed asked b at [] = opened b at
headed asked b at (e ∷ es) = closed b at (eqb (order e.name asked) 1) (length e.name) (length e.code)

-- what one more entry makes of it
unfoldable pub note : List ℕ → Seen → List ℕ → ℕ → Seen
note asked v name m =
    cond (is_some v.met) v
    (cond (below name asked) (opened (v.below + 1) (v.start + length name + m))
    (closed v.below v.start (eqb (order name asked) 1) (length name) m))

-- what entries make of it
abbrev pub notes : List ℕ → Seen → List Entry → Seen
notes asked v [] = v
notes asked v (e ∷ es) = notes asked (note asked v e.name (length e.code)) es

-- or the book is badly formed
abbrev pub noted : List ℕ → Seen → math.Option (List Entry) → Result Seen NotFound
noted asked v none = Err BadlyFormed
noted asked v (some es) = Ok (notes asked v es)

-- what the walk over all n entries of a book keeps
abbrev pub looked_in : List ℕ → List ℕ → ℕ → Result Seen NotFound
looked_in asked s n = noted asked (opened 0 (first_body n)) (entries_from s n 2 (first_body n) [])

-- the entry that was met, with its body at `at`, as an answer
abbrev pub met_answer : ℕ → Option Met → Answer Spot
met_answer at None = refused (refusal 22 0)
met_answer at (Some e) = cond e.same (accepted (record { start = at; name = e.name; code = e.code })) (refused (refusal 22 0))

-- what was kept, as an answer
abbrev pub settled : Seen → Answer Spot
settled v = met_answer v.start v.met

abbrev pub looked_answer : Result Seen NotFound → Answer Spot
looked_answer (Err why) = refused (place_refusal why)
looked_answer (Ok v) = settled v

-- ---- what is known before a step

-- the numbers fit
pub record Fits (v : Seen) (n m : ℕ) : Type 0 where
  pub few : v.below ≤ 1000
  pub near : v.start + n + m ≤ 65535

-- the contents of a book whose lengths are tested: four bytes an entry, straight behind the count, and inside it
pub record Contents (s : List ℕ) (c : List (List ℕ)) : Type 0 where
  pub count : length c ≡ word_at s 0
  pub few : length c ≤ 1000
  pub are : c ≡ first_chunks 4 (length c) (drop 2 s)
  pub room : first_body (length c) ≤ length s
  pub short : length s ≤ 65535
