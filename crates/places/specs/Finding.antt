-- What a name leads to in a place book.
-- Assumes nothing.
use Rattle.std.specs.Prelude.{cond, List, [], ◌∷◌, ℕ, ◌+◌, eqb, length, take, drop, Result, Ok, Err}
use Rattle.std.proofs.Math.Option.{Option, some, none}
use Rattle.grid.specs.declared.Refusal.{Refusal}
use Rattle.grid.specs.Answers.{Answer, accepted, refused, refusal, and_then}
use Rattle.places.specs.Book.{Entry, bodies, first_body, order, below}
use Rattle.places.specs.Reading.{entries_of}
use Rattle.places.specs.declared.Spot.{Spot}
use Rattle.places.specs.declared.NotFound.{NotFound}
use Rattle.places.specs.declared.NotFound.TheVariants.{BadlyFormed, NotInBook}

-- the entries whose names are below the asked one
abbrev pub front : List ℕ → List Entry → List Entry
front asked [] = []
front asked (e ∷ es) = cond (below e.name asked) (e ∷ front asked es) []

-- and the entries from there on
abbrev pub back : List ℕ → List Entry → List Entry
back asked [] = []
back asked (e ∷ es) = cond (below e.name asked) (back asked es) (e ∷ es)

-- where an entry stands whose body begins at `at`: its name, and its code straight behind it
abbrev pub spot_at : ℕ → Entry → Spot
spot_at at e = record { start = at; name = length e.name; code = length e.code }

-- the first entry that is not below the asked name, with its body at `at`, is the one that has it, or else none has: 22
abbrev pub found_here : List ℕ → ℕ → List Entry → Answer Spot
found_here asked at [] = refused (refusal 22 0)
found_here asked at (e ∷ es) = cond (eqb (order e.name asked) 1) (accepted (spot_at at e)) (refused (refusal 22 0))

-- what a name leads to among the entries of a book
abbrev pub found_among : List ℕ → List Entry → Answer Spot
found_among asked es = found_here asked (first_body (length es) + length (bodies (front asked es))) (back asked es)

-- 21 where there are no entries to be read
abbrev pub well_formed : Option (List Entry) → Answer (List Entry)
well_formed none = refused (refusal 21 0)
well_formed (some es) = accepted es

-- what a name leads to in a book: 21, 22, or where its entry stands
unfoldable pub found_in : List ℕ → List ℕ → Answer Spot
found_in asked s = and_then (well_formed (entries_of s)) (found_among asked)

-- the bytes where an entry stands; none where it is refused
abbrev pub part_at : List ℕ → Answer Spot → List ℕ
part_at s (accepted p) = take (p.name + p.code) (drop p.start s)
part_at s (refused r) = []

-- the part of a book that a name's entry occupies: name and code
unfoldable pub part_in : List ℕ → List ℕ → List ℕ
part_in asked s = part_at s (found_in asked s)

-- why a name leads to no entry, in the paper's numbers
abbrev pub place_refusal : NotFound → Refusal
place_refusal BadlyFormed = refusal 21 0
place_refusal NotInBook = refusal 22 0

-- an answer in the paper's numbers
abbrev pub place_found : Result Spot NotFound → Answer Spot
place_found (Ok p) = accepted p
place_found (Err why) = refused (place_refusal why)
