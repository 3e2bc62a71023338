-- The place book (document 02, Wish 6): a list of names with their plane codes, and the bytes that it stands in.
-- Assumes nothing.
use Rattle.std.specs.Prelude.{Bool, true, false, cond, ◌&&◌, not, List, [], ◌∷◌, ◌++◌, ◌≡◌, ℕ, ◌+◌, ◌*◌, ◌/◌, ◌%◌, ◌≤◌, ltb, leb, eqb, length}
use Rattle.grid.specs.Answers.{Answer, accepted, refused}
use Rattle.grid.specs.Plane.{cell_of}

-- a place: its name and its plane code
pub record Entry : Type 0 where
  pub name : List ℕ
  pub code : List ℕ

-- ---- the bytes

-- the contents, four bytes an entry: where its body begins, the higher byte first, and the lengths of name and code; the first body begins at `at`
abbrev pub contents : ℕ → List Entry → List ℕ
contents at [] = []
contents at (e ∷ es) =
    (at / 256) ∷ (at % 256) ∷ length e.name ∷ length e.code ∷ contents (at + length e.name + length e.code) es

-- the bodies, without gaps in the same order: each name followed by its code
abbrev pub bodies : List Entry → List ℕ
bodies [] = []
bodies (e ∷ es) = e.name ++ (e.code ++ bodies es)

-- where the first of n bodies begins, straight behind the contents
abbrev pub first_body : ℕ → ℕ
first_body n = 2 + 4 * n

-- the book: the count, the higher byte first, the contents, the bodies
unfoldable pub book_of : List Entry → List ℕ
book_of es = (length es / 256) ∷ (length es % 256) ∷ (contents (first_body (length es)) es ++ bodies es)

-- ---- which lists have a book

-- dictionary order as bytes: 0 where the first is below the second, 1 where they are the same, 2 where it is above
abbrev pub order : List ℕ → List ℕ → ℕ
order [] [] = 1
order [] (y ∷ b) = 0
order (x ∷ a) [] = 2
order (x ∷ a) (y ∷ b) = cond (ltb x y) 0 (cond (ltb y x) 2 (order a b))

-- the first is below the second
abbrev pub below : List ℕ → List ℕ → Bool
below a b = eqb (order a b) 0

-- no byte is a hyphen
abbrev pub unhyphened : List ℕ → Bool
unhyphened [] = true
unhyphened (x ∷ w) = not (eqb x 45) && unhyphened w

-- it is a result
abbrev pub is_accepted : {C : Type 0} → Answer C → Bool
is_accepted (accepted c) = true
is_accepted (refused r) = false

-- an entry that a book may have: a name of 1 to 64 bytes that holds no hyphen, and a code that the plane reader accepts
unfoldable pub is_entry : Entry → Bool
is_entry e =
    leb 1 (length e.name) && (leb (length e.name) 64 && (unhyphened e.name && is_accepted (cell_of e.code)))

-- each of them is such an entry
abbrev pub all_entries : List Entry → Bool
all_entries [] = true
all_entries (e ∷ es) = is_entry e && all_entries es

-- the names rise strictly: each is below the next
abbrev pub rising : List Entry → Bool
rising [] = true
rising (e ∷ []) = true
rising (e ∷ (d ∷ es)) = below e.name d.name && rising (d ∷ es)

-- a list that has a book: at most 1,000 entries that a book may have, with names that rise strictly, and at most 65,535 bytes
pub record Good (es : List Entry) : Type 0 where
  pub few : length es ≤ 1000
  pub fit_each : all_entries es ≡ true
  pub rise : rising es ≡ true
  pub short : length (book_of es) ≤ 65535

-- s is a well-formed book, and es its entries
pub record BookWith (s : List ℕ) (es : List Entry) : Type 0 where
  pub good : Good es
  pub same : book_of es ≡ s

-- s is a well-formed book: some list has these bytes
abbrev pub WellFormed : List ℕ → Type 0
WellFormed s = (es : List Entry) × BookWith s es
