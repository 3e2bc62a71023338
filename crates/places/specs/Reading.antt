-- Reading a place book, entry by entry: its list, or none where it is badly formed.
-- Assumes nothing.
use Rattle.std.specs.Prelude.{Bool, cond, ◌&&◌, List, [], ◌∷◌, ℕ, zero, suc, ◌+◌, ◌*◌, ◌<◌, leb, eqb, length, get_or, take, drop}
use Rattle.std.proofs.Math.Option.{Option, some, none}
use Rattle.grid.specs.Plane.{cell_of}
use Rattle.places.specs.Book.{Entry, first_body, below, unhyphened, is_accepted}

-- the number of two bytes at i, the higher first
abbrev pub word_at : List ℕ → ℕ → ℕ
word_at s i = 256 * get_or s i 0 + get_or s (i + 1) 0

-- the entry whose contents stand at i and whose body begins at `at`
abbrev pub entry_at : List ℕ → ℕ → ℕ → Entry
entry_at s i at =
    record {
      name = take (get_or s (i + 2) 0) (drop at s);
      code = take (get_or s (i + 3) 0) (drop (at + get_or s (i + 2) 0) s);
    }

-- where the next body begins
abbrev pub next_body : List ℕ → ℕ → ℕ → ℕ
next_body s i at = at + get_or s (i + 2) 0 + get_or s (i + 3) 0

-- an entry may stand after the name `last`: a name above it of at most 64 bytes that holds no hyphen, and a code that the plane reader accepts
unfoldable pub fair : List ℕ → List ℕ → List ℕ → Bool
fair last name code = below last name && (leb (length name) 64 && (unhyphened name && is_accepted (cell_of code)))

-- the contents at i give a body at `at`, inside the book, and an entry that may stand after the name `last`
unfoldable pub fair_at : List ℕ → ℕ → ℕ → List ℕ → Bool
fair_at s i at last =
    eqb (word_at s i) at
    && (leb (next_body s i at) (length s) && fair last (entry_at s i at).name (entry_at s i at).code)

-- an entry before those that are read after it
abbrev pub entry_then : Entry → Option (List Entry) → Option (List Entry)
entry_then e none = none
entry_then e (some es) = some (e ∷ es)

-- k entries, with the contents from i on and the bodies from `at` on, after the name `last`; the last body ends the book
unfoldable pub entries_from : List ℕ → ℕ → ℕ → ℕ → List ℕ → Option (List Entry)
entries_from s zero i at last = cond (eqb at (length s)) (some []) none
entries_from s (suc k) i at last =
    cond (fair_at s i at last) (entry_then (entry_at s i at) (entries_from s k (i + 4) (next_body s i at) (entry_at s i at).name)) none

-- the lengths are such that the contents can be read
unfoldable pub sized : List ℕ → Bool
sized s =
    leb 2 (length s) && (leb (length s) 65535 && (leb (word_at s 0) 1000 && leb (first_body (word_at s 0)) (length s)))

-- the entries of a book, or none where it is badly formed; every name is above the empty one
unfoldable pub entries_of : List ℕ → Option (List Entry)
entries_of s = cond (sized s) (entries_from s (word_at s 0) 2 (first_body (word_at s 0)) []) none

-- each is a byte
abbrev pub Bytes : List ℕ → Type 0
Bytes s = (i : ℕ) → get_or s i 0 < 256
