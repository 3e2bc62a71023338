-- Stores in a line: a copy that grows byte by byte, and three bytes behind it.
-- Assumes nothing.
use mathlib.Core.Path.{◌≡◌, refl, ◌∙◌, ap}
use mathlib.Core.List.{List, [], ◌∷◌, ◌++◌}
use Prim.Native.Nat.{ℕ, suc, ◌+◌, ◌≤◌, ◌<◌}
use native.Mathlib.Nat.{zero-add}
use native.Mathlib.Numerals.{add-one}
use native.Mathlib.Omega.{arith}
use lib.ListN.{length, take, set, get_or, length-append}
use lib.Seq.{sets, take-suc, take_all, length-take-le}
use Rattle.grid.proofs.Lists.{sets_append}
use Rattle.grid.specs.Characters.{char_of}
use Rattle.reference.specs.Text.{reference_code}

-- one byte more
pub copied_more : (b l line : List ℕ) (i : ℕ) → i < length b → line ≡ sets l 0 (take i b) → set line i (get_or b i 0) ≡ sets l 0 (take (i + 1) b)
copied_more b l line i h e =
    let n : length (take i b) ≡ i = length-take-le i b (omega arith) in
    rw (add-one i, take-suc b i 0 h, sets_append l 0 (take i b) (get_or b i 0 ∷ []), zero-add, n, e) refl

-- all of them
pub copied_all : (b l line : List ℕ) (i : ℕ) → length b ≤ i → line ≡ sets l 0 (take i b) → line ≡ sets l 0 b
copied_all b l line i h e = e ∙ ap (sets l 0) (take_all i b h)

-- three bytes behind them
pub three_more : (b l line : List ℕ) (x y z : ℕ) → line ≡ sets l 0 b → set (set (set line (length b) x) (length b + 1) y) (length b + 2) z ≡ sets l 0 (b ++ (x ∷ y ∷ z ∷ []))
three_more b l line x y z e =
    let one : length b + 1 ≡ suc (length b) = omega arith in
    let two : length b + 2 ≡ suc (suc (length b)) = omega arith in
    rw (one, two, sets_append l 0 b (x ∷ y ∷ z ∷ []), zero-add, e) refl

-- a reference code is three bytes longer than its base
pub reference_length : (w : List ℕ) (m n : ℕ) → length (reference_code w m n) ≡ length w + 3
reference_length w m n = length-append w (45 ∷ char_of m ∷ char_of n ∷ [])
