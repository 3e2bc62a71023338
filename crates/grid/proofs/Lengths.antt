-- How long plane codes are: the table's lengths add up, and the code of a level has the length of its line.
-- Assumes nothing.
use Rattle.std.proofs.Common.{◌≡◌, ℕ, zero, suc, ◌+◌, ◌-◌, ◌<◌, ◌≤◌, Bool, true, ◌&&◌, eqb, ltb, leb, List, [], ◌∷◌, length, take, refl, ap, ◌∙◌, arith, ltb-true, ne_eqb, eqb-true, leb-true}
use mathlib.Core.Option.{none}
use lib.ListN.{length-map}
use Rattle.grid.specs.declared.Split.{Split}
use Rattle.grid.specs.Units.{Square, OnGlobe}
use Rattle.grid.specs.Characters.{char_of}
use Rattle.grid.specs.Tree.{code}
use Rattle.grid.specs.Codes.{place_in, code_in}
use Rattle.grid.specs.Splits.{splits, split_at}
use Rattle.grid.specs.inner.Roads.{place_of}
use Rattle.grid.specs.Plane.{globe, plane, plane_codes, code_of}
use Rattle.grid.proofs.Cut.{and_true, all_below, below}
use Rattle.grid.proofs.Laws.{total, length_code}
use Rattle.grid.proofs.PlaneLaws.{splits_fit, laws}

-- ---- the table

-- a level's characters follow those before
pub adds : (k : ℕ) → k < 9 → (split_at k).length + (split_at (suc k)).characters ≡ (split_at (suc k)).length
adds k h = eqb-true _ _ (below (λ k. eqb ((split_at k).length + (split_at (suc k)).characters) (split_at (suc k)).length) 9 k refl h)

-- codes of finer levels are longer
pub grows : (i j : ℕ) → i ≤ j → j < 10 → (split_at i).length ≤ (split_at j).length
grows i j a b =
    leb-true _ _
    (below (λ i. leb (split_at i).length (split_at j).length) (suc j) i
    (below (λ j. all_below (λ i. leb (split_at i).length (split_at j).length) (suc j)) 10 j refl b)
    (omega arith))

-- the length in the line of a level
pub length_at : (k level : ℕ) {s : Split} → s ≡ split_at k → level ≡ k + 1 → s.length ≡ (split_at (level - 1)).length
length_at k level e h = ap (λ (s : Split). s.length) e ∙ ap (λ (i : ℕ). (split_at i).length) (let z : k ≡ level - 1 = omega arith in z)

-- past a number that it is not
pub past : (k x : ℕ) → k ≤ x → (x ≡ k → ⊥) → k + 1 ≤ x
past k x h n = omega arith

pub just : (k x : ℕ) → k ≤ x → x ≤ k → x ≡ k
just k x h l = omega arith

-- the digits of the levels up to l
pub total_length : (l : ℕ) → 1 ≤ l → l ≤ 10 → total plane (take l splits) ≡ (split_at (l - 1)).length
unfolding total
total_length zero a b = absurd (omega arith)
total_length (suc l) a b = eqb-true _ _ (below (λ l. eqb (total plane (take (suc l) splits)) (split_at (suc l - 1)).length) 10 l refl (omega arith))

-- each number of a list is below m
abbrev pub all_under : ℕ → List ℕ → Bool
all_under m [] = true
all_under m (x ∷ xs) = ltb x m && all_under m xs

-- then a number from m on has no place in it
pub no_place : (m n k : ℕ) (xs : List ℕ) → all_under m xs ≡ true → m ≤ n → place_in n k xs ≡ none
no_place m n k [] e h = refl
no_place m n k (x ∷ xs) e h =
    let a = and_true (ltb x m) (all_under m xs) e in
    let l : x < m = ltb-true x m a.0 in
    rw (ne_eqb n x (λ q. omega arith)) (no_place m n (suc k) xs a.1 h)

-- ---- the codes

code_total : (k : ℕ) (s : Square) → OnGlobe s → k ≤ 10 → length (code_of k s) ≡ total plane (take k splits)
unfolding code_of code_in plane_codes
code_total k s o h =
    length-map (code plane (take k splits) globe s) char_of ∙ length_code plane laws (take k splits) globe s (splits_fit k h) o

pub code_length : (l : ℕ) (s : Square) → OnGlobe s → 1 ≤ l → l ≤ 10 → length (code_of l s) ≡ (split_at (l - 1)).length
code_length l s o a b = code_total l s o b ∙ total_length l a b

-- the code of level k ends where the characters of level k + 1 begin
pub code_start : (k : ℕ) (s : Square) → OnGlobe s → k < 10 → length (code_of k s) ≡ place_of (split_at k)
unfolding total
code_start k s o h =
    code_total k s o (omega arith)
    ∙ eqb-true _ _ (below (λ k. eqb (total plane (take k splits)) (place_of (split_at k))) 10 k refl h)
