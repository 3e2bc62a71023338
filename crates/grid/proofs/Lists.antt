-- Lists of numbers: a part of a mapped list, and stores one after another.
-- They are missing from the libraries; the crates that read and write codes cite them. Assumes nothing.
use Rattle.std.proofs.Common.{◌≡◌, ℕ, zero, suc, ◌+◌, ◌<◌, ◌≤◌, List, [], ◌∷◌, ◌++◌, map, length, get_or, take, drop, set, refl, ap, add-zero, add-suc, suc-add, add-one, arith, drop-cons}
use lib.Seq.{sets}

pub take_map : (f : ℕ → ℕ) (n : ℕ) (l : List ℕ) → take n (map f l) ≡ map f (take n l)
take_map f zero l = refl
take_map f (suc n) [] = refl
take_map f (suc n) (x ∷ l) = ap (λ y. f x ∷ y) (take_map f n l)

pub drop_map : (f : ℕ → ℕ) (n : ℕ) (l : List ℕ) → drop n (map f l) ≡ map f (drop n l)
drop_map f zero l = refl
drop_map f (suc n) [] = refl
drop_map f (suc n) (x ∷ l) = drop_map f n l

pub get_d_map_at : (f : ℕ → ℕ) (l : List ℕ) (i : ℕ) → i < length l → get_or (map f l) i 0 ≡ f (get_or l i 0)
get_d_map_at f [] i h = absurd (omega arith)
get_d_map_at f (x ∷ l) zero h = refl
get_d_map_at f (x ∷ l) (suc i) h = get_d_map_at f l i (omega arith)

pub sets_append : (l : List ℕ) (i : ℕ) (xs ys : List ℕ) → sets l i (xs ++ ys) ≡ sets (sets l i xs) (i + length xs) ys
sets_append l i [] ys = rw add-zero
sets_append l i (x ∷ xs) ys = rw (add-suc, ← suc-add) (sets_append (set l i x) (suc i) xs ys)

-- one or two elements from a place on
pub map_one : (f : ℕ → ℕ) (w : List ℕ) (at : ℕ) → at + 1 ≤ length w → map f (take 1 (drop at w)) ≡ f (get_or w at 0) ∷ []
map_one f w at h = rw (drop-cons w at 0 (omega arith)) refl

pub map_two : (f : ℕ → ℕ) (w : List ℕ) (at : ℕ) → at + 2 ≤ length w → map f (take 2 (drop at w)) ≡ f (get_or w at 0) ∷ f (get_or w (at + 1) 0) ∷ []
map_two f w at h = rw (drop-cons w at 0 (omega arith), drop-cons w (suc at) 0 (omega arith), add-one at) refl
