-- What reading the levels 2 to l of a polar code finds, level by level; and what is known of the cell that was found.
-- Assumes nothing.
use mathlib.Core.Path.{◌≡◌, refl, ◌∙◌, ap}
use mathlib.Core.Bool.{Bool, true}
use mathlib.Core.List.{List, [], ◌∷◌, ◌++◌, map}
use Prim.Native.Nat.{ℕ, zero, suc, ◌+◌, ◌-◌, ◌≤◌, ◌<◌}
use native.Mathlib.Numerals.{add-one}
use native.Mathlib.Omega.{arith}
use lib.Dec.{eqb}
use lib.ListN.{take, drop}
use lib.Seq.{take-suc, drop-drop}
use borrow.Author.Tests.{eqb-true}
use Rattle.grid.specs.declared.Split.{Split}
use Rattle.grid.specs.Characters.{digit_of}
use Rattle.grid.specs.Tree.{Read, ok, bad, shift, next, follow}
use Rattle.grid.specs.Splits.{split, splits, split_at}
use Rattle.grid.specs.Plane.{Node, pole, child_of, plane}
use Rattle.grid.specs.inner.Roads.{place_of}
use Rattle.grid.specs.inner.Standing.{level_place, plane_in}
use Rattle.grid.proofs.Cut.{clash, below}
use Rattle.grid.proofs.Lists.{take_map, drop_map}
use Rattle.grid.proofs.Lengths.{adds}
use Rattle.grid.proofs.Standing.{plane_run}
use Rattle.grid.proofs.Laws.{total, shift_shift}
use Rattle.grid.proofs.PlaneLaws.{Good, fits_pole, laws}
use Rattle.polar_read.specs.inner.Given.{OfLevel}
use Rattle.polar_read.specs.inner.Reading.{polar_level_digits}
use Rattle.polar_read.proofs.Follow.{follow_split, follow_on}

-- what reading the levels 2 to l of the plane code v finds, from N000 or S000 on
unfoldable pub so_far : Bool → ℕ → List ℕ → Read Node
so_far n l v = shift 4 (follow plane (drop 1 (take l splits)) (pole n) (map digit_of (drop 4 v)))

-- ---- the table: lengths add up, and from N000 or S000 on every level divides evenly

lengths : (j : ℕ) → j < 10 → 4 + total plane (drop 1 (take (suc j) splits)) ≡ (split_at j).length
unfolding total
lengths j h = eqb-true _ _ (below (λ j. eqb (4 + total plane (drop 1 (take (suc j) splits))) (split_at j).length) 10 j refl h)

even : (j : ℕ) → j < 10 → fits_pole (drop 1 (take (suc j) splits) ++ drop (suc j) splits) ≡ true
even j h = below (λ j. fits_pole (drop 1 (take (suc j) splits) ++ drop (suc j) splits)) 10 j refl h

-- ---- one level more

next_done : {A : Type 0} (k : ℕ) (r : Read A) → next k r ok ≡ r
next_done k (ok a) = refl
next_done k (bad p) = refl

shift_ok : {A : Type 0} (k : ℕ) (r : Read A) (a : A) → shift k r ≡ ok a → r ≡ ok a
shift_ok k (ok b) a e = e
shift_ok k (bad p) a e = clash (cc)

-- what the next level finds, from what was found
abbrev then : (Node → Read Node) → Read Node → Read Node
then f (ok m) = f m
then f (bad p) = bad p

-- where the characters of the level t, from a place on, lead from the node m
abbrev level_at : Split → ℕ → List ℕ → Node → Read Node
level_at t at w m = shift at (child_of t m (map digit_of (take t.characters (drop at w))))

one_level : (t : Split) (m : Node) (d : List ℕ) → follow plane (t ∷ []) m d ≡ child_of t m (take t.characters d)
unfolding follow
one_level t m d = next_done t.characters (child_of t m (take t.characters d))

more : (ts : List Split) (t : Split) (n : Node) (w : List ℕ)
    → shift 4 (follow plane (ts ++ (t ∷ [])) n (map digit_of (drop 4 w))) ≡ then (level_at t (4 + total plane ts) w) (shift 4 (follow plane ts n (map digit_of (drop 4 w))))
more ts t n w = ap (shift 4) (follow_split plane ts (t ∷ []) n (map digit_of (drop 4 w))) ∙ go (follow plane ts n (map digit_of (drop 4 w)))
  where
    same : take t.characters (drop (total plane ts) (map digit_of (drop 4 w))) ≡ map digit_of (take t.characters (drop (4 + total plane ts) w))
    same = rw (drop_map digit_of (total plane ts) (drop 4 w), drop-drop (total plane ts) 4 w) (take_map digit_of t.characters (drop (4 + total plane ts) w))

    go : (r : Read Node) → shift 4 (next (total plane ts) r (λ m. follow plane (t ∷ []) m (drop (total plane ts) (map digit_of (drop 4 w))))) ≡ then (level_at t (4 + total plane ts) w) (shift 4 r)
    go (ok m) =
        shift_shift 4 (total plane ts) (follow plane (t ∷ []) m (drop (total plane ts) (map digit_of (drop 4 w))))
        ∙ ap (shift (4 + total plane ts)) (one_level t m (drop (total plane ts) (map digit_of (drop 4 w))) ∙ ap (child_of t m) same)
    go (bad p) = refl

one_more : (n : Bool) (j : ℕ) (w : List ℕ) → suc j < 10 → so_far n (suc (suc j)) w ≡ then (level_at (split_at (suc j)) (split_at j).length w) (so_far n (suc j) w)
unfolding so_far
one_more n j w h =
    ap (λ (us : List Split). shift 4 (follow plane us (pole n) (map digit_of (drop 4 w)))) (ap (drop 1) (take-suc splits (suc j) (split 0 0 0 0 0 0 0 0) h))
    ∙ more (drop 1 (take (suc j) splits)) (split_at (suc j)) (pole n) w
    ∙ ap (λ (at : ℕ). then (level_at (split_at (suc j)) at w) (so_far n (suc j) w)) (lengths j (omega arith))

-- in a code the characters of the level, from where they stand in it
pub so_far_on : {spaced : Bool} {level : ℕ} {w : List ℕ} → OfLevel spaced level w → (n : Bool) (l : ℕ) {m : Node} → 1 ≤ l → l < level → so_far n l (plane_in spaced level w) ≡ ok m
    → so_far n (l + 1) (plane_in spaced level w) ≡ shift (split_at (l - 1)).length (child_of (split_at l) m (polar_level_digits (split_at l) (level_place spaced l (split_at l)) w))
so_far_on o n zero a b e = absurd (omega arith)
so_far_on {spaced} {level} {w} o n (suc j) a b e =
    let v = plane_in spaced level w in
    let z : suc j - 1 ≡ j = omega arith in
    let p : place_of (split_at (suc j)) ≡ (split_at j).length = omega (arith, adds j (omega (arith, o.most))) in
    rw (add-one (suc j), z, plane_run level w o.some o.most spaced (suc j) a b o.long, p)
    (one_more n j v (omega (arith, o.most)) ∙ ap (then (level_at (split_at (suc j)) (split_at j).length v)) e)

pub so_far_bad : (n : Bool) (l : ℕ) (w : List ℕ) {p : ℕ} → 1 ≤ l → l < 10 → so_far n l w ≡ bad p → so_far n (l + 1) w ≡ bad p
so_far_bad n zero w a b e = absurd (omega arith)
so_far_bad n (suc j) w a b e = rw (add-one (suc j)) (one_more n j w b ∙ ap (then (level_at (split_at (suc j)) (split_at j).length w)) e)

-- ---- the cell that was found can be divided further, and so is not empty and lies in its frame

pub so_far_good : (n : Bool) (l : ℕ) (w : List ℕ) {m : Node} → 1 ≤ l → l ≤ 10 → so_far n l w ≡ ok m → Good (drop l splits) m
unfolding so_far
so_far_good n zero w a b e = absurd (omega arith)
so_far_good n (suc j) w {m} a b e =
    follow_on plane laws (drop 1 (take (suc j) splits)) (drop (suc j) splits) (pole n) (map digit_of (drop 4 w)) m (even j b) (shift_ok 4 _ m e)

-- nothing is read before level 2
pub first_level : (n : Bool) (v : List ℕ) → so_far n 1 v ≡ ok (pole n)
unfolding so_far follow
first_level n v = refl

-- a level's characters follow those before
pub follows : (k : ℕ) → 1 ≤ k → k < 10 → (split_at (k - 1)).length + (split_at k).characters ≡ (split_at k).length
follows k a b = let e : suc (k - 1) ≡ k = omega arith in rw e at (adds (k - 1) (omega arith))
