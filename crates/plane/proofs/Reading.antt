-- The plane reader's answer, by the length, the first four characters, and the rest. Assumes nothing.
use Rattle.std.proofs.Common.{◌≡◌, ℕ, zero, suc, ◌-◌, ◌<◌, ◌≤◌, Bool, leb, List, map, length, get_or, take, drop, sym, refl, ap, ◌∙◌, subst, arith, length-take-le, leb-true}
use mathlib.Core.Option.{Option, some, none}
use lib.ListN.{length-map}
use Rattle.grid.specs.declared.Cell.{Cell}
use Rattle.grid.specs.declared.Place.{Place}
use Rattle.grid.specs.declared.Refusal.{Refusal}
use Rattle.grid.specs.Units.{HALF, QUARTER}
use Rattle.grid.specs.Characters.{digit_of}
use Rattle.grid.specs.Tree.{Read, ok, bad, next, follow}
use Rattle.grid.specs.Answers.{Answer, refused, wrong_length, wrong_character, wrong_at}
use Rattle.grid.specs.Codes.{place_in, answer, answer_at, read_in}
use Rattle.grid.specs.Splits.{splits, split_at}
use Rattle.grid.specs.Plane.{Node, plane, globe_child, plane_codes, code_of, cell_of}
use Rattle.grid.specs.inner.Roads.{square_of, later_read}
use Rattle.grid.specs.inner.Standing.{length_in, stands_at, plane_in, HasPlane}
use Rattle.grid.proofs.Cut.{below}
use Rattle.grid.proofs.Lists.{drop_map}
use Rattle.grid.proofs.Families.{level_length, length_level}
use Rattle.grid.proofs.Halting.{globe_halts}
use Rattle.grid.proofs.Standing.{plane_long, has_same}
use Rattle.grid.proofs.Lengths.{total_length}
use Rattle.grid.proofs.Theorems.{plane_sound}
use Rattle.plane.specs.inner.Lengths.{found, level_of}
use Rattle.std.specs.Prelude.{Some, None}
use Rattle.grid.proofs.Cut.{clash}
-- the grid's laws of how long a code is, and of a place on the globe, passed on
pub use Rattle.grid.proofs.Lengths.{code_length}
pub use Rattle.grid.proofs.PlaneLaws.{on_globe}

abbrev lengths : List ℕ
lengths = map (λ t. t.length) splits

-- what a level that was found says
pub record Leveled (n l : ℕ) : Type 0 where
  pub place : place_in n 1 lengths ≡ some l
  pub low : 1 ≤ l
  pub high : l ≤ 10
  pub long : n ≡ (split_at (l - 1)).length

pub leveled : (n : ℕ) {l : ℕ} → Some l ≡ level_of n → Leveled n l
unfolding level_of plane_codes
leveled n {l} e = go (place_in n 1 lengths) refl
  where
    go : (o : Option ℕ) → place_in n 1 lengths ≡ o → Leveled n l
    go none p = let z : Some l ≡ None = e ∙ ap found p in clash (cc)
    go (some k) p =
        let z : Some l ≡ Some k = e ∙ ap found p in
        let q : l ≡ k = cc in
        let t = level_length plane_codes plane_sound n k p in
        subst (Leveled n) (sym q) (record { place = p; low = t.0; high = t.1; long = t.2 ∙ total_length k t.0 t.1 })

-- a code that is as long as those of a level
pub leveled_at : (n l : ℕ) → 1 ≤ l → l ≤ 10 → n ≡ (split_at (l - 1)).length → Leveled n l
unfolding plane_codes
leveled_at n l a b e =
    record { place = rw (e ∙ sym (total_length l a b)) (length_level plane_codes plane_sound l a b); low = a; high = b; long = e }

module _ (w : List ℕ) where
  pub read_none : None ≡ level_of (length w) → refused wrong_length ≡ cell_of w
  unfolding level_of cell_of read_in plane_codes
  read_none e = go (place_in (length w) 1 lengths) refl
    where
      go : (o : Option ℕ) → place_in (length w) 1 lengths ≡ o → refused wrong_length ≡ answer_at plane_codes w o
      go none p = refl
      go (some k) p = let z : None ≡ Some k = e ∙ ap found p in clash (cc)

  -- the first four characters, and the rest
  by_first : (l : ℕ) → Leveled (length w) l → (r : Read Node) → globe_child (take 4 (map digit_of w)) ≡ r
      → unfold plane_codes in (answer plane_codes w l (next 4 r (λ m. follow plane (drop 1 (take l splits)) m (drop 4 (map digit_of w)))) ≡ cell_of w)
  unfolding cell_of read_in plane_codes follow
  by_first zero t r e = let z : 1 ≤ 0 = t.low in absurd (omega arith)
  by_first (suc l) t r e = rw (t.place, e) refl

  read_first : {l p : ℕ} → Leveled (length w) l → bad p ≡ globe_child (take 4 (map digit_of w)) → refused (wrong_at w p) ≡ cell_of w
  unfolding plane_codes
  read_first {l} {p} t e = by_first l t (bad p) (sym e)

  pub read_rest : {l : ℕ} {n : Node} {a : Answer Cell} → Leveled (length w) l → ok n ≡ globe_child (take 4 (map digit_of w)) → a ≡ later_read l n w → a ≡ cell_of w
  unfolding later_read plane_codes
  read_rest {l} {n} t e q = q ∙ ap (λ (d : List ℕ). answer plane_codes w l (next 4 (ok n) (λ m. follow plane (drop 1 (take l splits)) m d))) (sym (drop_map digit_of 4 w)) ∙ by_first l t (ok n) (sym e)

-- every code has its first four characters
pub four_in : (l : ℕ) → 1 ≤ l → l ≤ 10 → 4 ≤ (split_at (l - 1)).length
four_in l low high = leb-true 4 _ (below (λ k. leb 4 (split_at k).length) 10 (l - 1) refl (omega (arith, low, high)))

pub length_four : {n l : ℕ} → Leveled n l → 4 ≤ n
length_four {n} {l} t = let e : n ≡ (split_at (l - 1)).length = t.long in omega (arith, e, four_in l t.low t.high)

-- one of the first four is bad, in a plane code or in a space code of level l
module _ (spaced : Bool) (l : ℕ) (w : List ℕ) (low : 1 ≤ l) (high : l ≤ 10) (long : length w ≡ length_in spaced l) {p : ℕ} (e : bad p ≡ globe_child (take 4 (map digit_of (plane_in spaced l w)))) where
  flat_long : length (plane_in spaced l w) ≡ (split_at (l - 1)).length
  flat_long = plane_long l w low high spaced long

  -- it is one of the code
  pub first_has : HasPlane spaced l w p
  first_has =
      let d = map digit_of (plane_in spaced l w) in
      let f : length (take 4 d) ≡ 4 = length-take-le 4 d (rw (length-map (plane_in spaced l w) digit_of, flat_long) (four_in l low high)) in
      let h = (globe_halts (take 4 d) p 4 refl f (sym e)).inside in
      record { some = low; most = high; long = long; character = omega (arith, h, four_in l low high) }

  -- and the answer is its refusal
  pub first_refused : {r : Refusal} → r ≡ wrong_character p (get_or w (stands_at spaced p) 0) → refused r ≡ cell_of (plane_in spaced l w)
  first_refused f =
      ap refused (f ∙ ap (wrong_character p) (sym (has_same first_has)))
      ∙ read_first (plane_in spaced l w) (leveled_at (length (plane_in spaced l w)) l low high flat_long) e

-- how long the code of a place is
pub place_length : (level : ℕ) (p : Place) → 1 ≤ level → level ≤ 10 → p.x < HALF → p.y < QUARTER → length (code_of level (square_of p)) ≡ (split_at (level - 1)).length
place_length level p a b x y = code_length level (square_of p) (on_globe p x y) a b
