-- Where characters stand in a space code, each place held to the table of splits by one computed test; and what laying them there leaves.
-- Assumes nothing.
use Rattle.std.proofs.Common.{◌≡◌, ℕ, zero, suc, ◌+◌, ◌-◌, ◌<◌, ◌≤◌, Bool, true, false, eqb, ltb, leb, List, [], ◌∷◌, ◌++◌, map, length, get_or, take, drop, set, sym, refl, ap, ◌∙◌, arith, length-drop, length-set, length-take-le, get_or-drop, drop-cons, get_or-take, ext_get_or, ltb-true, le-ltb, lt-ltb, ne_eqb, eqb-true, le-leb, leb-true}
use lib.ListN.{length-map}
use lib.Seq.{sets}
use borrow.Author.Tests.{lt-leb}
use Rattle.grid.specs.Splits.{first, split, splits, split_at}
use Rattle.grid.specs.inner.Roads.{place_of}
use Rattle.grid.specs.inner.Standing.{level_place, length_in, ended_by, plane_place, stands_at, height_place, count_from, plane_in, HasPlane, spread, spread_back}
use Rattle.grid.proofs.Cut.{all_below, below}
use Rattle.grid.proofs.Lists.{get_d_map_at}
use Rattle.grid.proofs.Lengths.{grows}

-- ---- the table's lengths

-- no code of a level is longer than 20
pub few : (k : ℕ) → k < 10 → (split_at k).length ≤ 20
few k h = leb-true _ 20 (below (λ k. leb (split_at k).length 20) 10 k refl h)

-- ---- where a plane character and a height character stand

pub plane_none : (p : ℕ) → 20 ≤ p → 0 ≡ plane_place p
unfolding plane_place
plane_none p h = rw (le-ltb p 20 h) refl

pub plane_sign : (p : ℕ) → p ≡ 0 → 0 ≡ plane_place p
unfolding plane_place
plane_sign p e = rw e refl

pub plane_first : (p : ℕ) → p < first.length → (p ≡ 0 → ⊥) → p + 1 ≡ plane_place p
unfolding plane_place
plane_first p h n = rw (lt-ltb p 20 (omega arith), lt-ltb p first.length h, ne_eqb p 0 n) refl

plane_later : (p : ℕ) → p < 20 → first.length ≤ p → {k : ℕ} → k ≡ ended_by p splits → p + 2 + k ≡ plane_place p
unfolding plane_place
plane_later p l h e = rw (lt-ltb p 20 l, le-ltb p first.length h, e) refl

-- k levels end before the plane character p: counting those that are left, all are counted
pub record Counting (p k : ℕ) : Type 0 where
  pub some : 1 ≤ k
  pub past : (split_at (k - 1)).length ≤ p
  pub whole : k + ended_by p (drop k splits) ≡ ended_by p splits

pub counting_first : (p : ℕ) → first.length ≤ p → Counting p 1
counting_first p h = record { some = omega arith; past = h; whole = rw (le-leb first.length p h) (omega arith) }

pub counting_all : {p : ℕ} → Counting p 10 → 0 ≡ plane_place p
counting_all c = let h = c.past in plane_none _ h

module _ {p k n : ℕ} (c : Counting p k) (b : k < 10) (e : n ≡ (split_at (k + 1 - 1)).length) where
  next : drop k splits ≡ split_at k ∷ drop (suc k) splits
  next = drop-cons splits k (split 0 0 0 0 0 0 0 0) b

  same : n ≡ (split_at k).length
  same = let z : k + 1 - 1 ≡ k = omega arith in rw z at e

  pub counting_small : p < n → p < 20
  counting_small h = omega (arith, few k b, same)

  pub counting_next : n ≤ p → Counting p (k + 1)
  counting_next l =
      let f : (split_at k).length ≤ p = omega (arith, same) in
      let y : k + 1 - 1 ≡ k = omega arith in
      let z : k + 1 ≡ suc k = omega arith in
      let w : k + suc (ended_by p (drop (suc k) splits)) ≡ ended_by p splits = rw (next, le-leb (split_at k).length p f) at c.whole in
      record { some = omega arith; past = rw y f; whole = rw z (omega (arith, w)) }

  pub counting_done : p < n → p + 2 + k ≡ plane_place p
  counting_done h =
      let f : p < (split_at k).length = omega (arith, same) in
      let g : first.length ≤ p = let y : (split_at 0).length ≤ (split_at (k - 1)).length = grows 0 (k - 1) (omega arith) (omega arith) in omega (arith, y, c.past) in
      let w : k + 0 ≡ ended_by p splits = rw (next, lt-leb (split_at k).length p f) at c.whole in
      plane_later p (counting_small h) g (omega (arith, w))

pub height_sign : (p : ℕ) → p ≡ 0 → 1 ≡ height_place p
unfolding height_place
height_sign p e = rw e refl

pub height_tens : (p : ℕ) → p ≡ 1 → {n : ℕ} → n ≡ (split_at 0).length → n + 1 ≡ height_place p
unfolding height_place
height_tens p e f = rw (e, f) refl

pub height_later : (p : ℕ) → (p ≡ 0 → ⊥) → (p ≡ 1 → ⊥) → {n : ℕ} → n ≡ (split_at (p - 1 - 1)).length → n + p ≡ height_place p
unfolding height_place
height_later p a b f =
    let z : p - 1 - 1 ≡ p - 2 = omega arith in
    rw (ne_eqb p 0 a, f, z) refl

-- a level's characters stand side by side: one test of each later level and each of its characters
pub stands_run : (spaced : Bool) (k i : ℕ) → 1 ≤ k → k < 10 → i < (split_at k).characters → stands_at spaced (place_of (split_at k) + i) ≡ level_place spaced k (split_at k) + i
unfolding plane_place
stands_run false k i a b h = refl
stands_run true zero i a b h = absurd (omega arith)
stands_run true (suc k) i a b h = eqb-true _ _ (below (at k) (split_at (suc k)).characters i (each k (omega arith)) h)
  where
    at : ℕ → ℕ → Bool
    at k i = eqb (plane_place (place_of (split_at (suc k)) + i)) (place_of (split_at (suc k)) + 2 + suc k + i)

    each : (k : ℕ) → k < 9 → all_below (at k) (split_at (suc k)).characters ≡ true
    each k h = below (λ k. all_below (at k) (split_at (suc k)).characters) 9 k refl h

-- ---- room

-- the codes of a level have the characters of each level up to it
pub level_room : (spaced : Bool) (level k : ℕ) → k < level → level ≤ 10 → level_place spaced k (split_at k) + (split_at k).characters ≤ length_in spaced level
level_room spaced level k b h = go spaced
  where
    st : (split_at k).characters ≤ (split_at k).length
    st = leb-true _ _ (below (λ k. leb (split_at k).characters (split_at k).length) 10 k refl (omega arith))

    g : (split_at k).length ≤ (split_at (level - 1)).length
    g = grows k (level - 1) (omega arith) (omega arith)

    go : (q : Bool) → level_place q k (split_at k) + (split_at k).characters ≤ length_in q level
    go true = omega (arith, st, g)
    go false = omega (arith, st, g)

-- they have each plane character of a plane code of the level: one test of each level and each of them
stands_in : (spaced : Bool) (level p : ℕ) → level ≤ 10 → p < (split_at (level - 1)).length → stands_at spaced p < length_in spaced level
unfolding plane_place
stands_in false level p a h = h
stands_in true level p a h =
    let at : ℕ → ℕ → Bool = λ l p. ltb (plane_place p) (length_in true l) in
    ltb-true _ _ (below (at level) (split_at (level - 1)).length p (below (λ l. all_below (at l) (split_at (l - 1)).length) 11 level refl (omega arith)) h)

-- and each height character of the level: two more than there are levels
pub height_in : (level p : ℕ) → level ≤ 10 → p < level + 2 → height_place p < length_in true level
unfolding height_place
height_in level p a h =
    let at : ℕ → ℕ → Bool = λ l p. ltb (height_place p) (length_in true l) in
    ltb-true _ _ (below (at level) (level + 2) p (below (λ l. all_below (at l) (l + 2)) 11 level refl (omega arith)) h)

-- ---- characters laid down each at its place

-- the line stays as long as it is
pub spread_length : (place : ℕ → ℕ) (k : ℕ) (w l : List ℕ) → length (spread place k w l) ≡ length l
spread_length place k [] l = refl
spread_length place k (c ∷ w) l = spread_length place (suc k) w (set l (place k) c) ∙ length-set l (place k) c

pub back_length : (place : ℕ → ℕ) (k : ℕ) (w l : List ℕ) → length (spread_back place k w l) ≡ length l
back_length place k [] l = refl
back_length place k (c ∷ w) l = length-set (spread_back place (suc k) w l) (place k) c ∙ back_length place (suc k) w l

-- some, and then the rest
pub spread_append : (place : ℕ → ℕ) (k : ℕ) (v w l : List ℕ) → spread place k (v ++ w) l ≡ spread place (k + length v) w (spread place k v l)
spread_append place k [] w l = let z : k + 0 ≡ k = omega arith in rw z refl
spread_append place k (c ∷ v) w l =
    let z : suc k + length v ≡ k + suc (length v) = omega arith in
    spread_append place (suc k) v w (set l (place k) c) ∙ ap (λ (i : ℕ). spread place i w (spread place (suc k) v (set l (place k) c))) z

-- places side by side
pub spread_run : (place : ℕ → ℕ) (k at : ℕ) (w l : List ℕ) → ((i : ℕ) → i < length w → place (k + i) ≡ at + i) → spread place k w l ≡ sets l at w
spread_run place k at [] l h = refl
spread_run place k at (c ∷ w) l h =
    let a : place k ≡ at = ap place (omega arith) ∙ h 0 (omega arith) ∙ omega arith in
    spread_run place (suc k) (suc at) w (set l (place k) c) (λ i b. ap place (omega arith) ∙ h (suc i) (omega arith) ∙ omega arith)
    ∙ ap (λ (i : ℕ). sets (set l i c) (suc at) w) a

-- ---- a list that is given place by place

count_length : (k n : ℕ) → length (count_from k n) ≡ n
count_length k zero = refl
count_length k (suc n) = ap suc (count_length (suc k) n)

count_at : (k n i : ℕ) → i < n → get_or (count_from k n) i 0 ≡ k + i
count_at k zero i h = absurd (omega arith)
count_at k (suc n) zero h = omega arith
count_at k (suc n) (suc i) h = count_at (suc k) n i (omega arith) ∙ omega arith

pub given_at : (f : ℕ → ℕ) (n p : ℕ) → p < n → get_or (map f (count_from 0 n)) p 0 ≡ f p
given_at f n p h =
    get_d_map_at f (count_from 0 n) p (let z : length (count_from 0 n) ≡ n = count_length 0 n in omega arith)
    ∙ ap f (count_at 0 n p h ∙ omega arith)

pub given_length : (f : ℕ → ℕ) (n : ℕ) → length (map f (count_from 0 n)) ≡ n
given_length f n = length-map (count_from 0 n) f ∙ count_length 0 n

-- the first n elements of a list are the list of them
pub listed : (n : ℕ) (l : List ℕ) → n ≤ length l → take n l ≡ map (λ p. get_or l p 0) (count_from 0 n)
listed n l h =
    let f : ℕ → ℕ = λ p. get_or l p 0 in
    let e : length (take n l) ≡ n = length-take-le n l h in
    ext_get_or 0 (take n l) (map f (count_from 0 n)) (e ∙ sym (given_length f n)) (λ i k. get_or-take n l i 0 (omega arith) ∙ sym (given_at f n i (omega arith)))

-- ---- the plane code among the characters of a code

module _ (level : ℕ) (w : List ℕ) (low : 1 ≤ level) (high : level ≤ 10) where
  abbrev n : ℕ
  n = (split_at (level - 1)).length

  -- it is as long as plane codes of the level
  pub plane_long : (spaced : Bool) → length w ≡ length_in spaced level → length (plane_in spaced level w) ≡ n
  plane_long false e = e
  plane_long true e =
      let f : ℕ → ℕ = λ p. get_or w (plane_place p) 0 in
      length-take-le n (map f (count_from 0 20)) (let z : length (map f (count_from 0 20)) ≡ 20 = given_length f 20 in omega (arith, few (level - 1) (omega arith)))

  -- and has each character from its place
  pub plane_at : (spaced : Bool) (p : ℕ) → p < n → get_or (plane_in spaced level w) p 0 ≡ get_or w (stands_at spaced p) 0
  plane_at false p h = refl
  plane_at true p h =
      let f : ℕ → ℕ = λ p. get_or w (plane_place p) 0 in
      get_or-take n (map f (count_from 0 20)) p 0 h ∙ given_at f 20 p (omega (arith, few (level - 1) (omega arith)))

  -- those of each level side by side
  pub plane_run : (spaced : Bool) (k : ℕ) → 1 ≤ k → k < level → length w ≡ length_in spaced level
      → take (split_at k).characters (drop (level_place spaced k (split_at k)) w) ≡ take (split_at k).characters (drop (place_of (split_at k)) (plane_in spaced level w))
  plane_run spaced k a b e =
      let c = (split_at k).characters in
      let at = level_place spaced k (split_at k) in
      let to = place_of (split_at k) in
      let v = plane_in spaced level w in
      let st : c ≤ (split_at k).length = leb-true _ _ (below (λ k. leb (split_at k).characters (split_at k).length) 10 k refl (omega arith)) in
      let g : (split_at k).length ≤ n = grows k (level - 1) (omega arith) (omega arith) in
      let x : length (take c (drop at w)) ≡ c = length-take-le c (drop at w) (rw (length-drop at w) (omega (arith, e, level_room spaced level k b high))) in
      let y : length (take c (drop to v)) ≡ c = length-take-le c (drop to v) (rw (length-drop to v) (omega (arith, plane_long spaced e, st, g))) in
      ext_get_or 0 (take c (drop at w)) (take c (drop to v)) (x ∙ sym y)
      (λ i h.
      let j : i < c = omega (arith, x, h) in
      get_or-take c (drop at w) i 0 j ∙ get_or-drop at w i 0 ∙ ap (λ (q : ℕ). get_or w q 0) (sym (stands_run spaced k i a (omega arith) j))
      ∙ sym (get_or-take c (drop to v) i 0 j ∙ get_or-drop to v i 0 ∙ plane_at spaced (to + i) (omega (arith, st, g, j))))

-- ---- a plane character of a code

module _ {spaced : Bool} {level : ℕ} {w : List ℕ} {p : ℕ} (h : HasPlane spaced level w p) where
  -- it stands in the code
  pub has_inside : stands_at spaced p < length w
  has_inside = rw h.long (stands_in spaced level p h.most h.character)

  -- and is the one of the plane code among the code's characters
  pub has_same : get_or (plane_in spaced level w) p 0 ≡ get_or w (stands_at spaced p) 0
  has_same = plane_at level w h.some h.most spaced p h.character
