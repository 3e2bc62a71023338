-- The space reader's answer: what the plane reader and the height reader answer to their parts of the code, together.
-- Assumes nothing.
use mathlib.Core.Path.{◌≡◌, refl, sym, ◌∙◌, ap, subst}
use mathlib.Core.Bool.{Bool, true, false, cond}
use mathlib.Core.List.{List, map}
use mathlib.Core.Option.{Option, some, none}
use Prim.Native.Nat.{ℕ, zero, suc, ◌+◌, ◌-◌, ◌≤◌, ◌<◌, min}
use native.Mathlib.Omega.{arith}
use lib.Dec.{ltb, eqb}
use lib.IntN.{ℤ}
use lib.ListN.{length, take, get_or, length-map}
use lib.Seq.{length-take-le}
use borrow.Author.Tests.{ltb-true, ltb-false, eqb-true}
use Rattle.grid.specs.declared.Cell.{Cell}
use Rattle.grid.specs.declared.SpaceCell.{SpaceCell}
use Rattle.grid.specs.Characters.{digit_of}
use Rattle.grid.specs.Tree.{Read, ok, bad, follow}
use Rattle.grid.specs.Answers.{Answer, refused, wrong_length, wrong_character, wrong_at}
use Rattle.grid.specs.Codes.{place_in, answer, answer_at, read_in}
use Rattle.grid.specs.Splits.{splits, split_at}
use Rattle.grid.specs.Plane.{Node, globe, plane, plane_codes, cell_of}
use Rattle.grid.specs.Layers.{ours, Stack, all, part, layers}
use Rattle.grid.specs.Space.{space, space_codes, space_cell_of, space_lengths}
use Rattle.grid.specs.inner.Standing.{plane_place, height_place, count_from, plane_in}
use Rattle.grid.proofs.Cut.{below, clash}
use Rattle.grid.proofs.Standing.{height_in, given_length, plane_at}
use Rattle.grid.proofs.Laws.{total, follow_ends}
use Rattle.grid.proofs.PlaneLaws.{laws, splits_fit}
use Rattle.grid.proofs.LayerLaws.{layer_laws}
use Rattle.grid.proofs.Families.{level_length, length_level}
use Rattle.grid.proofs.Theorems.{plane_sound, ours_fair, space_sound}
use Rattle.layers.specs.declared.Edition.{Edition}
use Rattle.layers.specs.declared.Edition.TheVariants.{First, Second}
use Rattle.layers.specs.Heights.{height_levels, height_read}
use Rattle.layers.specs.inner.Editions.{radices_of}
use Rattle.layers.specs.inner.Steps.{standing}
use Rattle.layers.proofs.Radices.{edition_fair}
use Rattle.layers.proofs.Inside.{levels_fit, read_inside}
use Rattle.std.specs.Prelude.{Some, None}
use Rattle.plane.specs.inner.Lengths.{found, SpaceCode}
use Rattle.space.specs.inner.Weave.{Strand, firsts, seconds, place_two, together}
use Rattle.space.specs.inner.Parts.{space_level_of, ten_strands, earlier, heights_in, joined_answer}
use Rattle.space.proofs.Tables.{length_at}
use Rattle.space.proofs.Weaving.{sliced_one, sliced_two, parts_map, follow_woven}
use Rattle.space.proofs.Parts.{
  top_of,
  levels_of,
  plane_levels,
  height_levels_law,
  level_strands,
  levels_good,
  long_sum,
  Counted,
  ten,
  plane_same,
  height_same,
  plane_long,
  height_long,
  plane_place_law,
  height_place_law,
}

-- ---- the level of a length

-- what a level that was found says
pub record Leveled (n l : ℕ) : Type 0 where
  pub place : place_in n 1 space_lengths ≡ some l
  pub low : 1 ≤ l
  pub high : l ≤ 10
  pub long : n ≡ get_or space_lengths (l - 1) 0

pub leveled : (n : ℕ) {l : ℕ} → Some l ≡ space_level_of n → Leveled n l
unfolding space_level_of space_codes
leveled n {l} e = go (place_in n 1 space_lengths) refl
  where
    go : (o : Option ℕ) → place_in n 1 space_lengths ≡ o → Leveled n l
    go none p = clash (let q : Some l ≡ None = e ∙ ap found p in cc)
    go (some k) p =
        let q : Some l ≡ Some k = e ∙ ap found p in
        let r : l ≡ k = cc in
        let t = level_length (space_codes ours) (space_sound ours ours_fair) n k p in
        subst (Leveled n) (sym r) (record { place = p; low = t.0; high = t.1; long = t.2 ∙ long_sum First k t.0 t.1 })

-- and the length of its space codes
pub spaced : {n l : ℕ} → Leveled n l → SpaceCode l n
spaced {n} {l} t = record { some = t.low; most = t.high; long = t.long ∙ sym (length_at l t.low t.high) }

pub read_none : (rs w : List ℕ) → None ≡ space_level_of (length w) → refused wrong_length ≡ space_cell_of rs w
unfolding space_level_of space_cell_of read_in space_codes
read_none rs w e = go (place_in (length w) 1 space_lengths) refl
  where
    go : (o : Option ℕ) → place_in (length w) 1 space_lengths ≡ o → refused wrong_length ≡ answer_at (space_codes rs) w o
    go none p = refl
    go (some k) p = clash (let q : None ≡ Some k = e ∙ ap found p in cc)

-- ---- the two parts, each read

plane_total : (l : ℕ) → 1 ≤ l → l ≤ 10 → total plane (take l splits) ≡ (split_at (l - 1)).length
unfolding total
plane_total zero a b = absurd (omega arith)
plane_total (suc l) a b = eqb-true _ _ (below (λ l. eqb (total plane (take (suc l) splits)) (split_at (suc l - 1)).length) 10 l refl (omega arith))

height_total : (edition : Edition) (l : ℕ) → 1 ≤ l → l ≤ 10 → total (layers (top_of edition)) (take l (height_levels (radices_of edition))) ≡ 2 + l
unfolding total
height_total edition zero a b = absurd (omega arith)
height_total Second (suc l) a b = eqb-true _ _ (below (λ l. eqb (total (layers (top_of Second)) (take (suc l) (height_levels (radices_of Second)))) (2 + suc l)) 10 l refl (omega arith))
height_total First (suc l) a b = eqb-true _ _ (below (λ l. eqb (total (layers (top_of First)) (take (suc l) (height_levels (radices_of First)))) (2 + suc l)) 10 l refl (omega arith))

-- the lesser of two places is that of the earlier refusal
lesser : (w : List ℕ) (p q : ℕ) → wrong_at w (min p q) ≡ earlier (wrong_at w p) (wrong_at w q)
lesser w p q = go (ltb p q) refl
  where
    go : (t : Bool) → ltb p q ≡ t → wrong_at w (min p q) ≡ cond t (wrong_at w p) (wrong_at w q)
    go true e = let h : p < q = ltb-true p q e in ap (wrong_at w) (omega arith)
    go false e = let h : q ≤ p = ltb-false p q e in ap (wrong_at w) (omega arith)

module _ (edition : Edition) (l : ℕ) (low : 1 ≤ l) (high : l ≤ 10) where
  abbrev rs : List ℕ
  rs = radices_of edition

  abbrev top : ℕ
  top = top_of edition

  C : Counted l
  C = ten l low high

  -- a bad plane character, and a bad height character, stands in its part
  plane_inside : (d : List ℕ) (p : ℕ) → length d ≡ (split_at (l - 1)).length → follow plane (take l splits) globe d ≡ bad p → p < (split_at (l - 1)).length
  plane_inside d p e f =
      let t = plane_total l low high in
      subst (λ (x : ℕ). p < x) t (follow_ends plane laws (take l splits) globe d p (splits_fit l high) (e ∙ sym t) f).inside

  height_inside : (d : List ℕ) (q : ℕ) → length d ≡ 2 + l → height_read rs l d ≡ bad q → q < 2 + l
  unfolding height_read
  height_inside d q e f =
      let t = height_total edition l low high in
      subst (λ (x : ℕ). q < x) t (follow_ends (layers top) (layer_laws top) (take l (height_levels rs)) all d q (levels_fit rs l (edition_fair edition)) (e ∙ sym t) f).inside

  -- the two readings of the space code w, whose plane code is v, as answers and together
  as_joined : (v w : List ℕ) → ((p : ℕ) → p < (split_at (l - 1)).length → get_or v p 0 ≡ get_or w (plane_place p) 0)
      → (ra : Read Node) (rb : Read Stack) → ((p : ℕ) → ra ≡ bad p → p < (split_at (l - 1)).length) → ((q : ℕ) → rb ≡ bad q → q < 2 + l)
      → unfold plane_codes space_codes in (answer (space_codes rs) w l (together (take l ten_strands) ra rb) ≡ joined_answer w (answer plane_codes v l ra) (heights_in top rb))
  unfolding plane_codes space_codes
  as_joined v w s (ok n) (ok m) ha hb = refl
  as_joined v w s (ok n) (bad q) ha hb = ap (λ (x : ℕ). refused (wrong_at w x)) (height_place_law l C q (hb q refl))
  as_joined v w s (bad p) (ok m) ha hb =
      ap (λ (x : ℕ). refused (wrong_at w x)) (plane_place_law l C p (ha p refl)) ∙ ap (λ (b : ℕ). refused (wrong_character (plane_place p) b)) (sym (s p (ha p refl)))
  as_joined v w s (bad p) (bad q) ha hb =
      ap (λ (x : ℕ). refused (wrong_at w (min x (place_two (take l ten_strands) q)))) (plane_place_law l C p (ha p refl))
      ∙ ap (λ (x : ℕ). refused (wrong_at w (min (plane_place p) x))) (height_place_law l C q (hb q refl))
      ∙ ap refused (lesser w (plane_place p) (height_place q))
      ∙ ap (λ (b : ℕ). refused (earlier (wrong_character (plane_place p) b) (wrong_at w (height_place q)))) (sym (s p (ha p refl)))

  -- a plane code of this length is read level by level
  cell_of_law : (v : List ℕ) → length v ≡ (split_at (l - 1)).length → unfold plane_codes in (cell_of v ≡ answer plane_codes v l (follow plane (take l splits) globe (map digit_of v)))
  unfolding cell_of read_in plane_codes
  cell_of_law v e = rw (e ∙ sym (plane_total l low high), length_level plane_codes plane_sound l low high) refl

  module _ (w : List ℕ) (long : length w ≡ get_or space_lengths (l - 1) 0) where
    abbrev S : List Strand
    S = take l ten_strands

    -- the two parts read together
    both_read : follow (space top) (take l (levels_of edition)) (globe, all) (map digit_of w)
        ≡ together S (follow plane (take l splits) globe (map digit_of (firsts S w))) (height_read rs l (map digit_of (seconds S w)))
    unfolding height_read
    both_read =
        follow_woven plane (layers top) laws (layer_laws top) (take l (levels_of edition)) (globe, all) (map digit_of w) (levels_good edition l high) (length-map w digit_of ∙ long ∙ sym (long_sum edition l low high))
        ∙ rw (plane_levels edition l, height_levels_law edition l, level_strands edition l, parts_map sliced_one digit_of S w, parts_map sliced_two digit_of S w) refl

    pub read_parts : place_in (length w) 1 space_lengths ≡ some l
        → joined_answer w (cell_of (plane_in true l w)) (heights_in top (height_read rs l (map digit_of (standing l w)))) ≡ space_cell_of rs w
    unfolding space_cell_of read_in space_codes plane_codes
    read_parts q =
        let a = plane_same l C w long in
        let b = height_same l C w long in
        let fa = firsts S w in
        let fb = seconds S w in
        rw (a, b, q, both_read, cell_of_law fa (plane_long l C w long))
        (sym (as_joined fa w (λ p h. ap (λ (x : List ℕ). get_or x p 0) (sym a) ∙ plane_at l w low high true p h)
        (follow plane (take l splits) globe (map digit_of fa)) (height_read rs l (map digit_of fb))
        (λ p e. plane_inside (map digit_of fa) p (length-map fa digit_of ∙ plane_long l C w long) e)
        (λ p e. height_inside (map digit_of fb) p (length-map fb digit_of ∙ height_long l C w long) e)))

-- the reader's answer, from its two parts' answers
pub read_joined : (edition : Edition) (w : List ℕ) (l : ℕ) → Leveled (length w) l → {r : Answer SpaceCell} {a : Answer Cell} {b : Read (ℤ × ℕ)} → r ≡ joined_answer w a b
    → a ≡ cell_of (plane_in true l w) → b ≡ heights_in (top_of edition) (height_read (radices_of edition) l (map digit_of (standing l w))) → r ≡ space_cell_of (radices_of edition) w
read_joined edition w l t {a = a} {b = b} e f g =
    e ∙ ap (λ x. joined_answer w x b) f ∙ ap (λ x. joined_answer w (cell_of (plane_in true l w)) x) g
    ∙ read_parts edition l t.low t.high w t.long t.place

-- ---- the height characters

standing_long : (l : ℕ) (w : List ℕ) → l ≤ 10 → length (standing l w) ≡ 2 + l
standing_long l w h =
    let f : ℕ → ℕ = λ p. get_or w (height_place p) 0 in
    length-take-le (2 + l) (map f (count_from 0 12)) (let z : length (map f (count_from 0 12)) ≡ 12 = given_length f 12 in omega arith)

-- layers that were read lie in their range
pub lying : (edition : Edition) (l : ℕ) (ds : List ℕ) {above : Bool} {low thick : ℕ} → ok (part above low thick) ≡ height_read (radices_of edition) l ds → low < top_of edition
lying edition l ds e = let r = read_inside (radices_of edition) l ds (edition_fair edition) (sym e) in omega (arith, r.0, r.1)

-- a bad height character is one of the level's, and stands in the code
pub few_stand : (edition : Edition) (l : ℕ) (w : List ℕ) {p : ℕ} → SpaceCode l (length w) → bad p ≡ height_read (radices_of edition) l (map digit_of (standing l w)) → (p < 12) × (height_place p < length w)
few_stand edition l w {p} s e =
    let f : p < 2 + l = height_inside edition l s.some s.most (map digit_of (standing l w)) p (length-map (standing l w) digit_of ∙ standing_long l w s.most) (sym e) in
    (omega (arith, s.most), rw s.long (height_in l p s.most (omega arith)))
