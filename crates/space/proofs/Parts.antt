-- A space code's levels, seen as strands of plane characters and height characters. What is needed of all ten is tested by computing.
-- Assumes nothing.
use mathlib.Core.Path.{◌≡◌, refl, sym, ◌∙◌, ap, subst}
use mathlib.Core.Bool.{true}
use mathlib.Core.List.{List, [], ◌∷◌, map}
use Prim.Native.Nat.{ℕ, zero, suc, ◌+◌, ◌-◌, ◌≤◌, ◌<◌}
use native.Mathlib.Omega.{arith}
use lib.Dec.{eqb}
use lib.ListN.{length, take, get_or}
use lib.Seq.{ext_get_or, get_or-take, length-take-le}
use borrow.Author.Tests.{eqb-true}
use Rattle.grid.specs.Units.{Cube}
use Rattle.grid.specs.Splits.{splits, split_at}
use Rattle.grid.specs.Plane.{plane, globe}
use Rattle.grid.specs.Layers.{product, all, layers}
use Rattle.grid.specs.Both.{Pair}
use Rattle.grid.specs.Space.{space, space_levels, space_codes, space_lengths, OnGrid}
use Rattle.grid.specs.inner.Standing.{plane_place, height_place, count_from, plane_in}
use Rattle.grid.proofs.Cut.{below}
use Rattle.grid.proofs.Standing.{given_at, given_length}
use Rattle.grid.proofs.Laws.{total}
use Rattle.grid.proofs.PlaneLaws.{laws}
use Rattle.grid.proofs.LayerLaws.{layer_laws}
use Rattle.grid.proofs.BothLaws.{ones, twos, InBoth, GoodBoth}
use Rattle.grid.proofs.Theorems.{is_edition, ours_fair, theirs_fair, space_sound}
use Rattle.layers.specs.declared.Edition.{Edition}
use Rattle.layers.specs.declared.Edition.TheVariants.{First, Second}
use Rattle.layers.specs.Heights.{height_levels}
use Rattle.layers.specs.inner.Editions.{radices_of}
use Rattle.layers.specs.inner.Steps.{standing}
use Rattle.space.specs.inner.Weave.{Strand, both_of, parts, strand_place, firsts, seconds, place_one, place_two}
use Rattle.space.specs.inner.Parts.{ten_strands}
use Rattle.space.proofs.Weaving.{strands, each_some, counted, Sliced, sliced_one, sliced_two, parts_length, part_digit, place_fewer}
use Rattle.space.proofs.Tables.{length_few}

-- an edition's layers on either side of the ground, and its levels
abbrev pub top_of : Edition → ℕ
top_of edition = product (radices_of edition)

abbrev pub levels_of : (edition : Edition) → List (Pair plane (layers (top_of edition)))
levels_of edition = space_levels (top_of edition) splits (radices_of edition)

-- either edition passes the test
pub edition_test : (edition : Edition) → is_edition (radices_of edition) ≡ true
edition_test Second = theirs_fair
edition_test First = ours_fair

-- ---- fewer levels

module _ (top : ℕ) where
  ones_take : (l : ℕ) (ts : List (Pair plane (layers top))) → ones plane (layers top) (take l ts) ≡ take l (ones plane (layers top) ts)
  ones_take zero ts = refl
  ones_take (suc l) [] = refl
  ones_take (suc l) (t ∷ ts) = ap (λ x. t.one ∷ x) (ones_take l ts)

  twos_take : (l : ℕ) (ts : List (Pair plane (layers top))) → twos plane (layers top) (take l ts) ≡ take l (twos plane (layers top) ts)
  twos_take zero ts = refl
  twos_take (suc l) [] = refl
  twos_take (suc l) (t ∷ ts) = ap (λ x. t.two ∷ x) (twos_take l ts)

  strands_take : (l : ℕ) (ts : List (Pair plane (layers top))) → strands plane (layers top) (take l ts) ≡ take l (strands plane (layers top) ts)
  unfolding strands
  strands_take zero ts = refl
  strands_take (suc l) [] = refl
  strands_take (suc l) (t ∷ ts) = ap (λ x. record { lead = t.lead; one = t.one.characters; two = t.two.characters } ∷ x) (strands_take l ts)

pub plane_levels : (edition : Edition) (l : ℕ) → ones plane (layers (top_of edition)) (take l (levels_of edition)) ≡ take l splits
plane_levels Second l = ones_take (top_of Second) l (levels_of Second)
plane_levels First l = ones_take (top_of First) l (levels_of First)

pub height_levels_law : (edition : Edition) (l : ℕ) → twos plane (layers (top_of edition)) (take l (levels_of edition)) ≡ take l (height_levels (radices_of edition))
height_levels_law Second l = twos_take (top_of Second) l (levels_of Second)
height_levels_law First l = twos_take (top_of First) l (levels_of First)

pub level_strands : (edition : Edition) (l : ℕ) → strands plane (layers (top_of edition)) (take l (levels_of edition)) ≡ take l ten_strands
unfolding strands
level_strands Second l = strands_take (top_of Second) l (levels_of Second)
level_strands First l = strands_take (top_of First) l (levels_of First)

-- ---- the levels can be gone down

pub levels_good : (edition : Edition) (l : ℕ) → l ≤ 10 → GoodBoth plane (layers (top_of edition)) laws (layer_laws (top_of edition)) (take l (levels_of edition)) (globe, all)
unfolding space_codes space_sound
levels_good edition l h = (space_sound (radices_of edition) (edition_test edition)).fits l h

pub root_in : (edition : Edition) (s : Cube) → OnGrid (radices_of edition) s → InBoth plane (layers (top_of edition)) laws (layer_laws (top_of edition)) (globe, all) s
root_in edition s o = (o.on_globe, o.layer_in)

-- and are as long as the codes
pub long_sum : (edition : Edition) (l : ℕ) → 1 ≤ l → l ≤ 10 → total (space (top_of edition)) (take l (levels_of edition)) ≡ get_or space_lengths (l - 1) 0
unfolding total
long_sum edition zero a b = absurd (omega arith)
long_sum Second (suc l) a b = eqb-true _ _ (below (λ l. eqb (total (space (top_of Second)) (take (suc l) (levels_of Second))) (get_or space_lengths (suc l - 1) 0)) 10 l refl (omega arith))
long_sum First (suc l) a b = eqb-true _ _ (below (λ l. eqb (total (space (top_of First)) (take (suc l) (levels_of First))) (get_or space_lengths (suc l - 1) 0)) 10 l refl (omega arith))

-- ---- what the strands of l levels have

pub record Counted (l : ℕ) : Type 0 where
  pub some : each_some (take l ten_strands) ≡ true
  pub one : counted (λ t. t.one) (take l ten_strands) ≡ (split_at (l - 1)).length
  pub two : counted (λ t. t.two) (take l ten_strands) ≡ 2 + l
  pub all_of : counted both_of (take l ten_strands) ≡ get_or space_lengths (l - 1) 0
  pub few_one : (split_at (l - 1)).length ≤ 20
  pub few_two : 2 + l ≤ 12

pub ten : (l : ℕ) → 1 ≤ l → l ≤ 10 → Counted l
ten zero a b = absurd (omega arith)
ten (suc l) a b =
    record {
      some = below (λ l. each_some (take (suc l) ten_strands)) 10 l refl (omega arith);
      one = eqb-true _ _ (below (λ l. eqb (counted (λ t. t.one) (take (suc l) ten_strands)) (split_at (suc l - 1)).length) 10 l refl (omega arith));
      two = eqb-true _ _ (below (λ l. eqb (counted (λ t. t.two) (take (suc l) ten_strands)) (2 + suc l)) 10 l refl (omega arith));
      all_of = eqb-true _ _ (below (λ l. eqb (counted both_of (take (suc l) ten_strands)) (get_or space_lengths (suc l - 1) 0)) 10 l refl (omega arith));
      few_one = length_few (suc l) a b;
      few_two = omega arith;
    }

-- ---- the parts of a space code of level l, place by place

module _ (l : ℕ) (C : Counted l) (w : List ℕ) (long : length w ≡ get_or space_lengths (l - 1) 0) where
  whole : length w ≡ counted both_of (take l ten_strands)
  whole = long ∙ sym C.all_of

  same_part : {part : Strand → List ℕ → List ℕ} {count : Strand → ℕ} {place : Strand → ℕ → ℕ} (S : Sliced part count place) (n m : ℕ) → counted count (take l ten_strands) ≡ n → n ≤ m
      → take n (map (λ p. get_or w (strand_place count place ten_strands p) 0) (count_from 0 m)) ≡ parts part (take l ten_strands) w
  same_part {part} {count} {place} S n m e h =
      let f : ℕ → ℕ = λ p. get_or w (strand_place count place ten_strands p) 0 in
      let a : length (take n (map f (count_from 0 m))) ≡ n = length-take-le n (map f (count_from 0 m)) (let z : length (map f (count_from 0 m)) ≡ m = given_length f m in omega arith) in
      let b : length (parts part (take l ten_strands) w) ≡ n = parts_length S (take l ten_strands) w C.some whole ∙ e in
      ext_get_or 0 (take n (map f (count_from 0 m))) (parts part (take l ten_strands) w) (a ∙ sym b)
      (λ i k.
      (let q : i < n = subst (λ (x : ℕ). i < x) a k in
      let r : i < counted count (take l ten_strands) = subst (λ (x : ℕ). i < x) (sym e) q in
      get_or-take n (map f (count_from 0 m)) i 0 q
      ∙ given_at f m i (omega arith)
      ∙ ap (λ (x : ℕ). get_or w x 0) (sym (place_fewer S l ten_strands i r))
      ∙ sym (part_digit S (take l ten_strands) w i C.some whole r)))

  pub plane_same : plane_in true l w ≡ firsts (take l ten_strands) w
  unfolding plane_place strand_place
  plane_same = same_part sliced_one (split_at (l - 1)).length 20 C.one C.few_one

  pub height_same : standing l w ≡ seconds (take l ten_strands) w
  unfolding height_place strand_place
  height_same = same_part sliced_two (2 + l) 12 C.two C.few_two

  pub plane_long : length (firsts (take l ten_strands) w) ≡ (split_at (l - 1)).length
  plane_long = parts_length sliced_one (take l ten_strands) w C.some whole ∙ C.one

  pub height_long : length (seconds (take l ten_strands) w) ≡ 2 + l
  height_long = parts_length sliced_two (take l ten_strands) w C.some whole ∙ C.two

-- where a bad character stands: the weaving's places are grid's, each by one computed test
pub plane_place_law : (l : ℕ) → Counted l → (p : ℕ) → p < (split_at (l - 1)).length → place_one (take l ten_strands) p ≡ plane_place p
unfolding plane_place strand_place
plane_place_law l C p h =
    place_fewer sliced_one l ten_strands p (subst (λ (x : ℕ). p < x) (sym C.one) h)
    ∙ eqb-true _ _ (below (λ p. eqb (place_one ten_strands p) (plane_place p)) 20 p refl (omega (arith, C.few_one)))

pub height_place_law : (l : ℕ) → Counted l → (p : ℕ) → p < 2 + l → place_two (take l ten_strands) p ≡ height_place p
unfolding height_place strand_place
height_place_law l C p h =
    place_fewer sliced_two l ten_strands p (subst (λ (x : ℕ). p < x) (sym C.two) h)
    ∙ eqb-true _ _ (below (λ p. eqb (place_two ten_strands p) (height_place p)) 12 p refl (omega (arith, C.few_two)))
