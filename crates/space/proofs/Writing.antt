-- The space writer's characters: the plane code and the height characters, woven.
-- Assumes nothing.
use mathlib.Core.Path.{◌≡◌, refl, sym, ◌∙◌, ap}
use mathlib.Core.Bool.{Bool, true, false}
use mathlib.Core.List.{List, map}
use Prim.Native.Nat.{ℕ, ◌+◌, ◌-◌, ◌≤◌}
use lib.Dec.{ltb}
use lib.IntN.{ℤ}
use lib.ListN.{length, take, get_or, length-map}
use lib.Seq.{sets}
use borrow.Author.Tests.{lt-ltb}
use Rattle.grid.specs.declared.Place.{Place}
use Rattle.grid.specs.declared.Refusal.{Refusal}
use Rattle.grid.specs.Units.{side, index, Square, Cube}
use Rattle.grid.specs.inner.Roads.{square_of}
use Rattle.grid.specs.inner.Standing.{plane_place, height_place, spread, spread_back}
use Rattle.grid.specs.Characters.{char_of}
use Rattle.grid.specs.Tree.{code}
use Rattle.grid.specs.Answers.{accepted, refused, refusal, unless}
use Rattle.grid.specs.Codes.{code_in}
use Rattle.grid.specs.Splits.{splits, split_at}
use Rattle.grid.specs.Plane.{globe, plane, plane_codes, code_of}
use Rattle.grid.specs.Layers.{edition_in, product, rise, all, layers}
use Rattle.grid.specs.Space.{space_codes, OnGrid, space_code_of, space_lengths}
use Rattle.grid.proofs.Cut.{clash}
use Rattle.grid.proofs.PlaneLaws.{laws}
use Rattle.grid.proofs.LayerLaws.{layer_laws}
use Rattle.grid.proofs.Families.{length_code_in}
use Rattle.grid.proofs.Theorems.{space_sound}
use Rattle.layers.specs.declared.Edition.{Edition}
use Rattle.layers.specs.Heights.{outside_layers, asked_of, height_levels}
use Rattle.layers.specs.inner.Editions.{radices_of}
use Rattle.layers.specs.inner.Steps.{layer_of, height_digits}
use Rattle.layers.proofs.Radices.{edition_fair}
use Rattle.layers.proofs.Digits.{height_length}
use Rattle.layers.proofs.Sides.{asked_at, layer_in}
use Rattle.plane.specs.Text.{level_in, square_in}
use Rattle.plane.proofs.Reading.{code_length, on_globe}
use Rattle.space.specs.inner.Weave.{weave}
use Rattle.space.specs.Space.{layered_text, space_text}
use Rattle.space.specs.inner.Asking.{SpaceFits}
use Rattle.space.specs.inner.Parts.{ten_strands}
use Rattle.space.proofs.Weaving.{code_woven, weave_map}
use Rattle.space.proofs.Parts.{top_of, levels_of, edition_test, plane_levels, height_levels_law, level_strands, levels_good, root_in, long_sum}
use Rattle.space.proofs.Spreading.{both_spread}

-- a space code is its plane code and its height characters, woven
pub code_parts : (edition : Edition) (l : ℕ) → l ≤ 10 → (s : Cube) → OnGrid (radices_of edition) s
    → space_code_of (radices_of edition) l s ≡ weave (take l ten_strands) (code_of l s.0) (map char_of (height_digits (radices_of edition) l s.1))
unfolding space_code_of code_of code_in space_codes plane_codes height_digits
code_parts edition l h s o =
    let top = top_of edition in
    let levels = levels_of edition in
    ap (map char_of) (code_woven plane (layers top) laws (layer_laws top) (take l levels) (globe, all) s (levels_good edition l h) (root_in edition s o))
    ∙ rw (plane_levels edition l, height_levels_law edition l, level_strands edition l) (weave_map char_of (take l ten_strands) (code plane (take l splits) globe s.0) (code (layers top) (take l (height_levels (radices_of edition))) all s.1))

-- a place and a layer on the grid
on_grid_at : (edition : Edition) (p : Place) (l n : ℕ) (above : Bool) → SpaceFits edition l p n → OnGrid (radices_of edition) (square_of p, layer_of (top_of edition) above n)
on_grid_at edition p l n above f = record { on_globe = on_globe p f.wide f.high; layer_in = layer_in (top_of edition) above n f.rise_in }

-- the plane characters and the height characters, laid down each at its place, are the space code
pub put_code : (edition : Edition) (l : ℕ) (p : Place) (above : Bool) (n : ℕ) (line : List ℕ) {mid last : List ℕ} → SpaceFits edition l p n → get_or space_lengths (l - 1) 0 ≤ length line
    → mid ≡ spread plane_place 0 (code_of l (square_of p)) line
    → last ≡ spread_back height_place 0 (map char_of (height_digits (radices_of edition) l (layer_of (top_of edition) above n))) mid
    → last ≡ sets line 0 (space_code_of (radices_of edition) l (square_of p, layer_of (top_of edition) above n))
put_code edition l p above n line f room em el =
    let o = on_grid_at edition p l n above f in
    let z = layer_of (top_of edition) above n in
    let cp = code_of l (square_of p) in
    let ch = map char_of (height_digits (radices_of edition) l z) in
    let np : length cp ≡ (split_at (l - 1)).length = code_length l (square_of p) o.on_globe f.level_low f.level_high in
    let nh : length ch ≡ 2 + l = length-map (height_digits (radices_of edition) l z) char_of ∙ height_length (radices_of edition) l z (edition_fair edition) o.layer_in f.level_low f.level_high in
    rw (el, em, code_parts edition l f.level_high (square_of p, z) o) (both_spread l cp ch line f.level_low f.level_high np nh room)

-- ---- what the layer decides

module _ (rs : List ℕ) (l : ℕ) (s : Square) (z : ℤ) where
  pub layered_at : {above : Bool} {n : ℕ} → asked_of rs z ≡ accepted (above, n) → accepted (space_code_of rs l (s, layer_of (product rs) above n)) ≡ layered_text rs l s z
  unfolding layered_text
  layered_at e =
      let a = asked_at rs z e in
      ap (λ (x : ℤ). accepted (space_code_of rs l (s, x))) a.2 ∙ rw (lt-ltb (index z) (product rs) a.0) refl

  pub layered_refused : {r : Refusal} → asked_of rs z ≡ refused r → layered_text rs l s z ≡ refused r
  unfolding layered_text
  layered_refused {r} e = go (ltb (index z) (product rs)) e
    where
      go : (q : Bool) → unless {C = Bool × ℕ} q outside_layers (accepted (side z, rise (product rs) z)) ≡ refused r → unless q (refusal 4 0) (accepted (space_code_of rs l (s, z))) ≡ refused r
      go true e = clash (cc)
      go false e = cc

-- ---- the text, as far as it is decided

module _ (edition level longitude latitude layer : ℤ) where
  pub text_1 : {r : Refusal} → refused r ≡ level_in level → refused r ≡ space_text edition level longitude latitude layer
  unfolding space_text
  text_1 e = rw (← e) refl

  module _ {l : ℕ} (e : accepted l ≡ level_in level) where
    pub text_13 : {r : Refusal} → refused r ≡ edition_in edition → refused r ≡ space_text edition level longitude latitude layer
    unfolding space_text
    text_13 f = rw (← e, ← f) refl

    module _ {rs : List ℕ} (f : accepted rs ≡ edition_in edition) where
      pub text_2 : {r : Refusal} → refused r ≡ square_in 1 longitude latitude → refused r ≡ space_text edition level longitude latitude layer
      unfolding space_text
      text_2 g = rw (← e, ← f, ← g) refl

      module _ {s : Square} (g : accepted s ≡ square_in 1 longitude latitude) where
        pub text_4 : {r : Refusal} → refused r ≡ asked_of rs layer → refused r ≡ space_text edition level longitude latitude layer
        unfolding space_text
        text_4 h = rw (← e, ← f, ← g) (sym (layered_refused rs l s layer (sym h)))

        pub text_all : {above : Bool} {n : ℕ} → accepted (above, n) ≡ asked_of rs layer
            → accepted (space_code_of rs l (s, layer_of (product rs) above n)) ≡ space_text edition level longitude latitude layer
        unfolding space_text
        text_all h = rw (← e, ← f, ← g) (layered_at rs l s layer (sym h))

pub space_length : (edition : Edition) (l : ℕ) (p : Place) (n : ℕ) (above : Bool) → SpaceFits edition l p n → length (space_code_of (radices_of edition) l (square_of p, layer_of (top_of edition) above n)) ≡ get_or space_lengths (l - 1) 0
unfolding space_code_of space_codes space_sound
space_length edition l p n above f =
    length_code_in (space_codes (radices_of edition)) (space_sound (radices_of edition) (edition_test edition)) l (square_of p, layer_of (top_of edition) above n) (on_grid_at edition p l n above f) f.level_high
    ∙ long_sum edition l f.level_low f.level_high
