-- The demands, and when 6, 7 and 20 are given, met by plane codes over unit squares and by space codes over unit cubes.
-- Assumes nothing.
use Rattle.std.proofs.Common.{◌≡◌, ℕ, ◌<◌, ◌≤◌, Bool, true, false, cond, ◌&&◌, eqb, leb, ◌⊎◌, List, [], take, ℤ, pos, negsuc, refl, subst, inl, inr, arith, leb-true}
use Rattle.grid.specs.Units.{OnGlobe}
use Rattle.grid.specs.Answers.{accepted, refusal, unless}
use Rattle.grid.specs.Cells.{Covers, CoversCube}
use Rattle.grid.specs.Places.{Places}
use Rattle.grid.specs.Splits.{splits, plane_lengths}
use Rattle.grid.specs.Plane.{Frame, ordinary, belt, disc, Box, Node, globe, pole, cell, cap, plane, cell_at, plane_codes, code_of, cell_of}
use Rattle.grid.specs.Layers.{ours, theirs, edition_in, product, layers}
use Rattle.grid.specs.Space.{space_levels, space_lengths, space_codes, OnGrid, space_code_of, space_cell_of}
use Rattle.grid.specs.Demands.{Demands, plane_family, space_family}
use Rattle.grid.proofs.Cut.{clash, and_true, all_below, below}
use Rattle.grid.proofs.Laws.{total}
use Rattle.grid.proofs.PlaneLaws.{laws, fits_globe, splits_fit}
use Rattle.grid.proofs.Covering.{covers_in, in_covers, in_globe}
use Rattle.grid.proofs.LayerLaws.{fits_all, layer_laws, stack_in, stack_on, stack_covers}
use Rattle.grid.proofs.BothLaws.{both_laws, ones, twos, each_adds}
use Rattle.grid.proofs.Families.{Sound, test_place, test_length, test_order, demands}
use Rattle.grid.proofs.Refusing.{places}

-- ---- plane codes

frame_level : (l : ℕ) (f : Frame) (b : Box) → (cell_at l (cell f b)).level ≡ l
frame_level l (ordinary n e) b = refl
frame_level l (belt n e) b = refl
frame_level l (disc n) b = refl

pub cell_level : (l : ℕ) (n : Node) → (cell_at l n).level ≡ l
cell_level l globe = refl
cell_level l (pole n) = refl
cell_level l (cell f b) = frame_level l f b
cell_level l (cap n h) = refl

unfoldable pub plane_sound : Sound plane_codes
unfolding plane_codes total
plane_sound =
    record {
      laws = laws;
      On = OnGlobe;
      Covers = Covers;
      level = λ c. c.level;
      level_at = cell_level;
      on_root = λ s o. o;
      in_on = in_globe;
      covers_in = λ l n s. covers_in l [] n s;
      in_covers = λ l n s. in_covers l [] n s;
      fits = splits_fit;
      place_test = refl;
      length_test = refl;
      order_test = refl;
    }

-- demands 2 and 3 for plane codes
pub plane_demands : Demands plane_family
unfolding code_of cell_of plane_sound
plane_demands = demands plane_codes plane_sound

-- refusals 6, 7 and 20 of plane codes, exactly when and where
pub plane_places : Places cell_of plane_lengths
unfolding cell_of plane_codes plane_sound
plane_places = places plane_codes plane_sound

-- ---- space codes, of any list of radices that passes the test

abbrev fits_space : List ℕ → ℕ → Bool
fits_space rs l =
    fits_globe (ones plane (layers (product rs)) (take l (space_levels (product rs) splits rs))) &&
    (fits_all (twos plane (layers (product rs)) (take l (space_levels (product rs) splits rs))) (product rs) &&
    each_adds plane (layers (product rs)) (take l (space_levels (product rs) splits rs)))

-- the one test: as many layers above ground as below in 32 bits, and every level divides the one before and has its length
abbrev pub is_edition : List ℕ → Bool
is_edition rs =
    leb (product rs) 2147483648 &&
    (all_below (fits_space rs) 11 && (test_place (space_codes rs) && (test_length (space_codes rs) && test_order (space_codes rs))))

-- its five parts
five : (a b c d e : Bool) → (a && (b && (c && (d && e)))) ≡ true → (a ≡ true) × (b ≡ true) × (c ≡ true) × (d ≡ true) × (e ≡ true)
five a b c d e h =
    let p = and_true a _ h in
    let q = and_true b _ p.1 in
    let r = and_true c _ q.1 in
    let t = and_true d e r.1 in
    (p.0, q.0, r.0, t.0, t.1)

module _ (rs : List ℕ) (fair : is_edition rs ≡ true) where
  abbrev top : ℕ
  top = product rs

  pub passes : (leb top 2147483648 ≡ true) × (all_below (fits_space rs) 11 ≡ true) × (test_place (space_codes rs) ≡ true) × (test_length (space_codes rs) ≡ true) × (test_order (space_codes rs) ≡ true)
  passes = five (leb top 2147483648) (all_below (fits_space rs) 11) (test_place (space_codes rs)) (test_length (space_codes rs)) (test_order (space_codes rs)) fair

  pub edition_small : top ≤ 2147483648
  edition_small = leb-true top 2147483648 passes.0

  unfoldable pub space_sound : Sound (space_codes rs)
  unfolding space_codes
  space_sound =
      record {
        laws = both_laws plane (layers top) laws (layer_laws top);
        On = OnGrid rs;
        Covers = CoversCube;
        level = λ c. c.cell.level;
        level_at = λ l n. cell_level l n.0;
        on_root = λ s o. (o.on_globe, o.layer_in);
        in_on = λ n s i. record { on_globe = in_globe n.0 s.0 i.0; layer_in = stack_on top n.1 s.1 i.1 };
        covers_in = λ l n s g o c. (covers_in l [] n.0 s.0 g.0 o.on_globe c.plan, stack_in top n.1 s.1 edition_small g.1 o.layer_in c.high);
        in_covers = λ l n s g i. record { plan = in_covers l [] n.0 s.0 g.0 i.0; high = stack_covers top n.1 s.1 edition_small g.1 i.1 };
        fits = λ l h. (let a = below (fits_space rs) 11 l passes.1 (omega arith) in let b = and_true _ _ a in let c = and_true _ _ b.1 in (b.0, c.0, c.1));
        place_test = passes.2;
        length_test = passes.3;
        order_test = passes.4;
      }

-- ---- the two editions

-- how many layers each has above ground, and as many below
pub layers_of_ours : product ours ≡ 1887436800
layers_of_ours = refl

pub layers_of_theirs : product theirs ≡ 2147483648
layers_of_theirs = refl

pub ours_fair : is_edition ours ≡ true
unfolding space_codes total
ours_fair = refl

pub theirs_fair : is_edition theirs ≡ true
unfolding space_codes total
theirs_fair = refl

-- an edition's radices are the one list or the other
pub one_of_two : (edition : ℤ) (rs : List ℕ) → edition_in edition ≡ accepted rs → (ours ≡ rs) ⊎ (theirs ≡ rs)
unfolding edition_in
one_of_two (pos n) rs e = go (eqb n 1) (eqb n 2) e
  where
    go : (a b : Bool) → cond a (accepted ours) (unless b (refusal 13 0) (accepted theirs)) ≡ accepted rs → (ours ≡ rs) ⊎ (theirs ≡ rs)
    go true b e = inl (cc)
    go false true e = inr (cc)
    go false false e = clash (cc)
one_of_two (negsuc n) rs e = clash (cc)

pub edition_fair : (edition : ℤ) (rs : List ℕ) → edition_in edition ≡ accepted rs → is_edition rs ≡ true
edition_fair edition rs e = elim (one_of_two edition rs e) [
  | inl h ↦ subst (λ (x : List ℕ). is_edition x ≡ true) h ours_fair
  | inr h ↦ subst (λ (x : List ℕ). is_edition x ≡ true) h theirs_fair
]

-- it has layers
pub edition_some : (edition : ℤ) (rs : List ℕ) → edition_in edition ≡ accepted rs → 0 < product rs
edition_some edition rs e = elim (one_of_two edition rs e) [
  | inl h ↦ subst (λ (x : List ℕ). 0 < product x) h (omega arith)
  | inr h ↦ subst (λ (x : List ℕ). 0 < product x) h (omega arith)
]

module _ (edition : ℤ) (rs : List ℕ) (e : edition_in edition ≡ accepted rs) where
  -- demands 2 and 3 for an edition's space codes
  pub space_demands : Demands (space_family rs)
  unfolding space_code_of space_cell_of space_codes space_sound
  space_demands = demands (space_codes rs) (space_sound rs (edition_fair edition rs e))

  -- refusals 6, 7 and 20 of an edition's space codes, exactly when and where
  pub space_places : Places (space_cell_of rs) space_lengths
  unfolding space_cell_of space_codes space_sound
  space_places = places (space_codes rs) (space_sound rs (edition_fair edition rs e))
