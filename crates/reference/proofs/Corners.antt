-- Bases and targets: a cell of level 5 or finer that is ordinary, its corner, and the cell that an offset leads to.
-- Assumes nothing.
use mathlib.Core.Path.{◌≡◌, refl, sym, ◌∙◌, ap, subst}
use mathlib.Core.Bool.{Bool, true, false, ◌&&◌, ◌||◌}
use mathlib.Core.List.{List}
use mathlib.Core.Logic.{inl, inr}
use Prim.Native.Nat.{ℕ, suc, ◌+◌, ◌-◌, ◌%◌, ◌≤◌, ◌<◌, ◌∣◌}
use native.Mathlib.Omega.{arith}
use lib.Dec.{ltb, leb}
use lib.IntN.{ℤ}
use borrow.Author.Tests.{ltb-true, leb-true, lt-ltb, le-ltb, le-leb}
use Rattle.grid.specs.declared.Cell.{Cell}
use Rattle.grid.specs.Units.{TURN, HALF, POLAR, index, Square, OnGlobe}
use Rattle.grid.specs.Answers.{accepted}
use Rattle.grid.specs.Cells.{around, above, Covers}
use Rattle.grid.specs.Splits.{split_at}
use Rattle.grid.specs.Plane.{code_of, cell_of}
use Rattle.grid.proofs.Cut.{and_true, and_make, below}
use Rattle.grid.proofs.PlaneLaws.{index_longitude_at}
use Rattle.grid.proofs.Theorems.{plane_demands}
use Rattle.distances.specs.Distances.{between}
use Rattle.distances.proofs.Turning.{around_below}
use Rattle.distances.proofs.Rising.{above_self}
use Rattle.reference.specs.Offsets.{offset_digit, moved_to}
use Rattle.reference.specs.Text.{fit, target_square}
use Rattle.reference.proofs.Numbers.{moved_below, around_moved, moved_whole, between_none, within_between}
use Rattle.reference.proofs.Ordinary.{Ordinary, even_level_law, cell_kind}

-- ---- a base or a target

-- a number at whole cells of a size
pub record Axis (size : ℕ) (z : ℤ) : Type 0 where
  pub some : 0 < size
  pub small : size ≤ 8192
  pub turn : size ∣ TURN
  pub whole : size ∣ around z
  pub within : index z < HALF

pub record Fit (c : Cell) : Type 0 where
  pub level_low : 5 ≤ c.level
  pub level_high : c.level ≤ 10
  pub wide : c.width ≡ (split_at (c.level - 1)).width
  pub high : c.height ≡ (split_at (c.level - 1)).height
  pub east : Axis c.width c.west
  pub north : Axis c.height c.south
  pub south_in : index c.south < POLAR

-- the table: from level 5 on a cell has at most 8,192 units
abbrev fine_level : ℕ → Bool
fine_level k =
    ltb k 4 ||
    ((ltb 0 (split_at k).width && leb (split_at k).width 8192) && (ltb 0 (split_at k).height && leb (split_at k).height 8192))

pub record FineLevel (k : ℕ) : Type 0 where
  pub some_w : 0 < (split_at k).width
  pub small_w : (split_at k).width ≤ 8192
  pub some_h : 0 < (split_at k).height
  pub small_h : (split_at k).height ≤ 8192

pub fine_level_law : (k : ℕ) → 4 ≤ k → k < 10 → FineLevel k
fine_level_law k l h =
    let a : (false || _) ≡ true = rw (le-ltb k 4 l) at (below fine_level 10 k refl h) in
    let b = and_true _ _ a in
    let c = and_true _ _ b.0 in
    let d = and_true _ _ b.1 in
    record { some_w = ltb-true 0 _ c.0; small_w = leb-true _ 8192 c.1; some_h = ltb-true 0 _ d.0; small_h = leb-true _ 8192 d.1 }

ordinary_fit : (c : Cell) (k : ℕ) → Ordinary c k → 5 ≤ c.level → Fit c
ordinary_fit c k o l =
    let e : c.level ≡ suc k = o.level in
    let j : c.level - 1 ≡ k = omega arith in
    let h : k < 10 = o.below_ten in
    let F = fine_level_law k (omega arith) h in
    let E = even_level_law k h in
    let s : index c.south < 648806400 = o.south_in in
    record {
      level_low = l;
      level_high = omega arith;
      wide = o.wide ∙ ap (λ (i : ℕ). (split_at i).width) (sym j);
      high = o.high ∙ ap (λ (i : ℕ). (split_at i).height) (sym j);
      east = record {
        some = subst (λ (x : ℕ). 0 < x) (sym o.wide) F.some_w;
        small = subst (λ (x : ℕ). x ≤ 8192) (sym o.wide) F.small_w;
        turn = subst (λ (x : ℕ). x ∣ TURN) (sym o.wide) E.turn_wide;
        whole = o.across;
        within = o.west_in;
      };
      north = record {
        some = subst (λ (x : ℕ). 0 < x) (sym o.high) F.some_h;
        small = subst (λ (x : ℕ). x ≤ 8192) (sym o.high) F.small_h;
        turn = subst (λ (x : ℕ). x ∣ TURN) (sym o.high) E.turn_high;
        whole = o.along;
        within = omega arith;
      };
      south_in = s;
    }

pub fit_of : (w : List ℕ) (c : Cell) → cell_of w ≡ accepted c → fit c ≡ true → Fit c
unfolding fit
fit_of w c e h =
    let a = and_true (leb 5 c.level) (ltb (index c.south) POLAR) h in
    let s : index c.south < 648806400 = ltb-true _ _ a.1 in
    elim (cell_kind w c e) [
      | inl o ↦ ordinary_fit c o.0 o.1 (leb-true 5 c.level a.0)
      | inr o ↦ absurd (omega (arith, o.south))
    ]

pub to_fit : (c : Cell) → Fit c → fit c ≡ true
unfolding fit
to_fit c f = and_make (leb 5 c.level) (ltb (index c.south) POLAR) (le-leb 5 c.level f.level_low) (lt-ltb _ _ f.south_in)

-- ---- its corner is one of its squares, so its code is the corner's

abbrev pub corner : Cell → Square
corner c = record { longitude = c.west; latitude = c.south }

corner_on : (c : Cell) → Fit c → OnGlobe (corner c)
corner_on c f = let s : index c.south < 648806400 = f.south_in in record { longitude_in = f.east.within; latitude_in = omega arith }

corner_covered : (c : Cell) → Fit c → Covers c (corner c)
corner_covered c f =
    let r : around c.west < 2654208000 = around_below c.west in
    let p : 0 < c.width = f.east.some in
    let q : 0 < c.height = f.north.some in
    let z : (around c.west + (2654208000 - around c.west)) % 2654208000 ≡ 0 = omega arith in
    let y : above c.south c.south ≡ 0 = above_self c.south in
    record { across = rw z p; along = record { starts = y; ends = omega arith } }

pub corner_code : (w : List ℕ) (c : Cell) → cell_of w ≡ accepted c → Fit c → w ≡ code_of c.level (corner c)
corner_code w c e f = plane_demands.no_other w c (corner c) (corner_on c f) e (corner_covered c f)

-- ---- the cell of a square at whole widths and heights has it as its corner

module _ (w : List ℕ) (d : Cell) (s : Square) (e : cell_of w ≡ accepted d) (o : OnGlobe s) (v : Covers d s) (away : index s.latitude < 648806400) (l : 5 ≤ d.level) where
  pub holder_fit : Fit d
  holder_fit = elim (cell_kind w d e) [
    | inl k ↦ ordinary_fit d k.0 k.1 l
    | inr k ↦ absurd (omega (arith, k.squares s o v))
  ]

  pub holder_corner : d.width ∣ around s.longitude → d.height ∣ around s.latitude → (d.west ≡ s.longitude) × (d.south ≡ s.latitude)
  unfolding between
  holder_corner a b =
      let f = holder_fit in
      let E = f.east in
      let N = f.north in
      let h : index s.latitude < 1327104000 = omega arith in (
        between_none d.width E.some E.small E.turn d.west s.longitude E.whole a E.within o.longitude_in v.across,
        between_none d.height N.some N.small N.turn d.south s.latitude N.whole b N.within h (within_between d.south s.latitude d.height N.within h v.along),
      )

-- ---- the cell that an offset leads to

module _ (b : Cell) (m n : ℕ) (f : Fit b) (hm : offset_digit m ≡ true) (hn : offset_digit n ≡ true) (away : index (target_square b m n).latitude < 648806400) where
  pub record Target : Type 0 where
    pub cell : Cell
    pub read : cell_of (code_of b.level (target_square b m n)) ≡ accepted cell
    pub fit : Fit cell
    pub level : cell.level ≡ b.level
    pub wide : cell.width ≡ b.width
    pub high : cell.height ≡ b.height
    pub west : cell.west ≡ (target_square b m n).longitude
    pub south : cell.south ≡ (target_square b m n).latitude

  pub target : Target
  target =
      let s = target_square b m n in
      let o : OnGlobe s = record { longitude_in = index_longitude_at (moved_to b.width m b.west) (moved_below b.width m b.west); latitude_in = omega arith } in
      let k = plane_demands.each_has_its_cell b.level s o (omega (arith, f.level_low)) f.level_high in
      let d = k.0 in
      let l : d.level ≡ b.level = k.2 in
      let g : Fit d = holder_fit (code_of b.level s) d s k.1 o k.3 away (omega (arith, f.level_low)) in
      let w : d.width ≡ b.width = g.wide ∙ ap (λ (i : ℕ). (split_at (i - 1)).width) l ∙ sym f.wide in
      let h : d.height ≡ b.height = g.high ∙ ap (λ (i : ℕ). (split_at (i - 1)).height) l ∙ sym f.high in
      let E = f.east in
      let N = f.north in
      let x : b.width ∣ around s.longitude = rw (around_moved b.width m b.west) (moved_whole b.width E.some E.small m b.west E.turn E.whole hm) in
      let y : b.height ∣ around s.latitude = rw (around_moved b.height n b.south) (moved_whole b.height N.some N.small n b.south N.turn N.whole hn) in
      let c = holder_corner (code_of b.level s) d s k.1 o k.3 away (omega (arith, f.level_low)) (subst (λ (z : ℕ). z ∣ around s.longitude) (sym w) x) (subst (λ (z : ℕ). z ∣ around s.latitude) (sym h) y) in
      record { cell = d; read = k.1; fit = g; level = l; wide = w; high = h; west = c.0; south = c.1 }
