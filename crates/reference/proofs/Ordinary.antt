-- The cells of ordinary codes: as wide and as high as the table says of their level, and at whole widths and heights from 0.
-- Assumes nothing.
use mathlib.Core.Path.{◌≡◌, refl, sym, ◌∙◌, subst}
use mathlib.Core.Bool.{Bool, true, false, ◌&&◌}
use mathlib.Core.List.{List, [], ◌∷◌, map}
use mathlib.Core.Logic.{◌⊎◌, inl, inr}
use Prim.Native.Nat.{ℕ, zero, suc, ◌+◌, ◌-◌, ◌*◌, ◌%◌, ◌≤◌, ◌<◌, ◌∣◌}
use native.Mathlib.Omega.{arith}
use native.Mathlib.Nat.{dvd-add, dvd-sub, dvd_trans, dvd-mul_left, dvd_refl, dvd_of_mod-eq-zero}
use lib.Dec.{ltb, leb, eqb}
use lib.ListN.{take, drop}
use borrow.Author.Tests.{eqb-true, ltb-false}
use Rattle.grid.specs.declared.Split.{Split}
use Rattle.grid.specs.declared.Cell.{Cell}
use Rattle.grid.specs.Units.{TURN, HALF, POLAR, index, from_pole, Square, OnGlobe}
use Rattle.grid.specs.Characters.{digit_of}
use Rattle.grid.specs.Tree.{ok, follow}
use Rattle.grid.specs.Answers.{accepted}
use Rattle.grid.specs.Cells.{around, Covers}
use Rattle.grid.specs.Splits.{first, splits, split_at}
use Rattle.grid.specs.Plane.{Frame, ordinary, belt, disc, Box, Node, globe, pole, cell, cap, Part, plain_part, part_of, cap_part, sub, ring_node, sheet, globe_child, polar_node, pole_child, child_of, plane, least, least_from_pole, cell_at, plane_codes, cell_of}
use Rattle.grid.proofs.Cut.{clash, and_true, below, ok_inj}
use Rattle.grid.proofs.Step.{In, write_read}
use Rattle.grid.proofs.Globe.{globe_cases}
use Rattle.grid.proofs.Poles.{two_of, placed}
use Rattle.grid.proofs.Laws.{next_ok, follow_good}
use Rattle.grid.proofs.PlaneLaws.{Good, GoodCell, cell_exact, cell_positive, cap_positive, good, laws, splits_fit}
use Rattle.grid.proofs.Covering.{covers_in}
use Rattle.grid.proofs.Theorems.{plane_sound}
use Rattle.grid.proofs.Families.{Found, found}

-- ---- a node of the level t: an ordinary cell at whole widths and heights, or at 88° or nearer a pole

pub record Whole (t : Split) (b : Box) : Type 0 where
  pub wide : b.w ≡ t.width
  pub high : b.h ≡ t.height
  pub across : t.width ∣ b.x
  pub along : t.height ∣ b.y

abbrev pub Tidy : Split → Node → Type 0
Tidy t globe = ⊥
Tidy t (pole n) = Unit {0}
Tidy t (cell (ordinary n e) b) = Whole t b
Tidy t (cell (belt n e) b) = POLAR ≤ b.y
Tidy t (cell (disc n) b) = Unit {0}
Tidy t (cap n h) = Unit {0}

-- c parts of width d on from x, where k parts make a width w
whole_part : (x w c k d : ℕ) → k * d ≡ w → w ∣ x → d ∣ x + c * d
whole_part x w c k d e h = dvd-add d (dvd_trans d (subst (λ (z : ℕ). d ∣ z) e (dvd-mul_left d k)) h) (dvd-mul_left d c)

module _ (t u : Split) (us : List Split) where
  cell_tidy : (f : Frame) (b : Box) (w : List ℕ) (m : Node) → GoodCell (u ∷ us) f b → Tidy t (cell f b) → child_of u (cell f b) w ≡ ok m → Tidy u m
  cell_tidy (ordinary n e) b w m g i h =
      let p = plain_part u in
      let E = cell_exact u us (ordinary n e) b g in
      let a = write_read p.form false p (λ c r. cell (ordinary n e) (sub p b c r)) w m h in
      let ww : u.columns * u.width ≡ t.width = E.wide ∙ i.wide in
      let hh : u.rows * u.height ≡ t.height = E.high ∙ i.high in
      subst (λ (x : Node). Tidy u x) a.node
      (record {
        wide = refl;
        high = refl;
        across = whole_part b.x t.width a.c u.columns u.width ww i.across;
        along = whole_part b.y t.height a.r u.rows u.height hh i.along;
      })
  cell_tidy (belt n e) b w m g i h =
      let p = part_of u true b.w b.h in
      let a = write_read p.form false p (λ c r. cell (belt n e) (sub p b c r)) w m h in
      subst (λ (x : Node). Tidy u x) a.node (omega arith)
  cell_tidy (disc n) b w m g i h =
      let p = part_of u true b.w b.h in
      let a = write_read p.form false p (λ c r. cell (disc n) (sub p b c r)) w m h in
      subst (λ (x : Node). Tidy u x) a.node tt

  ring_tidy : (n : Bool) (p : Part) (h c r : ℕ) → Tidy u (ring_node n p h c r)
  ring_tidy n p h c zero = tt
  ring_tidy n p h c (suc r) = tt

  polar_tidy : (n : Bool) (k : ℕ) → k < 16 → Tidy u (polar_node n k)
  polar_tidy n k h = go (eqb k 0) refl (ltb k 4) refl
    where
      go : (b : Bool) → eqb k 0 ≡ b → (c : Bool) → ltb k 4 ≡ c → Tidy u (polar_node n k)
      go true p c x = rw p tt
      go false p true x = rw (p, x) tt
      go false p false x = rw (p, x) ((placed k h).in_belt (ltb-false k 4 x)).0

  pole_tidy : (n : Bool) (w : List ℕ) (m : Node) → pole_child n w ≡ ok m → Tidy u m
  pole_tidy n [] m e = clash (cc)
  pole_tidy n (a ∷ []) m e = clash (cc)
  pole_tidy n (a ∷ b ∷ []) m e =
      let q = two_of n a b m e in
      let ha : a < 4 = q.first in
      let hb : b < 4 = q.second in
      subst (λ (x : Node). Tidy u x) q.node (polar_tidy n (4 * a + b) (omega arith))
  pole_tidy n (a ∷ b ∷ x ∷ w) m e = clash (cc)

  child_tidy : (n : Node) (w : List ℕ) (m : Node) → Good (u ∷ us) n → Tidy t n → child_of u n w ≡ ok m → Tidy u m
  child_tidy globe w m g i e = absurd i
  child_tidy (pole n) w m g i e = pole_tidy n w m e
  child_tidy (cell f b) w m g i e = cell_tidy f b w m g i e
  child_tidy (cap n h) w m g i e =
      let p = cap_part u h in
      let a = write_read p.form true p (λ c r. ring_node n p h c r) w m e in
      subst (λ (x : Node). Tidy u x) a.node (ring_tidy n p h a.c a.r)

sheet_tidy : (n : Bool) (z r : ℕ) → Tidy first (sheet n z r)
sheet_tidy n z r = go (leb 31 z) refl
  where
    go : (q : Bool) → leb 31 z ≡ q → Tidy first (sheet n z r)
    go true p = rw p (record { wide = refl; high = refl; across = dvd-mul_left 44236800 (z - 31); along = dvd-mul_left 29491200 r })
    go false p = rw p (record { wide = refl; high = refl; across = dvd-mul_left 44236800 (30 - z); along = dvd-mul_left 29491200 r })

globe_tidy : (w : List ℕ) (m : Node) → globe_child w ≡ ok m → Tidy first m
globe_tidy [] m e = clash (cc)
globe_tidy (a ∷ []) m e = clash (cc)
globe_tidy (a ∷ b ∷ []) m e = clash (cc)
globe_tidy (a ∷ b ∷ c ∷ []) m e = clash (cc)
globe_tidy (a ∷ b ∷ c ∷ d ∷ []) m e = elim (globe_cases a b c d m e) [
  | inl s ↦ subst (λ (x : Node). Tidy first x) s.node (sheet_tidy (eqb a 23) (10 * b + c) (d - 10))
  | inr s ↦ subst (λ (x : Node). Tidy first x) s.node tt
]
globe_tidy (a ∷ b ∷ c ∷ d ∷ x ∷ w) m e = clash (cc)

-- the last of the levels
abbrev last_of : Split → List Split → Split
last_of t [] = t
last_of t (u ∷ us) = last_of u us

follow_tidy : (t : Split) (us : List Split) (n : Node) (w : List ℕ) (m : Node) → Good us n → Tidy t n → follow plane us n w ≡ ok m → Tidy (last_of t us) m
unfolding follow
follow_tidy t [] n w m g i e = subst (λ (x : Node). Tidy t x) (ok_inj e) i
follow_tidy t (u ∷ us) n w m g i e =
    let a = next_ok u.characters (child_of u n (take u.characters w)) (λ x. follow plane us x (drop u.characters w)) m e in
    follow_tidy u us a.0 (drop u.characters w) m (good u us n (take u.characters w) a.0 g a.1) (child_tidy t u us n (take u.characters w) a.0 g i a.1) a.2

-- ---- the table: sizes of the last level gone down, and that each goes into a turn

abbrev rest : List Split
rest = drop 1 splits

abbrev even_level : ℕ → Bool
even_level k =
    (eqb (last_of first (take k rest)).width (split_at k).width && eqb (last_of first (take k rest)).height (split_at k).height) &&
    (eqb (TURN % (split_at k).width) 0 && eqb (TURN % (split_at k).height) 0)

pub record EvenLevel (k : ℕ) : Type 0 where
  pub wide : (last_of first (take k rest)).width ≡ (split_at k).width
  pub high : (last_of first (take k rest)).height ≡ (split_at k).height
  pub turn_wide : (split_at k).width ∣ TURN
  pub turn_high : (split_at k).height ∣ TURN

pub even_level_law : (k : ℕ) → k < 10 → EvenLevel k
even_level_law k h =
    let a = and_true _ _ (below even_level 10 k refl h) in
    let b = and_true _ _ a.0 in
    let c = and_true _ _ a.1 in
    record {
      wide = eqb-true _ _ b.0;
      high = eqb-true _ _ b.1;
      turn_wide = dvd_of_mod-eq-zero (split_at k).width (eqb-true (TURN % (split_at k).width) 0 c.0);
      turn_high = dvd_of_mod-eq-zero (split_at k).height (eqb-true (TURN % (split_at k).height) 0 c.1);
    }

-- ---- an ordinary cell of level k + 1

pub record Ordinary (c : Cell) (k : ℕ) : Type 0 where
  pub level : c.level ≡ suc k
  pub below_ten : k < 10
  pub wide : c.width ≡ (split_at k).width
  pub high : c.height ≡ (split_at k).height
  pub west_in : index c.west < HALF
  pub south_in : index c.south < POLAR
  pub across : c.width ∣ around c.west
  pub along : c.height ∣ around c.south

least_whole : (e : Bool) (x w : ℕ) → w ∣ 2654208000 → w ∣ x → 0 < w → x + w ≤ 1327104000 → w ∣ around (least e x w)
least_whole true x w t d p h = let e : x % 2654208000 ≡ x = omega arith in rw e d
least_whole false x w t d p h =
    let e : 2654207999 - (x + w - 1) % 2654208000 ≡ 2654208000 - (x + w) = omega arith in
    rw e (dvd-sub w t (dvd-add w d (dvd_refl w)))

least_from : (e : Bool) (x w : ℕ) → 0 < w → 648806400 ≤ x → 648806400 ≤ index (least e x w)
least_from true x w p h = omega arith
least_from false x w p h = omega arith

least_in : (e : Bool) (x w k : ℕ) → 0 < w → x + w ≤ k → index (least e x w) < k
least_in true x w k p h = omega arith
least_in false x w k p h = omega arith

-- a cell at 88° or nearer a pole, and so are its squares
pub record NearPole (c : Cell) : Type 0 where
  pub south : POLAR ≤ index c.south
  pub squares : (s : Square) → OnGlobe s → Covers c s → POLAR ≤ index s.latitude

near_pole_law : (l : ℕ) (n : Node) → Good [] n → POLAR ≤ index (cell_at l n).south → ((s : Square) → In n s → POLAR ≤ index s.latitude) → NearPole (cell_at l n)
near_pole_law l n g a b = record { south = a; squares = λ s o v. b s (covers_in l [] n s g o v) }

about_pole : (b : Bool) (q n : ℕ) → 0 < n → q + n ≤ 14745600 → 648806400 ≤ index (least_from_pole b q n)
about_pole true q n p h = omega arith
about_pole false q n p h = omega arith

node_kind : (k : ℕ) (n : Node) → k < 10 → Good [] n → Tidy (last_of first (take k rest)) n → Ordinary (cell_at (suc k) n) k ⊎ NearPole (cell_at (suc k) n)
node_kind k globe h g i = absurd i
node_kind k (pole n) h g i = inr (near_pole_law (suc k) (pole n) g (about_pole n 0 14745600 (omega arith) (omega arith)) (λ s j. j.near))
node_kind k (cell (ordinary n e) b) h g i =
    let E = even_level_law k h in
    let p = cell_positive [] (ordinary n e) b g in
    let w : b.w ≡ (split_at k).width = i.wide ∙ E.wide in
    let v : b.h ≡ (split_at k).height = i.high ∙ E.high in
    let fy : b.y + b.h ≤ 648806400 = g.fit.high in
    inl
    (record {
      level = refl;
      below_ten = h;
      wide = w;
      high = v;
      west_in = least_in e b.x b.w 1327104000 p.0 g.fit.wide;
      south_in = least_in n b.y b.h 648806400 p.1 fy;
      across = least_whole e b.x b.w (subst (λ (z : ℕ). z ∣ 2654208000) (sym w) E.turn_wide) (subst (λ (z : ℕ). z ∣ b.x) (sym i.wide) i.across) p.0 g.fit.wide;
      along = least_whole n b.y b.h (subst (λ (z : ℕ). z ∣ 2654208000) (sym v) E.turn_high) (subst (λ (z : ℕ). z ∣ b.y) (sym i.high) i.along) p.1 (omega arith);
    })
node_kind k (cell (belt n e) b) h g i =
    let p = cell_positive [] (belt n e) b g in
    inr (near_pole_law (suc k) (cell (belt n e) b) g (least_from n b.y b.h p.1 i) (λ s j. (let l : b.y ≤ index s.latitude = j.inside.yl in omega arith)))
node_kind k (cell (disc n) b) h g i =
    let f : b.y + b.h ≤ 7372800 = g.fit.high in
    let p = cell_positive [] (disc n) b g in
    inr (near_pole_law (suc k) (cell (disc n) b) g (about_pole n b.y b.h p.1 (omega arith)) (λ s j. (let l : from_pole s.latitude < b.y + b.h = j.inside.yu in omega arith)))
node_kind k (cap n m) h g i =
    let f : m ≤ 7372800 = g.fit in
    inr (near_pole_law (suc k) (cap n m) g (about_pole n 0 m (cap_positive [] m g) (omega arith)) (λ s j. (let l : from_pole s.latitude < m = j.near in omega arith)))

node_tidy : (k : ℕ) (w : List ℕ) (m : Node) → k < 10 → follow plane (take (suc k) splits) globe w ≡ ok m → Tidy (last_of first (take k rest)) m
unfolding follow
node_tidy k w m h e =
    let a = next_ok 4 (child_of first globe (take 4 w)) (λ x. follow plane (take k rest) x (drop 4 w)) m e in
    follow_tidy first (take k rest) a.0 (drop 4 w) m (good first (take k rest) globe (take 4 w) a.0 (splits_fit (suc k) (omega arith)) a.1) (globe_tidy (take 4 w) a.0 a.1) a.2

-- what an accepted code's cell is
pub cell_kind : (w : List ℕ) (c : Cell) → cell_of w ≡ accepted c → ((k : ℕ) × Ordinary c k) ⊎ NearPole c
unfolding cell_of plane_codes plane_sound
cell_kind w c e = go f.l refl
  where
    f : Found plane_codes plane_sound w c
    f = found plane_codes plane_sound w c e

    go : (l : ℕ) → f.l ≡ l → ((k : ℕ) × Ordinary c k) ⊎ NearPole c
    go zero q = absurd (omega (arith, f.low))
    go (suc k) q =
        let h : k < 10 = omega (arith, f.high) in
        let r : follow plane (take (suc k) splits) globe (map digit_of w) ≡ ok f.node = subst (λ (i : ℕ). follow plane (take i splits) globe (map digit_of w) ≡ ok f.node) q f.read in
        let s : cell_at (suc k) f.node ≡ c = subst (λ (i : ℕ). cell_at i f.node ≡ c) q f.same in
        let g = follow_good plane laws (take (suc k) splits) globe (map digit_of w) f.node (splits_fit (suc k) (omega arith)) r in
        elim (node_kind k f.node h g (node_tidy k (map digit_of w) f.node h r)) [
          | inl o ↦ inl (k, subst (λ (x : Cell). Ordinary x k) s o)
          | inr o ↦ inr (subst (λ (x : Cell). NearPole x) s o)
        ]
