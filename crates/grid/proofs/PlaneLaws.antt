-- The laws of one step, for the plane's tree. The table of splits is tested once, by computing.
-- Assumes nothing.
use Rattle.std.proofs.Common.{◌≡◌, ℕ, zero, suc, ◌+◌, ◌-◌, ◌*◌, ◌<◌, ◌≤◌, Bool, true, false, ◌&&◌, eqb, ltb, leb, ◌⊎◌, List, [], ◌∷◌, length, take, pos, sym, refl, ap, ◌∙◌, subst, inl, inr, arith, ltb-false, ltb-true, eqb-true, leb-true}
use borrow.Author.Tests.{eqb-false}
use Rattle.grid.specs.declared.Split.{Split}
use Rattle.grid.specs.declared.Place.{Place}
use Rattle.grid.specs.Units.{TURN, HALF, QUARTER, POLAR, side, index, unit, eastward, Square, OnGlobe}
use Rattle.grid.specs.inner.Roads.{square_of}
use Rattle.grid.specs.Tree.{ok, bad}
use Rattle.grid.specs.Splits.{splits, polar_cell_at}
use Rattle.grid.specs.Plane.{
  Frame,
  ordinary,
  belt,
  disc,
  Box,
  Node,
  globe,
  pole,
  cell,
  cap,
  Part,
  near_pole,
  part_of,
  cap_part,
  sub,
  ring_node,
  letter,
  sheet,
  globe_child,
  polar_width,
  polar_node,
  belt_box,
  pole_child,
  cell_child,
  cap_child,
  digits_of,
  child_of,
  plane,
  longitude_at,
}
use Rattle.grid.proofs.Cut.{clash, Below, and_true, cut_end, below}
use Rattle.grid.proofs.Laws.{Laws, Halts}
use Rattle.grid.proofs.Step.{Allowed, In, InCell, Inside, exact, Exact, exact_of, write_read, length_write, write_small, cell_here, cell_only, cap_here, cap_only}
use Rattle.grid.proofs.Globe.{globe_here, globe_only, globe_cases, Sheet, Pole, globe_sized}
use Rattle.grid.proofs.Poles.{pole_here, pole_only, two_of, placed, pole_sized}
use Rattle.grid.proofs.Halting.{read_halts, globe_halts, pole_halts}

-- ---- the test of the table: every division that can occur comes out in whole units

-- k: near a pole
abbrev pub fits_cell : Bool → List Split → ℕ → ℕ → Bool
fits_cell k [] w h = ltb 0 w && ltb 0 h
fits_cell k (t ∷ ts) w h =
    exact false t.characters (part_of t k w h) w h && fits_cell k ts (part_of t k w h).width (part_of t k w h).height

abbrev pub fits_cap : List Split → ℕ → Bool
fits_cap [] h = ltb 0 h
fits_cap (t ∷ ts) h =
    exact true t.characters (cap_part t h) TURN h &&
    (fits_cap ts (cap_part t h).height && fits_cell true ts (cap_part t h).width (cap_part t h).height)

-- below level 2: a belt cell, the cap, a disc cell
abbrev pub fits_pole : List Split → Bool
fits_pole [] = true
fits_pole (t ∷ ts) =
    eqb 2 t.characters && (fits_cell true ts 442368000 3686400 && (fits_cap ts 3686400 && fits_cell true ts 884736000 3686400))

abbrev pub fits_globe : List Split → Bool
fits_globe [] = true
fits_globe (t ∷ ts) = eqb 4 t.characters && (fits_cell false ts 44236800 29491200 && fits_pole ts)

pub splits_fit : (l : ℕ) → l ≤ 10 → fits_globe (take l splits) ≡ true
splits_fit l h = below (λ l. fits_globe (take l splits)) 11 l refl (omega arith)

-- ---- a box lies in its frame

abbrev pub lim_x : Frame → ℕ
lim_x (ordinary n e) = HALF
lim_x (belt n e) = HALF
lim_x (disc n) = TURN

abbrev pub lim_y : Frame → ℕ
lim_y (ordinary n e) = POLAR
lim_y (belt n e) = QUARTER
lim_y (disc n) = 7372800

pub record Fit (f : Frame) (b : Box) : Type 0 where
  pub wide : b.x + b.w ≤ lim_x f
  pub high : b.y + b.h ≤ lim_y f

pub record GoodCell (ts : List Split) (f : Frame) (b : Box) : Type 0 where
  pub even : fits_cell (near_pole f) ts b.w b.h ≡ true
  pub fit : Fit f b

pub record GoodCap (ts : List Split) (h : ℕ) : Type 0 where
  pub even : fits_cap ts h ≡ true
  pub fit : h ≤ 7372800

abbrev pub Good : List Split → Node → Type 0
Good ts globe = fits_globe ts ≡ true
Good ts (pole n) = fits_pole ts ≡ true
Good ts (cell f b) = GoodCell ts f b
Good ts (cap n h) = GoodCap ts h

-- what the test says of one level
pub cell_exact : (t : Split) (ts : List Split) (f : Frame) (b : Box) → GoodCell (t ∷ ts) f b → Exact false t.characters (part_of t (near_pole f) b.w b.h) b.w b.h
cell_exact t ts f b g = exact_of false t.characters (part_of t (near_pole f) b.w b.h) b.w b.h (and_true (exact false t.characters (part_of t (near_pole f) b.w b.h) b.w b.h) _ g.even).0

pub cap_exact : (t : Split) (ts : List Split) (h : ℕ) → GoodCap (t ∷ ts) h → Exact true t.characters (cap_part t h) TURN h
cap_exact t ts h g = exact_of true t.characters (cap_part t h) TURN h (and_true (exact true t.characters (cap_part t h) TURN h) _ g.even).0

-- ---- children are good

cell_good : (t : Split) (ts : List Split) (f : Frame) (b : Box) (w : List ℕ) (m : Node) → GoodCell (t ∷ ts) f b → cell_child (part_of t (near_pole f) b.w b.h) f b w ≡ ok m → Good ts m
cell_good t ts f b w m g e =
    let p = part_of t (near_pole f) b.w b.h in
    let E = cell_exact t ts f b g in
    let a = write_read p.form false p (λ c r. cell f (sub p b c r)) w m e in
    let u : a.c * p.width + p.width ≤ b.w = cut_end a.c p.columns p.width b.w a.fine.col E.wide in
    let v : a.r * p.height + p.height ≤ b.h = cut_end a.r p.rows p.height b.h a.fine.row E.high in
    let fx : b.x + b.w ≤ lim_x f = g.fit.wide in
    let fy : b.y + b.h ≤ lim_y f = g.fit.high in
    subst (λ (x : Node). Good ts x) a.node
    (record { even = (and_true (exact false t.characters p b.w b.h) _ g.even).1; fit = record { wide = omega (arith, u, fx); high = omega (arith, v, fy) } })

ring_good : (ts : List Split) (k : ℕ) (p : Part) (n : Bool) (h : ℕ) → Exact true k p TURN h → h ≤ 7372800 → fits_cap ts p.height ≡ true → fits_cell true ts p.width p.height ≡ true
    → (c r : ℕ) → Allowed true p c r → Good ts (ring_node n p h c r)
ring_good ts k p n h E l i o c zero a =
    let v : 0 * p.height + p.height ≤ h = cut_end 0 p.rows p.height h a.row E.high in
    record { even = i; fit = omega (arith, v) }
ring_good ts k p n h E l i o c (suc r) a =
    let u : c * p.width + p.width ≤ TURN = cut_end c p.columns p.width TURN a.col E.wide in
    let v : suc r * p.height + p.height ≤ h = cut_end (suc r) p.rows p.height h a.row E.high in
    record { even = o; fit = record { wide = omega (arith, u); high = omega (arith, v) } }

cap_good : (t : Split) (ts : List Split) (n : Bool) (h : ℕ) (w : List ℕ) (m : Node) → GoodCap (t ∷ ts) h → cap_child (cap_part t h) n h w ≡ ok m → Good ts m
cap_good t ts n h w m g e =
    let p = cap_part t h in
    let q = and_true (fits_cap ts p.height) (fits_cell true ts p.width p.height) (and_true (exact true t.characters p TURN h) _ g.even).1 in
    let a = write_read p.form true p (λ c r. ring_node n p h c r) w m e in
    subst (λ (x : Node). Good ts x) a.node (ring_good ts t.characters p n h (cap_exact t ts h g) g.fit q.0 q.1 a.c a.r a.fine)

pub sheet_good : (ts : List Split) (n : Bool) (z r : ℕ) → fits_cell false ts 44236800 29491200 ≡ true → 1 ≤ z → z ≤ 60 → r < 22 → Good ts (sheet n z r)
sheet_good ts n z r e a b c = go (leb 31 z) refl
  where
    go : (q : Bool) → leb 31 z ≡ q → Good ts (sheet n z r)
    go true p = let l : 31 ≤ z = leb-true 31 z p in rw p (record { even = e; fit = record { wide = omega arith; high = omega arith } })
    go false p = rw p (record { even = e; fit = record { wide = omega arith; high = omega arith } })

belt_good : (ts : List Split) (n : Bool) (e y : ℕ) → fits_cell true ts 442368000 3686400 ≡ true → e + 442368000 ≤ 2654208000 → (e < 1327104000 → e + 442368000 ≤ 1327104000) → y + 3686400 ≤ 656179200
    → Good ts (cell (belt n (ltb e HALF)) (belt_box e y))
belt_good ts n e y f a b c = go (ltb e HALF) refl
  where
    go : (q : Bool) → ltb e HALF ≡ q → Good ts (cell (belt n (ltb e HALF)) (belt_box e y))
    go true p = rw p (record { even = f; fit = record { wide = b (ltb-true e _ p); high = omega arith } })
    go false p = let l : 1327104000 ≤ e = ltb-false e _ p in rw p (record { even = f; fit = record { wide = omega arith; high = omega arith } })

polar_good : (t : Split) (ts : List Split) (n : Bool) (k : ℕ) → fits_pole (t ∷ ts) ≡ true → k < 16 → Good ts (polar_node n k)
polar_good t ts n k g h = go (eqb k 0) refl (ltb k 4) refl
  where
    q : (fits_cell true ts 442368000 3686400 ≡ true) × ((fits_cap ts 3686400 && fits_cell true ts 884736000 3686400) ≡ true)
    q = and_true _ _ (and_true (eqb 2 t.characters) _ g).1

    r : (fits_cap ts 3686400 ≡ true) × (fits_cell true ts 884736000 3686400 ≡ true)
    r = and_true _ _ q.1

    go : (b : Bool) → eqb k 0 ≡ b → (c : Bool) → ltb k 4 ≡ c → Good ts (polar_node n k)
    go true p c x = rw p (record { even = r.0; fit = omega arith })
    go false p true l =
        let nz : ¬ (k ≡ 0) = eqb-false k 0 p in
        let d = (placed k h).in_disc (ltb-true k 4 l) (omega arith) in
        let w : polar_width k ≡ 884736000 = rw (p, l) refl in
        let y : (polar_cell_at k).low ≡ 656179200 = d.0 in
        let x : (polar_cell_at k).west + 884736000 ≤ 2654208000 = subst (λ (x : ℕ). (polar_cell_at k).west + x ≤ 2654208000) w d.1 in
        rw (p, l) (record { even = r.1; fit = record { wide = x; high = omega (arith, y) } })
    go false p false x =
        let l : 4 ≤ k = ltb-false k 4 x in
        rw (p, x) (belt_good ts n (polar_cell_at k).west (polar_cell_at k).low q.0 ((placed k h).in_west l) ((placed k h).in_east l) ((placed k h).in_belt l).1)

globe_good : (t : Split) (ts : List Split) (w : List ℕ) (m : Node) → fits_globe (t ∷ ts) ≡ true → globe_child w ≡ ok m → Good ts m
globe_good t ts [] m g e = clash (cc)
globe_good t ts (a ∷ []) m g e = clash (cc)
globe_good t ts (a ∷ b ∷ []) m g e = clash (cc)
globe_good t ts (a ∷ b ∷ c ∷ []) m g e = clash (cc)
globe_good t ts (a ∷ b ∷ c ∷ d ∷ []) m g e = go (globe_cases a b c d m e)
  where
    q : (fits_cell false ts 44236800 29491200 ≡ true) × (fits_pole ts ≡ true)
    q = and_true _ _ (and_true (eqb 4 t.characters) _ g).1

    go : Sheet a b c d m ⊎ Pole a b c d m → Good ts m
    go (inl s) =
        let l : 10 ≤ d = s.row_low in
        let h : d < 32 = s.row_high in
        subst (λ (x : Node). Good ts x) s.node (sheet_good ts (eqb a 23) (10 * b + c) (d - 10) q.0 s.low s.high (omega arith))
    go (inr s) = subst (λ (x : Node). Good ts x) s.node q.1
globe_good t ts (a ∷ b ∷ c ∷ d ∷ x ∷ w) m g e = clash (cc)

pole_good : (t : Split) (ts : List Split) (n : Bool) (w : List ℕ) (m : Node) → fits_pole (t ∷ ts) ≡ true → pole_child n w ≡ ok m → Good ts m
pole_good t ts n [] m g e = clash (cc)
pole_good t ts n (a ∷ []) m g e = clash (cc)
pole_good t ts n (a ∷ b ∷ []) m g e =
    let q = two_of n a b m e in
    let ha : a < 4 = q.first in
    let hb : b < 4 = q.second in
    subst (λ (x : Node). Good ts x) q.node (polar_good t ts n (4 * a + b) g (omega arith))
pole_good t ts n (a ∷ b ∷ x ∷ w) m g e = clash (cc)

-- ---- a level adds its number of digits

pub sized : (t : Split) (ts : List Split) (n : Node) (w : List ℕ) (m : Node) → Good (t ∷ ts) n → child_of t n w ≡ ok m → length w ≡ t.characters
sized t ts globe w m g e = globe_sized w m e ∙ eqb-true 4 t.characters (and_true _ _ g).0
sized t ts (pole n) w m g e = pole_sized n w m e ∙ eqb-true 2 t.characters (and_true _ _ g).0
sized t ts (cell f b) w m g e =
    let p = part_of t (near_pole f) b.w b.h in
    let a = write_read p.form false p (λ c r. cell f (sub p b c r)) w m e in
    ap length a.text ∙ length_write p.form a.c a.r ∙ (cell_exact t ts f b g).size
sized t ts (cap n h) w m g e =
    let p = cap_part t h in
    let a = write_read p.form true p (λ c r. ring_node n p h c r) w m e in
    ap length a.text ∙ length_write p.form a.c a.r ∙ (cap_exact t ts h g).size

-- ---- digits are below 32

letter_small : (b : Bool) → letter b < 32
letter_small true = omega arith
letter_small false = omega arith

globe_small : (w : List ℕ) (m : Node) → globe_child w ≡ ok m → Below 32 w
globe_small [] m e = clash (cc)
globe_small (a ∷ []) m e = clash (cc)
globe_small (a ∷ b ∷ []) m e = clash (cc)
globe_small (a ∷ b ∷ c ∷ []) m e = clash (cc)
globe_small (a ∷ b ∷ c ∷ d ∷ []) m e = go (globe_cases a b c d m e)
  where
    go : Sheet a b c d m ⊎ Pole a b c d m → Below 32 (a ∷ b ∷ c ∷ d ∷ [])
    go (inl s) =
        (subst (λ (x : ℕ). x < 32) s.name (letter_small (eqb a 23)), (omega (arith, s.high), (omega (arith, s.unit), (s.row_high, tt))))
    go (inr s) =
        (subst (λ (x : ℕ). x < 32) s.name (letter_small (eqb a 23)), (omega (arith, s.b0), (omega (arith, s.c0), (omega (arith, s.d0), tt))))
globe_small (a ∷ b ∷ c ∷ d ∷ x ∷ w) m e = clash (cc)

pole_small : (n : Bool) (w : List ℕ) (m : Node) → pole_child n w ≡ ok m → Below 32 w
pole_small n [] m e = clash (cc)
pole_small n (a ∷ []) m e = clash (cc)
pole_small n (a ∷ b ∷ []) m e =
    let q = two_of n a b m e in
    let ha : a < 4 = q.first in
    let hb : b < 4 = q.second in
    (omega arith, (omega arith, tt))
pole_small n (a ∷ b ∷ x ∷ w) m e = clash (cc)

pub small : (t : Split) (ts : List Split) (n : Node) (w : List ℕ) (m : Node) → Good (t ∷ ts) n → child_of t n w ≡ ok m → Below 32 w
small t ts globe w m g e = globe_small w m e
small t ts (pole n) w m g e = pole_small n w m e
small t ts (cell f b) w m g e =
    let p = part_of t (near_pole f) b.w b.h in
    let a = write_read p.form false p (λ c r. cell f (sub p b c r)) w m e in
    subst (λ (x : List ℕ). Below 32 x) (sym a.text) (write_small p.form false p a.c a.r (cell_exact t ts f b g).fits a.fine)
small t ts (cap n h) w m g e =
    let p = cap_part t h in
    let a = write_read p.form true p (λ c r. ring_node n p h c r) w m e in
    subst (λ (x : List ℕ). Below 32 x) (sym a.text) (write_small p.form true p a.c a.r (cap_exact t ts h g).fits a.fine)

-- ---- no node is empty

pub index_unit : (b : Bool) (u : ℕ) → index (unit b u) ≡ u
index_unit true u = refl
index_unit false u = refl

pub side_unit : (b : Bool) (u : ℕ) → side (unit b u) ≡ b
side_unit true u = refl
side_unit false u = refl

pub on_globe : (p : Place) → p.x < HALF → p.y < QUARTER → OnGlobe (square_of p)
on_globe p a b = record { longitude_in = rw (index_unit p.east p.x) a; latitude_in = rw (index_unit p.north p.y) b }

pub eastward_longitude_at : (x : ℕ) → x < 2654208000 → eastward (longitude_at x) ≡ x
eastward_longitude_at x h = go (ltb x HALF) refl
  where
    go : (q : Bool) → ltb x HALF ≡ q → eastward (longitude_at x) ≡ x
    go true e = rw e refl
    go false e = let l : 1327104000 ≤ x = ltb-false x _ e in rw e (omega arith)

pub index_longitude_at : (x : ℕ) → x < 2654208000 → index (longitude_at x) < 1327104000
index_longitude_at x h = go (ltb x HALF) refl
  where
    go : (q : Bool) → ltb x HALF ≡ q → index (longitude_at x) < 1327104000
    go true e = let l : x < 1327104000 = ltb-true x _ e in rw e l
    go false e = let l : 1327104000 ≤ x = ltb-false x _ e in rw e (omega arith)

-- what is divided is not empty
positive : (c k w : ℕ) → 0 < c → 0 < k → c * k ≡ w → 0 < w
positive c k w a b e = let z : 0 * k + k ≤ w = cut_end 0 c k w a e in omega arith

pub cell_positive : (ts : List Split) (f : Frame) (b : Box) → GoodCell ts f b → (0 < b.w) × (0 < b.h)
cell_positive [] f b g =
    let q = and_true (ltb 0 b.w) (ltb 0 b.h) g.even in
    (ltb-true 0 b.w q.0, ltb-true 0 b.h q.1)
cell_positive (t ∷ ts) f b g =
    let E = cell_exact t ts f b g in
    (positive _ _ _ E.some_c E.some_w E.wide, positive _ _ _ E.some_r E.some_h E.high)

pub cap_positive : (ts : List Split) (h : ℕ) → GoodCap ts h → 0 < h
cap_positive [] h g = ltb-true 0 h g.even
cap_positive (t ∷ ts) h g = let E = cap_exact t ts h g in positive _ _ _ E.some_r E.some_h E.high

-- a square at the start of a box of a quarter
quarter_some : (n e : Bool) (b : Box) → b.x + b.w ≤ 1327104000 → b.y + b.h ≤ 663552000 → (0 < b.w) × (0 < b.h)
    → (s : Square) × OnGlobe s × ((side s.latitude ≡ n) × (side s.longitude ≡ e)) × Inside b (index s.longitude) (index s.latitude)
quarter_some n e b hw hh p = (
  record { longitude = unit e b.x; latitude = unit n b.y },
  record { longitude_in = rw (index_unit e b.x) (omega arith); latitude_in = rw (index_unit n b.y) (omega arith) },
  (side_unit n b.y, side_unit e b.x),
  rw (index_unit e b.x, index_unit n b.y) (record { xl = omega arith; xu = omega arith; yl = omega arith; yu = omega arith }),
)

cell_some : (f : Frame) (b : Box) → Fit f b → (0 < b.w) × (0 < b.h) → (s : Square) × InCell f b s
cell_some (ordinary n e) b g p =
    let h : b.y + b.h ≤ 648806400 = g.high in
    let q = quarter_some n e b g.wide (omega arith) p in
    (q.0, record { on = q.1; sees = q.2; inside = q.3 })
cell_some (belt n e) b g p =
    let q = quarter_some n e b g.wide g.high p in
    (q.0, record { on = q.1; sees = q.2; inside = q.3 })
cell_some (disc n) b g p =
    let hw : b.x + b.w ≤ 2654208000 = g.wide in
    let hh : b.y + b.h ≤ 7372800 = g.high in
    let l : b.x < 2654208000 = omega arith in (
      record { longitude = longitude_at b.x; latitude = unit n (663551999 - b.y) },
      record {
        on = record { longitude_in = index_longitude_at b.x l; latitude_in = rw (index_unit n (663551999 - b.y)) (omega arith) };
        sees = side_unit n (663551999 - b.y);
        inside = rw (eastward_longitude_at b.x l, index_unit n (663551999 - b.y)) (record { xl = omega arith; xu = omega arith; yl = omega arith; yu = omega arith });
      },
    )

pub some : (ts : List Split) (n : Node) → Good ts n → (s : Square) × In n s
some ts globe g = (record { longitude = pos 0; latitude = pos 0 }, record { longitude_in = omega arith; latitude_in = omega arith })
some ts (pole n) g = (
  record { longitude = pos 0; latitude = unit n 648806400 },
  record { on = record { longitude_in = omega arith; latitude_in = rw (index_unit n 648806400) (omega arith) }; sees = side_unit n 648806400; near = rw (index_unit n 648806400) (omega arith) },
)
some ts (cell f b) g = cell_some f b g.fit (cell_positive ts f b g)
some ts (cap n h) g =
    let p : 0 < h = cap_positive ts h g in (
      record { longitude = pos 0; latitude = unit n 663551999 },
      record { on = record { longitude_in = omega arith; latitude_in = rw (index_unit n 663551999) (omega arith) }; sees = side_unit n 663551999; near = rw (index_unit n 663551999) (omega arith) },
    )

-- ---- the laws together

pub here : (t : Split) (ts : List Split) (n : Node) (s : Square) → Good (t ∷ ts) n → In n s → (m : Node) × (child_of t n (digits_of t n s) ≡ ok m) × In m s
here t ts globe s g i = globe_here s i
here t ts (pole n) s g i = pole_here n s i
here t ts (cell f b) s g i = cell_here t.characters (part_of t (near_pole f) b.w b.h) f b (cell_exact t ts f b g) s i
here t ts (cap n h) s g i = cap_here t.characters (cap_part t h) n h (cap_exact t ts h g) s i

pub only : (t : Split) (ts : List Split) (n : Node) (w : List ℕ) (m : Node) (s : Square) → Good (t ∷ ts) n → child_of t n w ≡ ok m → In m s → In n s × (digits_of t n s ≡ w)
only t ts globe w m s g e i = globe_only w m s e i
only t ts (pole n) w m s g e i = pole_only n w m s e i
only t ts (cell f b) w m s g e i = cell_only t.characters (part_of t (near_pole f) b.w b.h) f b (cell_exact t ts f b g) w m s e i
only t ts (cap n h) w m s g e i = cap_only t.characters (cap_part t h) n h (cap_exact t ts h g) w m s e i

pub good : (t : Split) (ts : List Split) (n : Node) (w : List ℕ) (m : Node) → Good (t ∷ ts) n → child_of t n w ≡ ok m → Good ts m
good t ts globe w m g e = globe_good t ts w m g e
good t ts (pole n) w m g e = pole_good t ts n w m g e
good t ts (cell f b) w m g e = cell_good t ts f b w m g e
good t ts (cap n h) w m g e = cap_good t ts n h w m g e

pub halts : (t : Split) (ts : List Split) (n : Node) (w : List ℕ) (p : ℕ) → Good (t ∷ ts) n → length w ≡ t.characters → child_of t n w ≡ bad p → Halts (child_of t n) t.characters w p
halts t ts globe w p g l e = globe_halts w p t.characters (sym (eqb-true 4 _ (and_true _ _ g).0)) l e
halts t ts (pole n) w p g l e = pole_halts n w p t.characters (sym (eqb-true 2 _ (and_true _ _ g).0)) l e
halts t ts (cell f b) w p g l e =
    read_halts false t.characters (part_of t (near_pole f) b.w b.h) b.w b.h (cell_exact t ts f b g) (λ c r. cell f (sub (part_of t (near_pole f) b.w b.h) b c r)) w p l e
halts t ts (cap n h) w p g l e =
    read_halts true t.characters (cap_part t h) TURN h (cap_exact t ts h g) (λ c r. ring_node n (cap_part t h) h c r) w p l e

abbrev pub laws : Laws plane
laws = record { In = In; Good = Good; here = here; only = only; good = good; sized = sized; small = small; some = some; stops = halts }
