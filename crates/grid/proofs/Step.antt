-- One step of the plane's tree: writing a child's digits and reading them back, and the division of a cell and of a cap.
-- Assumes nothing.
use Rattle.std.proofs.Common.{◌≡◌, ℕ, zero, suc, ◌+◌, ◌-◌, ◌*◌, ◌/◌, ◌%◌, ◌<◌, ◌≤◌, min, Bool, true, false, not, ◌&&◌, ◌||◌, eqb, ltb, leb, List, [], ◌∷◌, length, ℤ, pos, negsuc, sym, refl, ap, ◌∙◌, subst, arith, ltb-true, lt-ltb, eq-eqb, eqb-true, leb-true}
use Rattle.grid.specs.Units.{TURN, POLAR, side, index, eastward, from_pole, Square, OnGlobe}
use Rattle.grid.specs.Tree.{ok}
use Rattle.grid.specs.Plane.{
  Frame,
  ordinary,
  belt,
  disc,
  x_in,
  y_in,
  Box,
  Node,
  globe,
  pole,
  cell,
  cap,
  Form,
  pair,
  quad,
  trio,
  Part,
  sub,
  round,
  ring_node,
  ring_column,
  write,
  allowed,
  read_as,
  cell_digits,
  cap_digits,
  cell_child,
  cap_child,
}
use Rattle.grid.proofs.Cut.{clash, Below, cut_held, cut_only, cut_below, cut_end, and_true, and_make, guard_ok, ok_inj}

-- ---- which columns and rows are allowed

pub record Allowed (i : Bool) (p : Part) (c r : ℕ) : Type 0 where
  pub col : c < p.columns
  pub row : r < p.rows
  pub first : i ≡ true → r ≡ 0 → c ≡ 0

first_of : (i : Bool) (c r : ℕ) → (not i || (ltb 0 r || eqb c 0)) ≡ true → i ≡ true → r ≡ 0 → c ≡ 0
first_of true c zero e p q = eqb-true c 0 e
first_of true c (suc r) e p q = absurd (omega arith)
first_of false c r e p q = clash (cc)

first_to : (i : Bool) (c r : ℕ) → (i ≡ true → r ≡ 0 → c ≡ 0) → (not i || (ltb 0 r || eqb c 0)) ≡ true
first_to true c zero f = eq-eqb c 0 (f refl refl)
first_to true c (suc r) f = rw (lt-ltb 0 (suc r) (omega arith)) refl
first_to false c r f = refl

pub allowed_of : (i : Bool) (p : Part) (c r : ℕ) → allowed i p c r ≡ true → Allowed i p c r
allowed_of i p c r e =
    let a = and_true (ltb c p.columns) _ e in
    let b = and_true (ltb r p.rows) _ a.1 in
    record { col = ltb-true c p.columns a.0; row = ltb-true r p.rows b.0; first = first_of i c r b.1 }

pub allowed_to : (i : Bool) (p : Part) (c r : ℕ) → Allowed i p c r → allowed i p c r ≡ true
allowed_to i p c r a =
    and_make (ltb c p.columns) _ (lt-ltb c p.columns a.col)
    (and_make (ltb r p.rows) _ (lt-ltb r p.rows a.row) (first_to i c r a.first))

-- ---- the three forms, written and read back

abbrev pub form_size : Form → ℕ
form_size pair = 2
form_size quad = 1
form_size trio = 1

-- a form fits the part that it writes
abbrev pub form_fits : Form → Bool → Part → Bool
form_fits pair i p = leb p.columns 32 && leb p.rows 32
form_fits quad i p = eqb p.columns 2 && leb p.rows 16
form_fits trio i p = i && (eqb p.rows 2 && leb p.columns 31)

trio_back : (c r : ℕ) → r < 2 → (r ≡ 0 → c ≡ 0) → (r + c - 1 ≡ c) × (min (r + c) 1 ≡ r)
trio_back c zero h f = let e : c ≡ 0 = f refl in (omega arith, omega arith)
trio_back c (suc r) h f = (omega arith, omega arith)

pub read_write : (f : Form) (i : Bool) (p : Part) (k : ℕ → ℕ → Node) (c r : ℕ) → form_fits f i p ≡ true → Allowed i p c r → read_as f i p k (write f c r) ≡ ok (k c r)
read_write pair i p k c r e a = rw (allowed_to i p c r a, lt-ltb c p.columns a.col) refl
read_write quad i p k c r e a =
    let q : p.columns ≡ 2 = eqb-true p.columns 2 (and_true (eqb p.columns 2) (leb p.rows 16) e).0 in
    let h : c < p.columns = a.col in
    let u : (2 * r + c) % 2 ≡ c = omega arith in
    let v : (2 * r + c) / 2 ≡ r = omega arith in
    rw (u, v, allowed_to i p c r a) refl
read_write trio i p k c r e a =
    let q = and_true i (eqb p.rows 2 && leb p.columns 31) e in
    let z : p.rows ≡ 2 = eqb-true p.rows 2 (and_true (eqb p.rows 2) (leb p.columns 31) q.1).0 in
    let h : r < p.rows = a.row in
    let b = trio_back c r (omega arith) (a.first q.0) in
    rw (b.0, b.1, allowed_to i p c r a) refl

pub record Choice (f : Form) (i : Bool) (p : Part) (k : ℕ → ℕ → Node) (w : List ℕ) (m : Node) : Type 0 where
  pub c : ℕ
  pub r : ℕ
  pub text : w ≡ write f c r
  pub fine : Allowed i p c r
  pub node : k c r ≡ m

pub write_read : (f : Form) (i : Bool) (p : Part) (k : ℕ → ℕ → Node) (w : List ℕ) (m : Node) → read_as f i p k w ≡ ok m → Choice f i p k w m
write_read pair i p k [] m e = clash (cc)
write_read pair i p k (c ∷ []) m e = clash (cc)
write_read pair i p k (c ∷ r ∷ []) m e =
    let a = guard_ok 0 (ltb c p.columns) _ m e in
    let b = guard_ok 1 (allowed i p c r) _ m a.1 in
    record { c = c; r = r; text = refl; fine = allowed_of i p c r b.0; node = ok_inj b.1 }
write_read pair i p k (c ∷ r ∷ x ∷ w) m e = clash (cc)
write_read quad i p k [] m e = clash (cc)
write_read quad i p k (v ∷ []) m e =
    let b = guard_ok 0 (allowed i p (v % 2) (v / 2)) _ m e in
    let t : v ≡ 2 * (v / 2) + v % 2 = omega arith in
    record { c = v % 2; r = v / 2; text = ap (λ x. x ∷ []) t; fine = allowed_of i p (v % 2) (v / 2) b.0; node = ok_inj b.1 }
write_read quad i p k (v ∷ x ∷ w) m e = clash (cc)
write_read trio i p k [] m e = clash (cc)
write_read trio i p k (v ∷ []) m e =
    let b = guard_ok 0 (allowed i p (v - 1) (min v 1)) _ m e in
    let t : v ≡ min v 1 + (v - 1) = omega arith in
    record { c = v - 1; r = min v 1; text = ap (λ x. x ∷ []) t; fine = allowed_of i p (v - 1) (min v 1) b.0; node = ok_inj b.1 }
write_read trio i p k (v ∷ x ∷ w) m e = clash (cc)

pub length_write : (f : Form) (c r : ℕ) → length (write f c r) ≡ form_size f
length_write pair c r = refl
length_write quad c r = refl
length_write trio c r = refl

pub write_small : (f : Form) (i : Bool) (p : Part) (c r : ℕ) → form_fits f i p ≡ true → Allowed i p c r → Below 32 (write f c r)
write_small pair i p c r e a =
    let q = and_true (leb p.columns 32) (leb p.rows 32) e in
    let u : p.columns ≤ 32 = leb-true _ 32 q.0 in
    let v : p.rows ≤ 32 = leb-true _ 32 q.1 in
    (omega (arith, a.col), (omega (arith, a.row), tt))
write_small quad i p c r e a =
    let q = and_true (eqb p.columns 2) (leb p.rows 16) e in
    let u : p.columns ≡ 2 = eqb-true _ 2 q.0 in
    let v : p.rows ≤ 16 = leb-true _ 16 q.1 in
    (omega (arith, a.col, a.row), tt)
write_small trio i p c r e a =
    let q = and_true (eqb p.rows 2) (leb p.columns 31) (and_true i _ e).1 in
    let u : p.rows ≡ 2 = eqb-true _ 2 q.0 in
    let v : p.columns ≤ 31 = leb-true _ 31 q.1 in
    (omega (arith, a.col, a.row), tt)

-- ---- the squares of a node, in its own frame

pub record Inside (b : Box) (X Y : ℕ) : Type 0 where
  pub xl : b.x ≤ X
  pub xu : X < b.x + b.w
  pub yl : b.y ≤ Y
  pub yu : Y < b.y + b.h

abbrev pub Sees : Frame → Square → Type 0
Sees (ordinary n e) s = (side s.latitude ≡ n) × (side s.longitude ≡ e)
Sees (belt n e) s = (side s.latitude ≡ n) × (side s.longitude ≡ e)
Sees (disc n) s = side s.latitude ≡ n

pub record InCell (f : Frame) (b : Box) (s : Square) : Type 0 where
  pub on : OnGlobe s
  pub sees : Sees f s
  pub inside : Inside b (x_in f s) (y_in f s)

pub record InPole (n : Bool) (s : Square) : Type 0 where
  pub on : OnGlobe s
  pub sees : side s.latitude ≡ n
  pub near : POLAR ≤ index s.latitude

pub record InCap (n : Bool) (h : ℕ) (s : Square) : Type 0 where
  pub on : OnGlobe s
  pub sees : side s.latitude ≡ n
  pub near : from_pole s.latitude < h

abbrev pub In : Node → Square → Type 0
In globe s = OnGlobe s
In (pole n) s = InPole n s
In (cell f b) s = InCell f b s
In (cap n h) s = InCap n h s

-- ---- a part divides a box exactly, and its form fits

-- i: the part is a cap's; n: the characters of its level; w and h: what is divided
abbrev pub exact : Bool → ℕ → Part → ℕ → ℕ → Bool
exact i n p w h =
    (eqb (form_size p.form) n && form_fits p.form i p) &&
    ((eqb (p.columns * p.width) w && eqb (p.rows * p.height) h) &&
    ((ltb 0 p.width && ltb 0 p.height) && (ltb 0 p.columns && (ltb 0 p.rows && (not i || ltb 1 p.rows)))))

pub record Exact (i : Bool) (n : ℕ) (p : Part) (w h : ℕ) : Type 0 where
  pub size : form_size p.form ≡ n
  pub fits : form_fits p.form i p ≡ true
  pub wide : p.columns * p.width ≡ w
  pub high : p.rows * p.height ≡ h
  pub some_w : 0 < p.width
  pub some_h : 0 < p.height
  pub some_c : 0 < p.columns
  pub some_r : 0 < p.rows
  pub two_r : i ≡ true → 1 < p.rows

two_rows_law : (i : Bool) (r : ℕ) → (not i || ltb 1 r) ≡ true → i ≡ true → 1 < r
two_rows_law true r e q = ltb-true 1 r e
two_rows_law false r e q = clash (cc)

pub exact_of : (i : Bool) (n : ℕ) (p : Part) (w h : ℕ) → exact i n p w h ≡ true → Exact i n p w h
exact_of i n p w h e =
    let a = and_true (eqb (form_size p.form) n && form_fits p.form i p) _ e in
    let a2 = and_true (eqb (form_size p.form) n) _ a.0 in
    let b = and_true (eqb (p.columns * p.width) w && eqb (p.rows * p.height) h) _ a.1 in
    let b2 = and_true (eqb (p.columns * p.width) w) _ b.0 in
    let c = and_true (ltb 0 p.width && ltb 0 p.height) _ b.1 in
    let c2 = and_true (ltb 0 p.width) _ c.0 in
    let d = and_true (ltb 0 p.columns) _ c.1 in
    let d2 = and_true (ltb 0 p.rows) _ d.1 in
    record {
      size = eqb-true _ n a2.0;
      fits = a2.1;
      wide = eqb-true _ w b2.0;
      high = eqb-true _ h b2.1;
      some_w = ltb-true 0 _ c2.0;
      some_h = ltb-true 0 _ c2.1;
      some_c = ltb-true 0 _ d.0;
      some_r = ltb-true 0 _ d2.0;
      two_r = two_rows_law i p.rows d2.1;
    }

-- ---- dividing a box: the child that a place is in, and only that one

module _ (i : Bool) (n : ℕ) (p : Part) (b : Box) (E : Exact i n p b.w b.h) where
  abbrev col_at : ℕ → ℕ
  col_at X = (X - b.x) / p.width

  abbrev row_at : ℕ → ℕ
  row_at Y = (Y - b.y) / p.height

  pub col_below : (X Y : ℕ) → Inside b X Y → col_at X < p.columns
  col_below X Y h = cut_below b.x p.width E.some_w p.columns b.w X E.wide h.xl h.xu

  pub row_below : (X Y : ℕ) → Inside b X Y → row_at Y < p.rows
  row_below X Y h = cut_below b.y p.height E.some_h p.rows b.h Y E.high h.yl h.yu

  pub sub_here : (X Y : ℕ) → Inside b X Y → Inside (sub p b (col_at X) (row_at Y)) X Y
  sub_here X Y h =
      let u = cut_held b.x p.width E.some_w X h.xl in
      let v = cut_held b.y p.height E.some_h Y h.yl in
      record { xl = u.from; xu = u.to; yl = v.from; yu = v.to }

  pub sub_col : (c r X Y : ℕ) → Inside (sub p b c r) X Y → col_at X ≡ c
  sub_col c r X Y h = cut_only b.x p.width E.some_w c X (record { from = h.xl; to = h.xu })

  pub sub_row : (c r X Y : ℕ) → Inside (sub p b c r) X Y → row_at Y ≡ r
  sub_row c r X Y h = cut_only b.y p.height E.some_h r Y (record { from = h.yl; to = h.yu })

  pub sub_within : (c r X Y : ℕ) → c < p.columns → r < p.rows → Inside (sub p b c r) X Y → Inside b X Y
  sub_within c r X Y hc hr h =
      let u : c * p.width + p.width ≤ b.w = cut_end c p.columns p.width b.w hc E.wide in
      let v : r * p.height + p.height ≤ b.h = cut_end r p.rows p.height b.h hr E.high in
      record { xl = omega (arith, h.xl); xu = omega (arith, h.xu); yl = omega (arith, h.yl); yu = omega (arith, h.yu) }

-- ---- a cell that is no cap

module _ (n : ℕ) (p : Part) (f : Frame) (b : Box) (E : Exact false n p b.w b.h) where
  -- the box of the child that a square is in
  abbrev pub box_of : Square → Box
  box_of s = sub p b ((x_in f s - b.x) / p.width) ((y_in f s - b.y) / p.height)

  pub cell_read : (s : Square) → InCell f b s → cell_child p f b (cell_digits p f b s) ≡ ok (cell f (box_of s))
  cell_read s i =
      read_write p.form false p (λ c r. cell f (sub p b c r)) _ _ E.fits
      (record { col = col_below false n p b E (x_in f s) (y_in f s) i.inside; row = row_below false n p b E (x_in f s) (y_in f s) i.inside; first = λ e _. clash (cc) })

  pub cell_into : (s : Square) → InCell f b s → InCell f (box_of s) s
  cell_into s i = record { on = i.on; sees = i.sees; inside = sub_here false n p b E (x_in f s) (y_in f s) i.inside }

  pub cell_here : (s : Square) → InCell f b s → (m : Node) × (cell_child p f b (cell_digits p f b s) ≡ ok m) × In m s
  cell_here s i = (cell f (box_of s), cell_read s i, cell_into s i)

  pub cell_only : (w : List ℕ) (m : Node) (s : Square) → cell_child p f b w ≡ ok m → In m s → InCell f b s × (cell_digits p f b s ≡ w)
  cell_only w m s e i =
      let a = write_read p.form false p (λ c r. cell f (sub p b c r)) w m e in
      let j : InCell f (sub p b a.c a.r) s = subst (λ (x : Node). In x s) (sym a.node) i in (
        record { on = j.on; sees = j.sees; inside = sub_within false n p b E a.c a.r (x_in f s) (y_in f s) a.fine.col a.fine.row j.inside },
        rw (sub_col false n p b E a.c a.r (x_in f s) (y_in f s) j.inside, sub_row false n p b E a.c a.r (x_in f s) (y_in f s) j.inside) (sym a.text),
      )

-- ---- a cap

pub eastward_below : (s : Square) → OnGlobe s → eastward s.longitude < TURN
eastward_below s o = go s.longitude o.longitude_in
  where
    go : (z : ℤ) → index z < 1327104000 → eastward z < TURN
    go (pos k) h = omega arith
    go (negsuc k) h = omega arith

pub less_zero : (a d : ℕ) → (a - 0) / d ≡ a / d
less_zero a d = ap (λ (z : ℕ). z / d) (let e : a - 0 ≡ a = omega arith in e)

module _ (n : ℕ) (p : Part) (b : Bool) (h : ℕ) (E : Exact true n p TURN h) where
  cap_inside : (s : Square) → InCap b h s → Inside (round h) (eastward s.longitude) (from_pole s.latitude)
  cap_inside s i =
      let u : eastward s.longitude < 2654208000 = eastward_below s i.on in
      let v : from_pole s.latitude < h = i.near in
      record { xl = omega arith; xu = omega (arith, u); yl = omega arith; yu = omega (arith, v) }

  cap_row : (s : Square) → row_at true n p (round h) E (from_pole s.latitude) ≡ from_pole s.latitude / p.height
  cap_row s = less_zero (from_pole s.latitude) p.height

  cap_col : (s : Square) → col_at true n p (round h) E (eastward s.longitude) ≡ eastward s.longitude / p.width
  cap_col s = less_zero (eastward s.longitude) p.width

  cols_some : (s : Square) → InCap b h s → 0 < p.columns
  cols_some s i =
      let u : _ < p.columns = col_below true n p (round h) E (eastward s.longitude) (from_pole s.latitude) (cap_inside s i) in
      omega (arith, u)

  pub ring_here : (s : Square) → InCap b h s → (r : ℕ) → from_pole s.latitude / p.height ≡ r
      → Allowed true p (ring_column p r (eastward s.longitude)) r × In (ring_node b p h (ring_column p r (eastward s.longitude)) r) s
  ring_here s i zero e =
      let v = sub_here true n p (round h) E (eastward s.longitude) (from_pole s.latitude) (cap_inside s i) in
      let z : row_at true n p (round h) E (from_pole s.latitude) ≡ 0 = cap_row s ∙ e in
      let y : from_pole s.latitude < 0 + 0 * p.height + p.height = subst (λ (r : ℕ). from_pole s.latitude < 0 + r * p.height + p.height) z v.yu in (
        record { col = cols_some s i; row = subst (λ (r : ℕ). r < p.rows) z (row_below true n p (round h) E (eastward s.longitude) (from_pole s.latitude) (cap_inside s i)); first = λ _ _. refl },
        record { on = i.on; sees = i.sees; near = omega (arith, y) },
      )
  ring_here s i (suc r) e =
      let v = sub_here true n p (round h) E (eastward s.longitude) (from_pole s.latitude) (cap_inside s i) in
      let z : row_at true n p (round h) E (from_pole s.latitude) ≡ suc r = cap_row s ∙ e in
      let y : col_at true n p (round h) E (eastward s.longitude) ≡ eastward s.longitude / p.width = cap_col s in (
        record {
          col = subst (λ (c : ℕ). c < p.columns) y (col_below true n p (round h) E (eastward s.longitude) (from_pole s.latitude) (cap_inside s i));
          row = subst (λ (r : ℕ). r < p.rows) z (row_below true n p (round h) E (eastward s.longitude) (from_pole s.latitude) (cap_inside s i));
          first = λ _ q. absurd (omega arith);
        },
        record {
          on = i.on;
          sees = i.sees;
          inside = subst (λ (c : ℕ). Inside (sub p (round h) c (suc r)) (eastward s.longitude) (from_pole s.latitude)) y
              (subst (λ (r : ℕ). Inside (sub p (round h) (col_at true n p (round h) E (eastward s.longitude)) r) (eastward s.longitude) (from_pole s.latitude)) z v);
        },
      )

  pub cap_here : (s : Square) → InCap b h s → (m : Node) × (cap_child p b h (cap_digits p s) ≡ ok m) × In m s
  cap_here s i =
      let r = from_pole s.latitude / p.height in
      let a = ring_here s i r refl in (
        ring_node b p h (ring_column p r (eastward s.longitude)) r,
        read_write p.form true p (λ c r. ring_node b p h c r) (ring_column p r (eastward s.longitude)) r E.fits a.0,
        a.1,
      )

  ring_only : (s : Square) (c r : ℕ) → Allowed true p c r → In (ring_node b p h c r) s
      → InCap b h s × (from_pole s.latitude / p.height ≡ r) × (ring_column p r (eastward s.longitude) ≡ c)
  ring_only s c zero a i =
      let u : 0 * p.height + p.height ≤ h = cut_end 0 p.rows p.height h a.row E.high in
      let v : from_pole s.latitude < p.height = i.near in (
        record { on = i.on; sees = i.sees; near = omega (arith, u, v) },
        sym (cap_row s) ∙ cut_only 0 p.height E.some_h 0 (from_pole s.latitude) (record { from = omega arith; to = omega (arith, v) }),
        sym (a.first refl refl),
      )
  ring_only s c (suc r) a i =
      let v = sub_within true n p (round h) E c (suc r) (eastward s.longitude) (from_pole s.latitude) a.col a.row i.inside in
      let y : from_pole s.latitude < 0 + h = v.yu in (
        record { on = i.on; sees = i.sees; near = omega (arith, y) },
        sym (cap_row s) ∙ sub_row true n p (round h) E c (suc r) (eastward s.longitude) (from_pole s.latitude) i.inside,
        sym (cap_col s) ∙ sub_col true n p (round h) E c (suc r) (eastward s.longitude) (from_pole s.latitude) i.inside,
      )

  pub cap_only : (w : List ℕ) (m : Node) (s : Square) → cap_child p b h w ≡ ok m → In m s → InCap b h s × (cap_digits p s ≡ w)
  cap_only w m s e i =
      let a = write_read p.form true p (λ c r. ring_node b p h c r) w m e in
      let o = ring_only s a.c a.r a.fine (subst (λ (x : Node). In x s) (sym a.node) i) in
      (o.0, rw (o.1, o.2) (sym a.text))
