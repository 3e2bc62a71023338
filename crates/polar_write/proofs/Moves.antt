-- One level near a pole: a node's digits and its child, by where the square stands in it.
-- Assumes nothing.
use mathlib.Core.Path.{◌≡◌, refl, sym, ◌∙◌, ap, subst}
use mathlib.Core.Bool.{Bool, true}
use mathlib.Core.List.{List, ◌∷◌}
use Prim.Native.Nat.{ℕ, zero, suc, ◌+◌, ◌-◌, ◌*◌, ◌/◌, ◌%◌, ◌≤◌, ◌<◌}
use native.Mathlib.Nat.{div-add-mod', div-div-eq-div-mul, div-eq_of_eq-mul_left, mul-div_cancel, mul_assoc, mul_comm}
use native.Mathlib.Omega.{arith}
use Rattle.grid.specs.declared.Split.{Split}
use Rattle.grid.specs.Units.{eastward, from_pole, Square}
use Rattle.grid.specs.Tree.{ok}
use Rattle.grid.specs.inner.Roads.{digits_in}
use Rattle.grid.specs.Plane.{Frame, x_in, y_in, Box, Node, globe, pole, cell, cap, Part, near_pole, part_of, polar_part, cap_part, ring_node, ring_column, write, digits_of, child_of}
use Rattle.grid.proofs.Cut.{part_direct}
use Rattle.grid.proofs.Step.{In, InCell, InCap, read_write, box_of, cell_read, ring_here}
use Rattle.grid.proofs.PlaneLaws.{Good, GoodCell, GoodCap, cell_exact, cap_exact}
use Rattle.polar_write.specs.declared.Spot.TheVariants as spot
use Rattle.polar_write.specs.inner.Spots.{ring_width, cap_step, spot_in, spot_step, SpotDivides}
use Rattle.polar_write.proofs.Table.{Told}

-- ---- numbers

-- of a width of m · d, in parts of m
rest_parts : (X m d : ℕ) → 0 < m → 0 < d → X % (m * d) / m ≡ X / m % d
rest_parts X m d p q =
    let e : X / (d * m) * (d * m) + X % (d * m) ≡ X = div-add-mod' X (d * m) in
    let r : X % (d * m) ≡ X - X / (d * m) * (d * m) = omega arith in
    rw (mul_comm m d, r) (part_direct X d m q p)

-- the rest of a place in its child is the remainder
rest_direct : (X x0 d : ℕ) → x0 ≤ X → X - (x0 + (X - x0) / d * d) ≡ (X - x0) % d
rest_direct X x0 d h = let e : (X - x0) / d * d + (X - x0) % d ≡ X - x0 = div-add-mod' (X - x0) d in omega arith

-- ---- a cell as wide as m times its height

pub record ShapedCell (h : ℕ) (f : Frame) (b : Box) : Type 0 where
  pub near : near_pole f ≡ true
  pub high : b.h ≡ h
  pub m : ℕ
  pub some : 0 < m
  pub wide : b.w ≡ m * h

-- the nodes below level 1 near a pole
abbrev pub Shaped : ℕ → Node → Type 0
Shaped h globe = ⊥
Shaped h (pole n) = ⊥
Shaped h (cell f b) = ShapedCell h f b
Shaped h (cap n k) = k ≡ h

-- what one level does to a square in a node
pub record Moved (t : Split) (n : Node) (s : Square) : Type 0 where
  pub divides : SpotDivides t
  pub to : Node
  pub child : child_of t n (digits_of t n s) ≡ ok to
  pub shape : Shaped t.width to
  pub digits : digits_of t n s ≡ digits_in t (spot_step t (spot_in n s)).digits
  pub rest : spot_in to s ≡ (spot_step t (spot_in n s)).rest

module _ (h : ℕ) (t : Split) (T : Told h t) where
  -- the children's height
  child_height : h / t.inward ≡ t.width
  child_height = ap (λ (z : ℕ). h / z) T.even ∙ div-eq_of_eq-mul_left T.some_columns (sym T.wide ∙ mul_comm t.columns t.width)

  child_width : (m : ℕ) → m * h / t.columns ≡ m * t.width
  child_width m =
      div-eq_of_eq-mul_left T.some_columns (ap (λ (z : ℕ). m * z) (sym T.wide ∙ mul_comm t.columns t.width) ∙ sym (mul_assoc m t.width t.columns))

  module _ (f : Frame) (b : Box) (S : ShapedCell h f b) where
    abbrev p : Part
    p = part_of t (near_pole f) b.w b.h

    part_near : p ≡ polar_part t b.w b.h
    part_near = ap (λ (q : Bool). part_of t q b.w b.h) S.near

    part_width : p.width ≡ S.m * t.width
    part_width = ap (λ (q : Part). q.width) part_near ∙ ap (λ (z : ℕ). z / t.columns) S.wide ∙ child_width S.m

    part_height : p.height ≡ t.width
    part_height = ap (λ (q : Part). q.height) part_near ∙ ap (λ (z : ℕ). z / t.inward) S.high ∙ child_height

    -- units of width to a unit of height
    parts_of : b.w / b.h ≡ S.m
    parts_of = ap (λ (z : ℕ). b.w / z) S.high ∙ div-eq_of_eq-mul_left T.high S.wide

    child_parts : p.width / p.height ≡ S.m
    child_parts = rw (part_width, part_height) (mul-div_cancel S.m T.divides.wide)

    column_of : (X : ℕ) → X / p.width ≡ X / (b.w / b.h) / t.width
    column_of X = rw (part_width, parts_of) (sym (div-div-eq-div-mul X S.m t.width))

    column_rest : (X : ℕ) → b.x ≤ X → (X - (b.x + (X - b.x) / p.width * p.width)) / (p.width / p.height) ≡ (X - b.x) / (b.w / b.h) % t.width
    column_rest X l = rw (rest_direct X b.x p.width l, child_parts, parts_of, part_width) (rest_parts (X - b.x) S.m t.width S.some T.divides.wide)

    row_rest : (Y : ℕ) → b.y ≤ Y → Y - (b.y + (Y - b.y) / p.height * p.height) ≡ (Y - b.y) % t.width
    row_rest Y l = rw (rest_direct Y b.y p.height l, part_height) refl

    cell_moved : (ts : List Split) (s : Square) → GoodCell (t ∷ ts) f b → InCell f b s → Moved t (cell f b) s
    unfolding spot_step spot_in
    cell_moved ts s g i =
        let E = cell_exact t ts f b g in
        record {
          divides = T.divides;
          to = cell f (box_of t.characters p f b E s);
          child = cell_read t.characters p f b E s i;
          shape = record { near = S.near; high = part_height; m = S.m; some = S.some; wide = part_width };
          digits = rw (column_of (x_in f s - b.x), part_height, ap (λ (q : Part). q.form) part_near) refl;
          rest = λ j. spot.Cell (column_rest (x_in f s) i.inside.xl j) (row_rest (y_in f s) i.inside.yl j);
        }

  -- ---- a cap

  module _ (n : Bool) (s : Square) where
    abbrev c : Part
    c = cap_part t h

    abbrev e : ℕ
    e = eastward s.longitude

    abbrev q : ℕ
    q = from_pole s.latitude

    -- the child in row r
    abbrev ring : ℕ → Node
    ring r = ring_node n c h (ring_column c r e) r

    ring_shape : (r : ℕ) → Shaped t.width (ring r)
    ring_shape zero = child_height
    ring_shape (suc r) = record { near = refl; high = child_height; m = ring_width t / t.width; some = T.divides.parts; wide = sym T.parts }

    ring_digits : (r : ℕ) → write c.form (ring_column c r e) r ≡ digits_in t (cap_step t e q r).digits
    ring_digits zero = refl
    ring_digits (suc r) = refl

    ring_rest : (r : ℕ) → q / t.width ≡ r → spot_in (ring r) s ≡ (cap_step t e q r).rest
    unfolding spot_in
    ring_rest zero z = refl
    ring_rest (suc r) z =
        let x : e - (0 + e / ring_width t * ring_width t) ≡ e % ring_width t = (let a : e / ring_width t * ring_width t + e % ring_width t ≡ e = div-add-mod' e (ring_width t) in omega arith) in
        let y : q - (0 + suc r * t.width) ≡ q % t.width = (let a : q / t.width * t.width + q % t.width ≡ q = div-add-mod' q t.width in let b : suc r * t.width + q % t.width ≡ q = rw (← z) a in omega arith) in
        rw (child_height, x, y) refl

    cap_moved : (ts : List Split) → GoodCap (t ∷ ts) h → InCap n h s → Moved t (cap n h) s
    unfolding spot_step spot_in
    cap_moved ts g i =
        let E = cap_exact t ts h g in
        let r : q / c.height ≡ q / t.width = ap (λ (z : ℕ). q / z) child_height in
        record {
          divides = T.divides;
          to = ring (q / c.height);
          child = read_write c.form true c (λ x y. ring_node n c h x y) _ _ E.fits (ring_here t.characters c n h E s i (q / c.height) refl).0;
          shape = ring_shape (q / c.height);
          digits = subst (λ (r : ℕ). write c.form (ring_column c (q / c.height) e) (q / c.height) ≡ digits_in t (cap_step t e q r).digits) r (ring_digits (q / c.height));
          rest = ap (λ (r : ℕ). spot_in (ring r) s) r ∙ ring_rest (q / t.width) refl;
        }

  pub moves : (ts : List Split) (n : Node) (s : Square) → Good (t ∷ ts) n → In n s → Shaped h n → Moved t n s
  moves ts globe s g i z = absurd z
  moves ts (pole n) s g i z = absurd z
  moves ts (cell f b) s g i z = cell_moved f b z ts s g i
  moves ts (cap n k) s g i z = subst (λ (x : ℕ). GoodCap (t ∷ ts) x → InCap n x s → Moved t (cap n x) s) (sym z) (cap_moved n s ts) g i
