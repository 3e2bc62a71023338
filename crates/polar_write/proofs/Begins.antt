-- The polar cell of a place by its digits, and where the place stands in it; and the belt cells that the edges of the table give it.
-- Assumes nothing.
use mathlib.Core.Path.{◌≡◌, refl, subst}
use mathlib.Core.Bool.{Bool, true, false, ◌&&◌}
use Prim.Native.Nat.{ℕ, ◌+◌, ◌-◌, ◌/◌, ◌≤◌, ◌<◌}
use native.Mathlib.Omega.{arith}
use lib.Dec.{ltb, leb, eqb}
use borrow.Author.Tests.{ltb-true, leb-true, eqb-true, lt-ltb, le-ltb, le-leb, ne_eqb}
use Rattle.grid.specs.declared.Digits.{Digits}
use Rattle.grid.specs.declared.Place.{Place}
use Rattle.grid.specs.declared.PolarCell.{PolarCell}
use Rattle.grid.specs.Units.{TURN, HALF, QUARTER, POLAR, DISC, unit, eastward, Square}
use Rattle.grid.specs.inner.Roads.{square_of}
use Rattle.grid.specs.Splits.{second, polar_cell_at}
use Rattle.grid.specs.Plane.{Node, cell, belt, disc, SIXTH, polar_width, polar_height, polar_cell_of, polar_node, belt_box, disc_box}
use Rattle.grid.proofs.Cut.{and_make, and_true}
use Rattle.grid.proofs.Step.{In, InCell, eastward_below}
use Rattle.grid.proofs.Poles.{placed, named_only, node_in}
use Rattle.grid.proofs.PlaneLaws.{index_unit, side_unit}
use Rattle.polar_write.specs.declared.Spot.{Spot}
use Rattle.polar_write.specs.declared.Spot.TheVariants as spot
use Rattle.polar_write.specs.inner.Spots.{spot_in, polar_digits, Polar, Lies, LiesInColumn, Begun}
use Rattle.polar_write.proofs.Written.{polar_on}

-- ---- the cell k has the place, and so it is its cell

module _ {k : ℕ} {p : Place} (L : Lies k p) where
  abbrev s : Square
  s = square_of p

  is_named : polar_cell_of s ≡ k
  is_named = named_only s (polar_on p L.polar).0 (polar_on p L.polar).1 k L.few L.holds

  inside : In (polar_node p.north k) s
  inside = node_in p.north s k (polar_on p L.polar).0 (side_unit p.north p.y) L.few L.holds

  begun : {q : Spot} {d : Digits} → d ≡ polar_digits k → q ≡ spot_in (polar_node p.north k) s → Begun p (record { rest = q; digits = d })
  begun e z = record { digits = rw is_named e; stands = rw is_named z }

  -- a belt cell
  module _ (m : 4 ≤ k) {c : PolarCell} (e : c ≡ polar_cell_at k) where
    belt_node : polar_node p.north k ≡ cell (belt p.north (ltb c.west HALF)) (belt_box c.west c.low)
    belt_node = rw (ne_eqb k 0 (λ z. omega arith), le-ltb k 4 m, e) refl

    in_box : InCell (belt p.north (ltb c.west HALF)) (belt_box c.west c.low) s
    in_box = subst (λ (n : Node). In n s) belt_node inside

    pub belt_edge : c.west + SIXTH ≤ TURN
    belt_edge = rw e ((placed k L.few).in_west m)

    pub belt_x : (belt_box c.west 0).x ≤ p.x
    belt_x = rw (index_unit p.east p.x) at in_box.inside.xl

    pub belt_y : c.low ≤ p.y
    belt_y = rw (index_unit p.north p.y) at in_box.inside.yl

    pub belt_begun : {x h : ℕ} {d : Digits} → x ≡ (belt_box c.west 0).x → h ≡ polar_height → d ≡ polar_digits k
        → Begun p (record { rest = spot.Cell ((p.x - x) / (SIXTH / h)) (p.y - c.low); digits = d })
    unfolding spot_in
    belt_begun f z g = begun g (rw (belt_node, index_unit p.east p.x, index_unit p.north p.y, f, z) refl)

  -- another cell of the disc
  module _ (m : 0 < k) (l : k < 4) {c : PolarCell} (e : c ≡ polar_cell_at k) where
    disc_node : polar_node p.north k ≡ cell (disc p.north) (disc_box c.west (TURN / second.ring) c.low)
    disc_node = rw (ne_eqb k 0 (λ z. omega arith), lt-ltb k 4 l, e) refl

    in_ring : InCell (disc p.north) (disc_box c.west (TURN / second.ring) c.low) s
    in_ring = subst (λ (n : Node). In n s) disc_node inside

    pub disc_x : {x : ℕ} → x ≡ eastward (unit p.east p.x) → c.west ≤ x
    disc_x f = rw f in_ring.inside.xl

    pub disc_low : c.low ≡ DISC
    disc_low = rw e ((placed k L.few).in_disc l m).0

    pub disc_y : p.y < c.low + polar_height
    disc_y =
        let y : QUARTER - c.low - polar_height ≤ QUARTER - 1 - p.y = rw (index_unit p.north p.y) at in_ring.inside.yl in
        omega (arith, y, disc_low, L.polar.y_inside)

    pub disc_begun : {x w h : ℕ} {d : Digits} → x ≡ eastward (unit p.east p.x) → w ≡ TURN / second.ring → h ≡ polar_height → d ≡ polar_digits k
        → Begun p (record { rest = spot.Cell ((x - c.west) / (w / h)) (c.low + h - 1 - p.y); digits = d })
    unfolding spot_in
    disc_begun f w z g =
        let y : DISC + polar_height - 1 - p.y ≡ QUARTER - 1 - p.y - (QUARTER - DISC - polar_height) = omega arith in
        begun g (rw (disc_node, index_unit p.north p.y, f, w, z, disc_low, y) refl)

pub cap_begun : {p : Place} {x : ℕ} {d : Digits} → Lies 0 p → x ≡ eastward (unit p.east p.x) → d ≡ polar_digits 0 → Begun p (record { rest = spot.Cap x (QUARTER - 1 - p.y); digits = d })
unfolding spot_in
cap_begun {p} L f g = begun L g (rw (index_unit p.north p.y, f) refl)

-- ---- the edges give the cell

module _ {p : Place} (P : Polar p) where
  abbrev e : ℕ
  e = eastward (unit p.east p.x)

  lies : (k : ℕ) → k < 16 → (polar_cell_at k).west ≤ e → e < (polar_cell_at k).west + polar_width k → (polar_cell_at k).low ≤ p.y → p.y < (polar_cell_at k).low + polar_height → Lies k p
  lies k few a b c d =
      record {
        polar = P;
        few = few;
        holds =
            rw (index_unit p.north p.y)
            (and_make _ _ (and_make _ _ (le-leb _ _ a) (lt-ltb _ _ b)) (and_make _ _ (le-leb _ _ c) (lt-ltb _ _ d)));
      }

  turn : e < TURN
  turn = eastward_below (square_of p) (polar_on p P).0

  pub cap_lies : (polar_cell_at 0).low ≤ p.y → Lies 0 p
  cap_lies h = lies 0 (omega arith) (omega arith) turn h (omega (arith, P.y_inside))

  pub disc_lies : {k : ℕ} → (ltb 0 k && ltb k 4) ≡ true → DISC ≤ p.y → p.y < (polar_cell_at 0).low → {x : ℕ} → x ≡ e → (polar_cell_at k).west ≤ x
      → (x < TURN → x < (polar_cell_at k).west + TURN / second.ring) → (0 < k) × (k < 4) × Lies k p
  disc_lies {k} t a b z f g =
      let u = and_true (ltb 0 k) _ t in
      let m : 0 < k = ltb-true 0 k u.0 in
      let l : k < 4 = ltb-true k 4 u.1 in
      let h : k < 16 = omega arith in
      let low : (polar_cell_at k).low ≡ DISC = ((placed k h).in_disc l m).0 in
      let w : polar_width k ≡ TURN / second.ring = rw (ne_eqb k 0 (λ z. omega arith), u.1) refl in
      (m, l, lies k h (omega (arith, z, f)) (omega (arith, z, w, g (omega (arith, z, turn)))) (omega (arith, low, a)) (omega (arith, low, b)))

  -- k is a belt cell of the outer row, and k + 2 lies between it and the pole
  abbrev two_rows : ℕ → Bool
  two_rows k = (leb 4 k && ltb k 14) && (eqb (polar_cell_at (k + 2)).west (polar_cell_at k).west && (eqb (polar_cell_at k).low POLAR && eqb (polar_cell_at (k + 2)).low (polar_cell_at 6).low))

  belt_lies : (k : ℕ) → 4 ≤ k → k < 16 → (polar_cell_at k).west ≤ e → e < (polar_cell_at k).west + SIXTH → (polar_cell_at k).low ≤ p.y → p.y < (polar_cell_at k).low + polar_height → Lies k p
  belt_lies k m l a b c d =
      let w : polar_width k ≡ SIXTH = rw (ne_eqb k 0 (λ z. omega arith), le-ltb k 4 m) refl in
      lies k l a (omega (arith, b, w)) c d

  module _ (out : p.y < DISC) {k : ℕ} (t : two_rows k ≡ true) where
    column : (polar_cell_at k).west ≤ e → e < (polar_cell_at k).west + SIXTH → LiesInColumn k p
    column a b =
        let u = and_true (leb 4 k && ltb k 14) _ t in
        let v = and_true (leb 4 k) _ u.0 in
        let w = and_true (eqb (polar_cell_at (k + 2)).west (polar_cell_at k).west) _ u.1 in
        let x = and_true (eqb (polar_cell_at k).low POLAR) _ w.1 in
        let m : 4 ≤ k = leb-true 4 k v.0 in
        let l : k < 14 = ltb-true k 14 v.1 in
        let we : (polar_cell_at (k + 2)).west ≡ (polar_cell_at k).west = eqb-true _ _ w.0 in
        let lo : (polar_cell_at k).low ≡ POLAR = eqb-true _ _ x.0 in
        let li : (polar_cell_at (k + 2)).low ≡ (polar_cell_at 6).low = eqb-true _ _ x.1 in
        record {
          belt = m;
          outer = λ h. belt_lies k m (omega arith) a b (omega (arith, lo, P.near)) (omega (arith, lo, h));
          inner = λ h. belt_lies (k + 2) (omega arith) (omega arith) (omega (arith, we, a)) (omega (arith, we, b)) (omega (arith, li, h)) (omega (arith, li, out));
        }

    pub east_column : p.east ≡ true → (polar_cell_at k).west ≤ p.x → p.x < (polar_cell_at k).west + SIXTH → LiesInColumn k p
    east_column h a b = let z : e ≡ p.x = rw h refl in column (omega (arith, z, a)) (omega (arith, z, b))

    pub west_column : p.east ≡ false → p.x + (polar_cell_at k).west < TURN → TURN ≤ p.x + (polar_cell_at k).west + SIXTH → LiesInColumn k p
    west_column h a b = let z : e ≡ TURN - 1 - p.x = rw h refl in column (omega (arith, z, a)) (omega (arith, z, b))
