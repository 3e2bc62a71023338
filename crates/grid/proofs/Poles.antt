-- The second step, of N000 and S000, into the sixteen polar cells: each polar square is in one of them.
-- Where they lie is tested once, over tiles of 60° by 30'.
-- Assumes nothing.
use Rattle.std.proofs.Common.{◌≡◌, ℕ, zero, suc, ◌+◌, ◌-◌, ◌*◌, ◌/◌, ◌%◌, ◌<◌, ◌≤◌, Bool, true, false, not, ◌&&◌, ◌||◌, eqb, ltb, leb, List, [], ◌∷◌, length, ℤ, pos, negsuc, sym, refl, ◌∙◌, subst, arith, ltb-false, ltb-true, lt-ltb, eq-eqb, eqb-true, le-leb, leb-true}
use borrow.Author.Tests.{eqb-false}
use Rattle.grid.specs.Units.{HALF, POLAR, side, index, eastward, from_pole, Square, OnGlobe}
use Rattle.grid.specs.Tree.{ok}
use Rattle.grid.specs.Splits.{polar_cell_at}
use Rattle.grid.specs.Plane.{belt, disc, Node, SIXTH, polar_width, polar_holds, first_from, polar_cell_of, pole_digits, belt_box, disc_box, polar_node, pole_child}
use Rattle.grid.proofs.Cut.{clash, and_true, and_make, same_bool, guard_ok, ok_inj, all_below, below}
use Rattle.grid.proofs.Step.{In, InCell, InPole, InCap, eastward_below}

-- ---- the table in tiles: west edge, width and row of tiles of the cell k

abbrev west_tile : ℕ → ℕ
west_tile k = (polar_cell_at k).west / SIXTH

abbrev tiles : ℕ → ℕ
tiles k = polar_width k / SIXTH

abbrev row_tile : ℕ → ℕ
row_tile k = ((polar_cell_at k).low - POLAR) / 3686400

-- the cell k has the tile in column a and row b
abbrev has_tile : ℕ → ℕ → ℕ → Bool
has_tile a b k = leb (west_tile k) a && (ltb a (west_tile k + tiles k) && eqb b (row_tile k))

abbrev cell_of_tile : ℕ → ℕ → ℕ
cell_of_tile a b = first_from (has_tile a b) 0 16

-- ---- what is tested of the table, each by computing

record Whole (k : ℕ) : Type 0 where
  west : (polar_cell_at k).west ≡ west_tile k * 442368000
  width : polar_width k ≡ tiles k * 442368000
  low : (polar_cell_at k).low ≡ 648806400 + row_tile k * 3686400

whole : (k : ℕ) → k < 16 → Whole k
whole k h =
    record {
      west = eqb-true _ _ (below (λ k. eqb (polar_cell_at k).west (west_tile k * 442368000)) 16 k refl h);
      width = eqb-true _ _ (below (λ k. eqb (polar_width k) (tiles k * 442368000)) 16 k refl h);
      low = eqb-true _ _ (below (λ k. eqb (polar_cell_at k).low (648806400 + row_tile k * 3686400)) 16 k refl h);
    }

-- each tile is in one cell
tile_some : (a b : ℕ) → a < 6 → b < 4 → (ltb (cell_of_tile a b) 16 && has_tile a b (cell_of_tile a b)) ≡ true
tile_some a b h k = below (λ b. ltb (cell_of_tile a b) 16 && has_tile a b (cell_of_tile a b)) 4 b (below (λ a. all_below (λ b. ltb (cell_of_tile a b) 16 && has_tile a b (cell_of_tile a b)) 4) 6 a refl h) k

-- and in no other
tile_only : (a b k : ℕ) → a < 6 → b < 4 → k < 16 → has_tile a b k ≡ true → cell_of_tile a b ≡ k
tile_only a b k h i j =
    go (has_tile a b k) (below (λ k. not (has_tile a b k) || eqb (cell_of_tile a b) k) 16 k (below (λ b. all_below (λ k. not (has_tile a b k) || eqb (cell_of_tile a b) k) 16) 4 b (below (λ a. all_below (λ b. all_below (λ k. not (has_tile a b k) || eqb (cell_of_tile a b) k) 16) 4) 6 a refl h) i) j)
  where
    go : (q : Bool) → (not q || eqb (cell_of_tile a b) k) ≡ true → q ≡ true → cell_of_tile a b ≡ k
    go true e t = eqb-true _ k e
    go false e t = clash (cc)

-- the disc's three cells, and the belt's twelve on either side
pub record Placed (k : ℕ) : Type 0 where
  pub in_disc : k < 4 → 0 < k → ((polar_cell_at k).low ≡ 656179200) × ((polar_cell_at k).west + polar_width k ≤ 2654208000)
  pub in_belt : 4 ≤ k → (648806400 ≤ (polar_cell_at k).low) × ((polar_cell_at k).low + 3686400 ≤ 656179200)
  pub in_east : 4 ≤ k → (polar_cell_at k).west < 1327104000 → (polar_cell_at k).west + 442368000 ≤ 1327104000
  pub in_west : 4 ≤ k → (polar_cell_at k).west + 442368000 ≤ 2654208000

abbrev implies : Bool → Bool → Bool
implies true b = b
implies false b = true

implied : (a b : Bool) → implies a b ≡ true → a ≡ true → b ≡ true
implied true b e p = e
implied false b e p = clash (cc)

pub placed : (k : ℕ) → k < 16 → Placed k
placed k h =
    record {
      in_disc = λ l p.
          (let t = implied _ _ (below (λ k. implies (ltb k 4 && ltb 0 k) (eqb (polar_cell_at k).low 656179200 && leb ((polar_cell_at k).west + polar_width k) 2654208000)) 16 k refl h) (and_make _ _ (lt-ltb k 4 l) (lt-ltb 0 k p)) in
          let u = and_true _ _ t in
          (eqb-true _ _ u.0, leb-true _ _ u.1));
      in_belt = λ l.
          (let t = implied _ _ (below (λ k. implies (leb 4 k) (leb 648806400 (polar_cell_at k).low && leb ((polar_cell_at k).low + 3686400) 656179200)) 16 k refl h) (le-leb 4 k l) in
          let u = and_true _ _ t in
          (leb-true _ _ u.0, leb-true _ _ u.1));
      in_east = λ l p. leb-true _ _ (implied _ _ (below (λ k. implies (leb 4 k && ltb (polar_cell_at k).west 1327104000) (leb ((polar_cell_at k).west + 442368000) 1327104000)) 16 k refl h) (and_make _ _ (le-leb 4 k l) (lt-ltb _ _ p)));
      in_west = λ l. leb-true _ _ (implied _ _ (below (λ k. implies (leb 4 k) (leb ((polar_cell_at k).west + 442368000) 2654208000)) 16 k refl h) (le-leb 4 k l));
    }

-- ---- a square is in a cell exactly when its tile is

-- what the test says
record Holds (s : Square) (k : ℕ) : Type 0 where
  from_west : (polar_cell_at k).west ≤ eastward s.longitude
  to_east : eastward s.longitude < (polar_cell_at k).west + polar_width k
  from_low : (polar_cell_at k).low ≤ index s.latitude
  to_high : index s.latitude < (polar_cell_at k).low + 3686400

holds_of : (s : Square) (k : ℕ) → polar_holds s k ≡ true → Holds s k
holds_of s k e =
    let a = and_true (leb (polar_cell_at k).west (eastward s.longitude) && ltb (eastward s.longitude) ((polar_cell_at k).west + polar_width k)) _ e in
    let b = and_true (leb (polar_cell_at k).west (eastward s.longitude)) _ a.0 in
    let c = and_true (leb (polar_cell_at k).low (index s.latitude)) _ a.1 in
    record { from_west = leb-true _ _ b.0; to_east = ltb-true _ _ b.1; from_low = leb-true _ _ c.0; to_high = ltb-true _ _ c.1 }

holds_to : (s : Square) (k : ℕ) → Holds s k → polar_holds s k ≡ true
holds_to s k h =
    and_make _ _ (and_make _ _ (le-leb _ _ h.from_west) (lt-ltb _ _ h.to_east))
    (and_make _ _ (le-leb _ _ h.from_low) (lt-ltb _ _ h.to_high))

module _ (s : Square) (near : 648806400 ≤ index s.latitude) where
  abbrev column : ℕ
  column = eastward s.longitude / 442368000

  abbrev row : ℕ
  row = (index s.latitude - 648806400) / 3686400

  same_test : (k : ℕ) → k < 16 → polar_holds s k ≡ has_tile column row k
  same_test k h = same_bool _ _ to from
    where
      to : polar_holds s k ≡ true → has_tile column row k ≡ true
      to e =
          let q = holds_of s k e in
          let w = whole k h in
          let u : west_tile k * 442368000 ≤ eastward s.longitude = subst (λ (x : ℕ). x ≤ eastward s.longitude) w.west q.from_west in
          let v : eastward s.longitude < west_tile k * 442368000 + tiles k * 442368000 =
          rw (w.west, w.width) at q.to_east in
          let x : 648806400 + row_tile k * 3686400 ≤ index s.latitude = subst (λ (x : ℕ). x ≤ index s.latitude) w.low q.from_low in
          let y : index s.latitude < 648806400 + row_tile k * 3686400 + 3686400 = subst (λ (x : ℕ). index s.latitude < x + 3686400) w.low q.to_high in
          and_make _ _ (le-leb (west_tile k) column (omega (arith, u)))
          (and_make _ _ (lt-ltb column (west_tile k + tiles k) (omega (arith, v))) (eq-eqb row (row_tile k) (omega (arith, x, y))))

      from : has_tile column row k ≡ true → polar_holds s k ≡ true
      from e =
          let a = and_true (leb (west_tile k) column) _ e in
          let b = and_true (ltb column (west_tile k + tiles k)) _ a.1 in
          let w = whole k h in
          let u : west_tile k ≤ column = leb-true _ _ a.0 in
          let v : column < west_tile k + tiles k = ltb-true _ _ b.0 in
          let x : row ≡ row_tile k = eqb-true _ _ b.1 in
          holds_to s k
          (record {
            from_west = subst (λ (z : ℕ). z ≤ eastward s.longitude) (sym w.west) (omega (arith, u));
            to_east = rw (w.west, w.width) (omega (arith, v));
            from_low = subst (λ (z : ℕ). z ≤ index s.latitude) (sym w.low) (omega (arith, x));
            to_high = subst (λ (z : ℕ). index s.latitude < z + 3686400) (sym w.low) (omega (arith, x));
          })

same_first : (f g : ℕ → Bool) (k n m : ℕ) → k + n ≡ m → ((j : ℕ) → j < m → f j ≡ g j) → first_from f k n ≡ first_from g k n
same_first f g k zero m e h = refl
same_first f g k (suc n) m e h = rw (h k (omega arith), same_first f g (suc k) n m (omega arith) h) refl

-- ---- the one of the sixteen that has the square

pub record Named (s : Square) (k : ℕ) : Type 0 where
  pub few : k < 16
  pub holds : polar_holds s k ≡ true

tile_column : (u : ℤ) → index u < 1327104000 → eastward u / 442368000 < 6
tile_column (pos x) h = omega arith
tile_column (negsuc x) h = omega arith

module _ (s : Square) (o : OnGlobe s) (near : 648806400 ≤ index s.latitude) where
  tile_row : row s near < 4
  tile_row = let h : index s.latitude < 663552000 = o.latitude_in in omega arith

  named_tile : polar_cell_of s ≡ cell_of_tile (column s near) (row s near)
  unfolding polar_cell_of
  named_tile = same_first (polar_holds s) (has_tile (column s near) (row s near)) 0 16 16 refl (same_test s near)

  pub named : Named s (polar_cell_of s)
  named =
      let t = and_true _ _ (tile_some (column s near) (row s near) (tile_column s.longitude o.longitude_in) tile_row) in
      let k : cell_of_tile (column s near) (row s near) < 16 = ltb-true _ 16 t.0 in
      subst (λ (k : ℕ). Named s k) (sym named_tile) (record { few = k; holds = same_test s near _ k ∙ t.1 })

  pub named_only : (k : ℕ) → k < 16 → polar_holds s k ≡ true → polar_cell_of s ≡ k
  named_only k h e =
      named_tile ∙ tile_only (column s near) (row s near) k (tile_column s.longitude o.longitude_in) tile_row h (sym (same_test s near k h) ∙ e)

-- ---- its node has just the squares that it holds

belt_in : (u v : ℤ) (n : Bool) (e y : ℕ) → index u < 1327104000 → index v < 663552000 → side v ≡ n → e + 442368000 ≤ 2654208000 → (e < 1327104000 → e + 442368000 ≤ 1327104000)
    → e ≤ eastward u → eastward u < e + 442368000 → y ≤ index v → index v < y + 3686400 → InCell (belt n (ltb e HALF)) (belt_box e y) (record { longitude = u; latitude = v })
belt_in u v n e y hu hv sv he hh a b c d = go (ltb e HALF) refl
  where
    eastern : (u : ℤ) → index u < 1327104000 → e < 1327104000 → e ≤ eastward u → eastward u < e + 442368000 → (side u ≡ true) × (e ≤ index u) × (index u < e + 442368000)
    eastern (pos x) g l a b = (refl, a, b)
    eastern (negsuc x) g l a b = let z : e + 442368000 ≤ 1327104000 = hh l in absurd (omega arith)

    western : (u : ℤ) → index u < 1327104000 → 1327104000 ≤ e → e ≤ eastward u → eastward u < e + 442368000 → (side u ≡ false) × (2654208000 - e - 442368000 ≤ index u) × (index u < 2654208000 - e - 442368000 + 442368000)
    western (pos x) g l a b = absurd (omega arith)
    western (negsuc x) g l a b = (refl, omega arith, omega arith)

    go : (q : Bool) → ltb e HALF ≡ q → InCell (belt n (ltb e HALF)) (belt_box e y) (record { longitude = u; latitude = v })
    go true p =
        let t = eastern u hu (ltb-true e _ p) a b in
        rw p (record { on = record { longitude_in = hu; latitude_in = hv }; sees = (sv, t.0); inside = record { xl = t.1; xu = t.2; yl = c; yu = d } })
    go false p =
        let t = western u hu (ltb-false e _ p) a b in
        rw p (record { on = record { longitude_in = hu; latitude_in = hv }; sees = (sv, t.0); inside = record { xl = t.1; xu = t.2; yl = c; yu = d } })

pub node_in : (n : Bool) (s : Square) (k : ℕ) → OnGlobe s → side s.latitude ≡ n → k < 16 → polar_holds s k ≡ true → In (polar_node n k) s
node_in n s k o sv h e = go (eqb k 0) refl (ltb k 4) refl
  where
    q : Holds s k
    q = holds_of s k e

    go : (b : Bool) → eqb k 0 ≡ b → (c : Bool) → ltb k 4 ≡ c → In (polar_node n k) s
    go true p c r =
        let z : k ≡ 0 = eqb-true k 0 p in
        let l : 659865600 ≤ index s.latitude = subst (λ (k : ℕ). (polar_cell_at k).low ≤ index s.latitude) z q.from_low in
        let m : index s.latitude < 663552000 = o.latitude_in in
        rw p (record { on = o; sees = sv; near = omega (arith, l, m) })
    go false p true r =
        let nz : ¬ (k ≡ 0) = eqb-false k 0 p in
        let t = (placed k h).in_disc (ltb-true k 4 r) (omega arith) in
        let l : (polar_cell_at k).low ≤ index s.latitude = q.from_low in
        let m : index s.latitude < (polar_cell_at k).low + 3686400 = q.to_high in
        let f : (polar_cell_at k).low ≡ 656179200 = t.0 in
        let w : polar_width k ≡ 884736000 = rw (p, r) refl in
        let x : eastward s.longitude < (polar_cell_at k).west + 884736000 = subst (λ (x : ℕ). eastward s.longitude < (polar_cell_at k).west + x) w q.to_east in
        rw (p, r) (record { on = o; sees = sv; inside = record { xl = q.from_west; xu = x; yl = omega (arith, l, m, f); yu = omega (arith, l, m, f) } })
    go false p false r =
        let l : 4 ≤ k = ltb-false k 4 r in
        let w : polar_width k ≡ 442368000 = rw (p, r) refl in
        rw (p, r)
        (belt_in s.longitude s.latitude n (polar_cell_at k).west (polar_cell_at k).low o.longitude_in o.latitude_in sv ((placed k h).in_west l) ((placed k h).in_east l) q.from_west
        (subst (λ (x : ℕ). eastward s.longitude < (polar_cell_at k).west + x) w q.to_east) q.from_low q.to_high)

belt_only : (u v : ℤ) (n : Bool) (e y : ℕ) → index u < 1327104000 → e + 442368000 ≤ 2654208000 → InCell (belt n (ltb e HALF)) (belt_box e y) (record { longitude = u; latitude = v })
    → (side v ≡ n) × (e ≤ eastward u) × (eastward u < e + 442368000) × (y ≤ index v) × (index v < y + 3686400)
belt_only u v n e y hu he i = go (ltb e HALF) refl
  where
    eastern : (u : ℤ) → side u ≡ true → e ≤ index u → index u < e + 442368000 → (e ≤ eastward u) × (eastward u < e + 442368000)
    eastern (pos x) g a b = (a, b)
    eastern (negsuc x) g a b = clash (cc)

    western : (u : ℤ) → side u ≡ false → 2654208000 - e - 442368000 ≤ index u → index u < 2654208000 - e - 442368000 + 442368000 → (e ≤ eastward u) × (eastward u < e + 442368000)
    western (pos x) g a b = clash (cc)
    western (negsuc x) g a b = (omega arith, omega arith)

    go : (q : Bool) → ltb e HALF ≡ q → (side v ≡ n) × (e ≤ eastward u) × (eastward u < e + 442368000) × (y ≤ index v) × (index v < y + 3686400)
    go true p =
        let j : InCell (belt n true) (record { x = e; w = 442368000; y = y; h = 3686400 }) (record { longitude = u; latitude = v }) = rw p at i in
        let t = eastern u j.sees.1 j.inside.xl j.inside.xu in
        (j.sees.0, t.0, t.1, j.inside.yl, j.inside.yu)
    go false p =
        let j : InCell (belt n false) (record { x = 2654208000 - e - 442368000; w = 442368000; y = y; h = 3686400 }) (record { longitude = u; latitude = v }) = rw p at i in
        let t = western u j.sees.1 j.inside.xl j.inside.xu in
        (j.sees.0, t.0, t.1, j.inside.yl, j.inside.yu)

pub node_only : (n : Bool) (s : Square) (k : ℕ) → k < 16 → In (polar_node n k) s → InPole n s × (polar_holds s k ≡ true)
node_only n s k h i = go (eqb k 0) refl (ltb k 4) refl
  where
    go : (b : Bool) → eqb k 0 ≡ b → (c : Bool) → ltb k 4 ≡ c → InPole n s × (polar_holds s k ≡ true)
    go true p c r =
        let z : k ≡ 0 = eqb-true k 0 p in
        let j : InCap n 3686400 s = rw p at i in
        let l : from_pole s.latitude < 3686400 = j.near in
        let m : index s.latitude < 663552000 = j.on.latitude_in in
        let e : eastward s.longitude < 2654208000 = eastward_below s j.on in
        let q : Holds s 0 = record { from_west = omega arith; to_east = e; from_low = omega (arith, l, m); to_high = omega (arith, m) } in
        (record { on = j.on; sees = j.sees; near = omega (arith, l, m) }, subst (λ (k : ℕ). polar_holds s k ≡ true) (sym z) (holds_to s 0 q))
    go false p true r =
        let nz : ¬ (k ≡ 0) = eqb-false k 0 p in
        let t = (placed k h).in_disc (ltb-true k 4 r) (omega arith) in
        let w : polar_width k ≡ 884736000 = rw (p, r) refl in
        let j : InCell (disc n) (disc_box (polar_cell_at k).west 884736000 (polar_cell_at k).low) s = rw (p, r) at i in
        let x : eastward s.longitude < (polar_cell_at k).west + polar_width k = subst (λ (x : ℕ). eastward s.longitude < (polar_cell_at k).west + x) (sym w) j.inside.xu in
        let f : (polar_cell_at k).low ≡ 656179200 = t.0 in
        let a : 663552000 - (polar_cell_at k).low - 3686400 ≤ from_pole s.latitude = j.inside.yl in
        let b : from_pole s.latitude < 663552000 - (polar_cell_at k).low - 3686400 + 3686400 = j.inside.yu in
        let m : index s.latitude < 663552000 = j.on.latitude_in in
        let q : Holds s k = record { from_west = j.inside.xl; to_east = x; from_low = omega (arith, a, b, f, m); to_high = omega (arith, a, b, f, m) } in
        (record { on = j.on; sees = j.sees; near = omega (arith, a, b, f, m) }, holds_to s k q)
    go false p false r =
        let l : 4 ≤ k = ltb-false k 4 r in
        let w : polar_width k ≡ 442368000 = rw (p, r) refl in
        let j : InCell (belt n (ltb (polar_cell_at k).west HALF)) (belt_box (polar_cell_at k).west (polar_cell_at k).low) s = rw (p, r) at i in
        let b = belt_only s.longitude s.latitude n (polar_cell_at k).west (polar_cell_at k).low j.on.longitude_in ((placed k h).in_west l) j in
        let f : 648806400 ≤ (polar_cell_at k).low = ((placed k h).in_belt l).0 in
        let g : (polar_cell_at k).low ≤ index s.latitude = b.3 in
        let q : Holds s k = record { from_west = b.1; to_east = subst (λ (x : ℕ). eastward s.longitude < (polar_cell_at k).west + x) (sym w) b.2; from_low = g; to_high = b.4 } in
        (record { on = j.on; sees = b.0; near = omega (arith, f, g) }, holds_to s k q)

-- ---- one step

pub pole_here : (n : Bool) (s : Square) → InPole n s → (m : Node) × (pole_child n (pole_digits s) ≡ ok m) × In m s
pole_here n s i = go (polar_cell_of s) (named s i.on i.near)
  where
    go : (k : ℕ) → Named s k → (m : Node) × (pole_child n ((k / 4) ∷ (k % 4) ∷ []) ≡ ok m) × In m s
    go k q =
        let h : k < 16 = q.few in
        let e : 4 * (k / 4) + k % 4 ≡ k = omega arith in
        (polar_node n k, rw (lt-ltb (k / 4) 4 (omega arith), lt-ltb (k % 4) 4 (omega arith), e) refl, node_in n s k i.on i.sees h q.holds)

-- what two digits that are read say
pub record Two (n : Bool) (a b : ℕ) (m : Node) : Type 0 where
  pub first : a < 4
  pub second : b < 4
  pub node : polar_node n (4 * a + b) ≡ m

pub two_of : (n : Bool) (a b : ℕ) (m : Node) → pole_child n (a ∷ b ∷ []) ≡ ok m → Two n a b m
two_of n a b m e =
    let g = guard_ok 0 (ltb a 4) _ m e in
    let h = guard_ok 1 (ltb b 4) _ m g.1 in
    record { first = ltb-true a 4 g.0; second = ltb-true b 4 h.0; node = ok_inj h.1 }

pub pole_only : (n : Bool) (w : List ℕ) (m : Node) (s : Square) → pole_child n w ≡ ok m → In m s → InPole n s × (pole_digits s ≡ w)
pole_only n [] m s e i = clash (cc)
pole_only n (a ∷ []) m s e i = clash (cc)
pole_only n (a ∷ b ∷ []) m s e i =
    let t = two_of n a b m e in
    let ha : a < 4 = t.first in
    let hb : b < 4 = t.second in
    let h : 4 * a + b < 16 = omega arith in
    let o = node_only n s (4 * a + b) h (subst (λ (x : Node). In x s) (sym t.node) i) in
    let k : polar_cell_of s ≡ 4 * a + b = named_only s o.0.on o.0.near (4 * a + b) h o.1 in
    let tens : (4 * a + b) / 4 ≡ a = omega arith in
    let ones : (4 * a + b) % 4 ≡ b = omega arith in
    (o.0, rw (k, tens, ones) refl)
pole_only n (a ∷ b ∷ x ∷ w) m s e i = clash (cc)

pub pole_sized : (n : Bool) (w : List ℕ) (m : Node) → pole_child n w ≡ ok m → length w ≡ 2
pole_sized n [] m e = clash (cc)
pole_sized n (a ∷ []) m e = clash (cc)
pole_sized n (a ∷ b ∷ []) m e = refl
pole_sized n (a ∷ b ∷ x ∷ w) m e = clash (cc)
