-- The first step, of the globe, into sheets and the two polar cells.
-- Assumes nothing.
use Rattle.std.proofs.Common.{◌≡◌, ℕ, ◌+◌, ◌-◌, ◌*◌, ◌/◌, ◌%◌, ◌<◌, ◌≤◌, Bool, true, false, cond, ◌&&◌, ◌||◌, eqb, ltb, leb, ◌⊎◌, List, [], ◌∷◌, length, ℤ, pos, negsuc, sym, refl, subst, inl, inr, arith, ltb-false, ltb-true, le-ltb, lt-ltb, ne_eqb, eqb-true, le-leb, leb-false, leb-true}
use borrow.Author.Tests.{eqb-false, lt-leb}
use Rattle.grid.specs.Units.{POLAR, side, index, Square, OnGlobe}
use Rattle.grid.specs.Tree.{ok, guard}
use Rattle.grid.specs.Plane.{ordinary, Node, pole, cell, letter, zone, globe_digits, sheet, globe_child}
use Rattle.grid.proofs.Cut.{clash, and_true, guard_ok, ok_inj}
use Rattle.grid.proofs.Step.{In, InPole}

letter_fine : (n : Bool) → (eqb (letter n) 23 || eqb (letter n) 28) ≡ true
letter_fine true = refl
letter_fine false = refl

pub letter_north : (n : Bool) → eqb (letter n) 23 ≡ n
letter_north true = refl
letter_north false = refl

letter_back : (a : ℕ) → (eqb a 23 || eqb a 28) ≡ true → letter (eqb a 23) ≡ a
letter_back a e = go (eqb a 23) refl e
  where
    go : (q : Bool) → eqb a 23 ≡ q → (q || eqb a 28) ≡ true → letter q ≡ a
    go true p e = sym (eqb-true a 23 p)
    go false p e = sym (eqb-true a 28 e)

-- ---- the globe

zone_low : (u : ℤ) → index u < 1327104000 → 1 ≤ zone u
zone_low (pos x) h = omega arith
zone_low (negsuc x) h = omega arith

pub zone_high : (u : ℤ) → index u < 1327104000 → zone u ≤ 60
zone_high (pos x) h = omega arith
zone_high (negsuc x) h = omega arith

sheet_in : (u v : ℤ) → index u < 1327104000 → index v < 648806400 → In (sheet (side v) (zone u) (index v / 29491200)) (record { longitude = u; latitude = v })
sheet_in (pos x) v h k =
    rw (le-leb 31 (31 + x / 44236800) (omega arith))
    (record {
      on = record { longitude_in = h; latitude_in = omega arith };
      sees = (refl, refl);
      inside = record { xl = omega arith; xu = omega arith; yl = omega arith; yu = omega arith };
    })
sheet_in (negsuc x) v h k =
    rw (lt-leb 31 (30 - x / 44236800) (omega arith))
    (record {
      on = record { longitude_in = h; latitude_in = omega arith };
      sees = (refl, refl);
      inside = record { xl = omega arith; xu = omega arith; yl = omega arith; yu = omega arith };
    })

-- the four digits of a sheet lead to it
sheet_read : (n : Bool) (z r : ℕ) → 1 ≤ z → z ≤ 60 → r < 22 → globe_child (letter n ∷ (z / 10) ∷ (z % 10) ∷ (10 + r) ∷ []) ≡ ok (sheet n z r)
sheet_read n z r a b c =
    let e : 10 * (z / 10) + z % 10 ≡ z = omega arith in
    let f : 10 + r - 10 ≡ r = omega arith in
    rw (
      letter_fine n,
      letter_north n,
      e,
      f,
      le-leb (10 * (z / 10)) 60 (omega arith),
      le-leb (z % 10) 9 (omega arith),
      le-leb z 60 b,
      ne_eqb z 0 (λ q. omega arith),
      le-leb 10 (10 + r) (omega arith),
      lt-ltb r 22 c,
    ) refl

pole_read : (n : Bool) → globe_child (letter n ∷ 0 ∷ 0 ∷ 0 ∷ []) ≡ ok (pole n)
pole_read true = refl
pole_read false = refl

pub globe_here : (s : Square) → OnGlobe s → (m : Node) × (globe_child (globe_digits s) ≡ ok m) × In m s
globe_here s o = go (ltb (index s.latitude) POLAR) refl
  where
    go : (q : Bool) → ltb (index s.latitude) POLAR ≡ q → (m : Node) × (globe_child (globe_digits s) ≡ ok m) × In m s
    go true e =
        let k : index s.latitude < 648806400 = ltb-true _ _ e in (
          sheet (side s.latitude) (zone s.longitude) (index s.latitude / 29491200),
          rw e (sheet_read (side s.latitude) (zone s.longitude) (index s.latitude / 29491200) (zone_low s.longitude o.longitude_in) (zone_high s.longitude o.longitude_in) (omega arith)),
          sheet_in s.longitude s.latitude o.longitude_in k,
        )
    go false e = (
      pole (side s.latitude),
      rw e (pole_read (side s.latitude)),
      record { on = o; sees = refl; near = ltb-false _ _ e },
    )

-- a sheet holds a square only where its zone and row are the square's
sheet_only : (u v : ℤ) (n : Bool) (z r : ℕ) → 1 ≤ z → z ≤ 60 → r < 22 → In (sheet n z r) (record { longitude = u; latitude = v })
    → (OnGlobe (record { longitude = u; latitude = v })) × (side v ≡ n) × (index v < 648806400) × (zone u ≡ z) × (index v / 29491200 ≡ r)
sheet_only u v n z r a b c i = go (leb 31 z) refl
  where
    Goal : Type 0
    Goal = (OnGlobe (record { longitude = u; latitude = v })) × (side v ≡ n) × (index v < 648806400) × (zone u ≡ z) × (index v / 29491200 ≡ r)

    eastern : (u : ℤ) → 31 ≤ z → side u ≡ true → (z - 31) * 44236800 ≤ index u → index u < (z - 31) * 44236800 + 44236800 → zone u ≡ z
    eastern (pos x) l e f g = omega arith
    eastern (negsuc x) l e f g = clash (cc)

    western : (u : ℤ) → z < 31 → side u ≡ false → (30 - z) * 44236800 ≤ index u → index u < (30 - z) * 44236800 + 44236800 → zone u ≡ z
    western (pos x) l e f g = clash (cc)
    western (negsuc x) l e f g = omega arith

    go : (q : Bool) → leb 31 z ≡ q → Goal
    go true e =
        let j : In (cell (ordinary n true) (record { x = (z - 31) * 44236800; w = 44236800; y = r * 29491200; h = 29491200 })) (record { longitude = u; latitude = v }) = rw e at i in
        let yl : r * 29491200 ≤ index v = j.inside.yl in
        let yu : index v < r * 29491200 + 29491200 = j.inside.yu in
        (j.on, j.sees.0, omega arith, eastern u (leb-true 31 z e) j.sees.1 j.inside.xl j.inside.xu, omega arith)
    go false e =
        let j : In (cell (ordinary n false) (record { x = (30 - z) * 44236800; w = 44236800; y = r * 29491200; h = 29491200 })) (record { longitude = u; latitude = v }) = rw e at i in
        let yl : r * 29491200 ≤ index v = j.inside.yl in
        let yu : index v < r * 29491200 + 29491200 = j.inside.yu in
        (j.on, j.sees.0, omega arith, western u (leb-false 31 z e) j.sees.1 j.inside.xl j.inside.xu, omega arith)

-- what four digits that are read say
pub record Sheet (a b c d : ℕ) (m : Node) : Type 0 where
  pub low : 1 ≤ 10 * b + c
  pub high : 10 * b + c ≤ 60
  pub unit : c ≤ 9
  pub row_low : 10 ≤ d
  pub row_high : d < 32
  pub name : letter (eqb a 23) ≡ a
  pub node : sheet (eqb a 23) (10 * b + c) (d - 10) ≡ m

pub record Pole (a b c d : ℕ) (m : Node) : Type 0 where
  pub b0 : b ≡ 0
  pub c0 : c ≡ 0
  pub d0 : d ≡ 0
  pub name : letter (eqb a 23) ≡ a
  pub node : pole (eqb a 23) ≡ m

pub globe_cases : (a b c d : ℕ) (m : Node) → globe_child (a ∷ b ∷ c ∷ d ∷ []) ≡ ok m → Sheet a b c d m ⊎ Pole a b c d m
globe_cases a b c d m e =
    let g = guard_ok 0 (eqb a 23 || eqb a 28) _ m e in
    let h = guard_ok 1 (leb (10 * b) 60) _ m g.1 in
    let i = guard_ok 2 (leb c 9 && leb (10 * b + c) 60) _ m h.1 in
    let j = and_true (leb c 9) (leb (10 * b + c) 60) i.0 in
    go (letter_back a g.0) (leb-true c 9 j.0) (leb-true (10 * b + c) 60 j.1) (eqb (10 * b + c) 0) refl i.1
  where
    go : letter (eqb a 23) ≡ a → c ≤ 9 → 10 * b + c ≤ 60 → (q : Bool) → eqb (10 * b + c) 0 ≡ q
        → cond q (guard 3 (eqb d 0) (ok (pole (eqb a 23)))) (guard 3 (leb 10 d && ltb (d - 10) 22) (ok (sheet (eqb a 23) (10 * b + c) (d - 10)))) ≡ ok m
        → Sheet a b c d m ⊎ Pole a b c d m
    go l u v true p e =
        let k = guard_ok 3 (eqb d 0) _ m e in
        let z : 10 * b + c ≡ 0 = eqb-true _ 0 p in
        inr (record { b0 = omega arith; c0 = omega arith; d0 = eqb-true d 0 k.0; name = l; node = ok_inj k.1 })
    go l u v false p e =
        let k = guard_ok 3 (leb 10 d && ltb (d - 10) 22) _ m e in
        let t = and_true (leb 10 d) (ltb (d - 10) 22) k.0 in
        let u22 : d - 10 < 22 = ltb-true _ 22 t.1 in
        let z : ¬ (10 * b + c ≡ 0) = eqb-false _ 0 p in
        inl (record { low = omega arith; high = v; unit = u; row_low = leb-true 10 d t.0; row_high = omega arith; name = l; node = ok_inj k.1 })

globe_four : (a b c d : ℕ) (m : Node) (s : Square) → Sheet a b c d m ⊎ Pole a b c d m → In m s → OnGlobe s × (globe_digits s ≡ a ∷ b ∷ c ∷ d ∷ [])
globe_four a b c d m s (inl q) i =
    let lo : 10 ≤ d = q.row_low in
    let hi : d < 32 = q.row_high in
    let un : c ≤ 9 = q.unit in
    let o = sheet_only s.longitude s.latitude (eqb a 23) (10 * b + c) (d - 10) q.low q.high (omega arith) (subst (λ (x : Node). In x s) (sym q.node) i) in
    let tens : (10 * b + c) / 10 ≡ b = omega arith in
    let ones : (10 * b + c) % 10 ≡ c = omega arith in
    let row : 10 + (d - 10) ≡ d = omega arith in
    (o.0, rw (lt-ltb _ _ o.2, o.1, q.name, o.3, o.4, tens, ones, row) refl)
globe_four a b c d m s (inr q) i =
    let j : InPole (eqb a 23) s = subst (λ (x : Node). In x s) (sym q.node) i in
    (j.on, rw (le-ltb _ _ j.near, j.sees, q.name, q.b0, q.c0, q.d0) refl)

pub globe_only : (w : List ℕ) (m : Node) (s : Square) → globe_child w ≡ ok m → In m s → OnGlobe s × (globe_digits s ≡ w)
globe_only [] m s e i = clash (cc)
globe_only (a ∷ []) m s e i = clash (cc)
globe_only (a ∷ b ∷ []) m s e i = clash (cc)
globe_only (a ∷ b ∷ c ∷ []) m s e i = clash (cc)
globe_only (a ∷ b ∷ c ∷ d ∷ []) m s e i = globe_four a b c d m s (globe_cases a b c d m e) i
globe_only (a ∷ b ∷ c ∷ d ∷ x ∷ w) m s e i = clash (cc)

pub globe_sized : (w : List ℕ) (m : Node) → globe_child w ≡ ok m → length w ≡ 4
globe_sized [] m e = clash (cc)
globe_sized (a ∷ []) m e = clash (cc)
globe_sized (a ∷ b ∷ []) m e = clash (cc)
globe_sized (a ∷ b ∷ c ∷ []) m e = clash (cc)
globe_sized (a ∷ b ∷ c ∷ d ∷ []) m e = refl
globe_sized (a ∷ b ∷ c ∷ d ∷ x ∷ w) m e = clash (cc)
