-- One step of the plane's tree that is refused: the place is the first at which no digits lead on.
-- Assumes nothing.
use Rattle.std.proofs.Common.{◌≡◌, ℕ, suc, ◌+◌, ◌-◌, ◌*◌, ◌/◌, ◌%◌, ◌<◌, ◌≤◌, min, Bool, true, false, cond, ◌&&◌, ◌||◌, eqb, ltb, leb, ◌⊎◌, List, [], ◌∷◌, length, take, sym, refl, ap, ◌∙◌, subst, inl, inr, arith, take_all, ltb-true, lt-ltb, le-leb, leb-true}
use Rattle.grid.specs.Tree.{Read, ok, bad, guard}
use Rattle.grid.specs.Plane.{Node, pole, Form, pair, quad, trio, Part, allowed, read_as, sheet, globe_child, polar_node, pole_child}
use Rattle.grid.proofs.Cut.{clash, guard_ok, guard_bad}
use Rattle.grid.proofs.Laws.{Halts}
use Rattle.grid.proofs.Step.{Exact, allowed_to, write_read, length_write, form_size}
use Rattle.grid.proofs.Globe.{globe_sized}
use Rattle.grid.proofs.Poles.{pole_sized}

-- at the last place nothing is left to go on with
pub last_halts : {A : Type 0} (child : List ℕ → Read A) (w v : List ℕ) (p k : ℕ) (m : A) → length w ≡ suc k → length v ≡ suc k → child w ≡ bad p → child v ≡ ok m → take (suc k) v ≡ take (suc k) w → ⊥
last_halts child w v p k m lw lv ew ev t =
    let same : v ≡ w = sym (take_all (suc k) v (omega arith)) ∙ t ∙ take_all (suc k) w (omega arith) in
    clash (let z : ok m ≡ bad p = sym ev ∙ ap child same ∙ ew in cc)

first_of : (a b : ℕ) (x y : List ℕ) → a ∷ x ≡ b ∷ y → a ≡ b
first_of a b x y e = cc

-- ---- a division

row_one : (i : Bool) → ℕ
row_one true = 1
row_one false = 0

first_allowed : (i : Bool) (n : ℕ) (p : Part) (w h : ℕ) → Exact i n p w h → allowed i p 0 0 ≡ true
first_allowed i n p w h E = allowed_to i p 0 0 (record { col = E.some_c; row = E.some_r; first = λ _ _. refl })

column_allowed : (i : Bool) (n : ℕ) (p : Part) (w h : ℕ) → Exact i n p w h → (c : ℕ) → c < p.columns → allowed i p c (row_one i) ≡ true
unfolding row_one
column_allowed true n p w h E c l = allowed_to true p c 1 (record { col = l; row = E.two_r refl; first = λ _ q. absurd (omega arith) })
column_allowed false n p w h E c l = allowed_to false p c 0 (record { col = l; row = E.some_r; first = λ q _. clash (cc) })

module _ (i : Bool) (n : ℕ) (p : Part) (W H : ℕ) (E : Exact i n p W H) (k : ℕ → ℕ → Node) where
  -- two digits
  pair_no_further : (c : ℕ) (x v : List ℕ) (m : Node) → ltb c p.columns ≡ false → read_as pair i p k v ≡ ok m → take 1 v ≡ take 1 (c ∷ x) → ⊥
  pair_no_further c x v m q e t =
      let a = write_read pair i p k v m e in
      let s : a.c ≡ c = first_of a.c c [] [] (sym (ap (take 1) a.text) ∙ t) in
      let y : ltb c p.columns ≡ true = lt-ltb c p.columns (subst (λ (z : ℕ). z < p.columns) s a.fine.col) in
      clash (cc)

  pair_halts : (w : List ℕ) (q : ℕ) → length w ≡ 2 → read_as pair i p k w ≡ bad q → Halts (read_as pair i p k) 2 w q
  pair_halts [] q l e = absurd (omega arith)
  pair_halts (c ∷ []) q l e = absurd (omega arith)
  pair_halts (c ∷ r ∷ []) q l e = elim (guard_bad 0 (ltb c p.columns) (guard 1 (allowed i p c r) (ok (k c r))) q e) [
    | inl h ↦ subst (Halts (read_as pair i p k) 2 (c ∷ r ∷ [])) h.1
        (record {
          inside = omega arith;
          before = (0 ∷ 0 ∷ [], k 0 0, rw (first_allowed i n p W H E, lt-ltb 0 p.columns E.some_c) refl, refl);
          no_further = λ v m ev t. pair_no_further c (r ∷ []) v m h.0 ev t;
        })
    | inr h ↦ later h.0 (guard_bad 1 (allowed i p c r) (ok (k c r)) q h.1)
  ]
    where
      later : ltb c p.columns ≡ true → ((allowed i p c r ≡ false) × (1 ≡ q)) ⊎ ((allowed i p c r ≡ true) × (ok (k c r) ≡ bad q)) → Halts (read_as pair i p k) 2 (c ∷ r ∷ []) q
      later g (inl h) =
          subst (Halts (read_as pair i p k) 2 (c ∷ r ∷ [])) h.1
          (record {
            inside = omega arith;
            before = (c ∷ row_one i ∷ [], k c (row_one i), rw (column_allowed i n p W H E c (ltb-true c _ g), g) refl, refl);
            no_further = λ v m ev t. last_halts (read_as pair i p k) (c ∷ r ∷ []) v q 1 m refl (ap length (write_read pair i p k v m ev).text) e ev t;
          })
      later g (inr h) = clash (let z = h.1 in cc)
  pair_halts (c ∷ r ∷ x ∷ w) q l e = absurd (omega arith)

  -- one digit
  single_halts : (f : Form) (w : List ℕ) (q : ℕ) → p.form ≡ f → form_size f ≡ 1 → read_as f i p k (0 ∷ []) ≡ ok (k 0 0) → length w ≡ 1 → read_as f i p k w ≡ bad q → q ≡ 0 → Halts (read_as f i p k) 1 w q
  single_halts f w q pf sz z l e q0 =
      subst (Halts (read_as f i p k) 1 w) (sym q0)
      (record {
        inside = omega arith;
        before = (0 ∷ [], k 0 0, z, refl);
        no_further = λ v m ev t. last_halts (read_as f i p k) w v q 0 m l (ap length (write_read f i p k v m ev).text ∙ length_write f _ _ ∙ sz) e ev t;
      })

  quad_place : (w : List ℕ) (q : ℕ) → read_as quad i p k w ≡ bad q → q ≡ 0
  quad_place [] q e = cc
  quad_place (v ∷ []) q e = elim (guard_bad 0 (allowed i p (v % 2) (v / 2)) (ok (k (v % 2) (v / 2))) q e) [
    | inl h ↦ sym h.1
    | inr h ↦ clash (let z = h.1 in cc)
  ]
  quad_place (v ∷ x ∷ w) q e = cc

  trio_place : (w : List ℕ) (q : ℕ) → read_as trio i p k w ≡ bad q → q ≡ 0
  trio_place [] q e = cc
  trio_place (v ∷ []) q e = elim (guard_bad 0 (allowed i p (v - 1) (min v 1)) (ok (k (v - 1) (min v 1))) q e) [
    | inl h ↦ sym h.1
    | inr h ↦ clash (let z = h.1 in cc)
  ]
  trio_place (v ∷ x ∷ w) q e = cc

  pub read_halts : (w : List ℕ) (q : ℕ) → length w ≡ n → read_as p.form i p k w ≡ bad q → Halts (read_as p.form i p k) n w q
  read_halts w q l e = go p.form refl E.size e
    where
      go : (f : Form) → p.form ≡ f → form_size f ≡ n → read_as f i p k w ≡ bad q → Halts (read_as f i p k) n w q
      go pair pf sz e = subst (λ (x : ℕ). Halts (read_as pair i p k) x w q) sz (pair_halts w q (l ∙ sym sz) e)
      go quad pf sz e = subst (λ (x : ℕ). Halts (read_as quad i p k) x w q) sz (single_halts quad w q pf refl (rw (first_allowed i n p W H E) refl) (l ∙ sym sz) e (quad_place w q e))
      go trio pf sz e = subst (λ (x : ℕ). Halts (read_as trio i p k) x w q) sz (single_halts trio w q pf refl (rw (first_allowed i n p W H E) refl) (l ∙ sym sz) e (trio_place w q e))

-- ---- N000 and S000

pub pole_halts : (n : Bool) (w : List ℕ) (q k : ℕ) → k ≡ 2 → length w ≡ k → pole_child n w ≡ bad q → Halts (pole_child n) k w q
pole_halts n [] q k ek l e = absurd (omega arith)
pole_halts n (a ∷ []) q k ek l e = absurd (omega arith)
pole_halts n (a ∷ b ∷ []) q k ek l e =
    subst (λ (x : ℕ). Halts (pole_child n) x (a ∷ b ∷ []) q) (sym ek)
    (elim (guard_bad 0 (ltb a 4) (guard 1 (ltb b 4) (ok (polar_node n (4 * a + b)))) q e) [
      | inl h ↦ subst (Halts (pole_child n) 2 (a ∷ b ∷ [])) h.1
          (record {
            inside = omega arith;
            before = (0 ∷ 0 ∷ [], polar_node n 0, refl, refl);
            no_further = λ v m ev t. no_further v m (pole_sized n v m ev) h.0 ev t;
          })
      | inr h ↦ later h.0 (guard_bad 1 (ltb b 4) (ok (polar_node n (4 * a + b))) q h.1)
    ])
  where
    no_further : (v : List ℕ) (m : Node) → length v ≡ 2 → ltb a 4 ≡ false → pole_child n v ≡ ok m → take 1 v ≡ take 1 (a ∷ b ∷ []) → ⊥
    no_further [] m l g ev t = clash (cc)
    no_further (c ∷ []) m l g ev t = clash (cc)
    no_further (c ∷ d ∷ []) m l g ev t =
        let s : c ≡ a = cc in
        let y : ltb a 4 ≡ true = ap (λ (x : ℕ). ltb x 4) (sym s) ∙ (guard_ok 0 (ltb c 4) _ m ev).0 in
        clash (cc)
    no_further (c ∷ d ∷ x ∷ v) m l g ev t = clash (cc)

    later : ltb a 4 ≡ true → ((ltb b 4 ≡ false) × (1 ≡ q)) ⊎ ((ltb b 4 ≡ true) × (ok (polar_node n (4 * a + b)) ≡ bad q)) → Halts (pole_child n) 2 (a ∷ b ∷ []) q
    later g (inl h) =
        subst (Halts (pole_child n) 2 (a ∷ b ∷ [])) h.1
        (record {
          inside = omega arith;
          before = (a ∷ 0 ∷ [], polar_node n (4 * a + 0), rw g refl, refl);
          no_further = λ v m ev t. last_halts (pole_child n) (a ∷ b ∷ []) v q 1 m refl (pole_sized n v m ev) e ev t;
        })
    later g (inr h) = clash (let z = h.1 in cc)
pole_halts n (a ∷ b ∷ x ∷ w) q k ek l e = absurd (omega arith)

-- ---- the globe

-- the tests of the four digits, in their order
abbrev test0 : ℕ → Bool
test0 a = eqb a 23 || eqb a 28

abbrev test1 : ℕ → Bool
test1 b = leb (10 * b) 60

abbrev test2 : ℕ → ℕ → Bool
test2 b c = leb c 9 && leb (10 * b + c) 60

abbrev tail3 : ℕ → ℕ → ℕ → ℕ → Read Node
tail3 a b c d =
    cond (eqb (10 * b + c) 0) (guard 3 (eqb d 0) (ok (pole (eqb a 23))))
    (guard 3 (leb 10 d && ltb (d - 10) 22) (ok (sheet (eqb a 23) (10 * b + c) (d - 10))))

-- the last digit that goes on after a zone: 0 at the pole, else the row A
abbrev last_digit : ℕ → ℕ
last_digit z = cond (eqb z 0) 0 10

-- what an accepted code's first digits pass
record Passed (a b c : ℕ) : Type 0 where
  zeroth : test0 a ≡ true
  first : test1 b ≡ true
  second : test2 b c ≡ true

passed : (a b c d : ℕ) (m : Node) → globe_child (a ∷ b ∷ c ∷ d ∷ []) ≡ ok m → Passed a b c
passed a b c d m e =
    let g = guard_ok 0 (test0 a) (guard 1 (test1 b) (guard 2 (test2 b c) (tail3 a b c d))) m e in
    let h = guard_ok 1 (test1 b) (guard 2 (test2 b c) (tail3 a b c d)) m g.1 in
    let i = guard_ok 2 (test2 b c) (tail3 a b c d) m h.1 in
    record { zeroth = g.0; first = h.0; second = i.0 }

-- digits that pass the three tests go on
goes_on : (a b c : ℕ) → test0 a ≡ true → test1 b ≡ true → test2 b c ≡ true → (m : Node) × (globe_child (a ∷ b ∷ c ∷ last_digit (10 * b + c) ∷ []) ≡ ok m)
goes_on a b c p q r = go (eqb (10 * b + c) 0) refl
  where
    go : (z : Bool) → eqb (10 * b + c) 0 ≡ z → (m : Node) × (globe_child (a ∷ b ∷ c ∷ last_digit (10 * b + c) ∷ []) ≡ ok m)
    go true e = (pole (eqb a 23), rw (p, q, r, e) refl)
    go false e = (sheet (eqb a 23) (10 * b + c) 0, rw (p, q, r, e) refl)

module _ (a b c d q : ℕ) (e : globe_child (a ∷ b ∷ c ∷ d ∷ []) ≡ bad q) where
  abbrev given : List ℕ
  given = a ∷ b ∷ c ∷ d ∷ []

  -- an accepted code that agrees with the first digits passes their tests
  agrees : (k : ℕ) (v : List ℕ) (m : Node) → globe_child v ≡ ok m → take k v ≡ take k given
      → (f : ℕ) × (g : ℕ) × (h : ℕ) × (j : ℕ) × Passed f g h × (take k (f ∷ g ∷ h ∷ j ∷ []) ≡ take k given)
  agrees k [] m ev t = clash (cc)
  agrees k (f ∷ []) m ev t = clash (cc)
  agrees k (f ∷ g ∷ []) m ev t = clash (cc)
  agrees k (f ∷ g ∷ h ∷ []) m ev t = clash (cc)
  agrees k (f ∷ g ∷ h ∷ j ∷ []) m ev t = (f, g, h, j, passed f g h j m ev, t)
  agrees k (f ∷ g ∷ h ∷ j ∷ x ∷ v) m ev t = clash (cc)

  halts_0 : test0 a ≡ false → 0 ≡ q → Halts globe_child 4 given q
  halts_0 p z =
      subst (Halts globe_child 4 given) z
      (record {
        inside = omega arith;
        before = (23 ∷ 0 ∷ 0 ∷ 0 ∷ [], pole true, refl, refl);
        no_further = λ v m ev t.
            (let u = agrees 1 v m ev t in
            let x = u.4.zeroth in
            let y : u.0 ≡ a = first_of u.0 a [] [] u.5 in
            clash (let z : test0 a ≡ true = ap test0 (sym y) ∙ x in cc));
      })

  halts_1 : test0 a ≡ true → test1 b ≡ false → 1 ≡ q → Halts globe_child 4 given q
  halts_1 o p z =
      let g = goes_on a 0 0 o refl refl in
      subst (Halts globe_child 4 given) z
      (record {
        inside = omega arith;
        before = (a ∷ 0 ∷ 0 ∷ 0 ∷ [], g.0, g.1, refl);
        no_further = λ v m ev t.
            (let u = agrees 2 v m ev t in
            let x = u.4.first in
            let w = u.5 in
            let y : u.1 ≡ b = cc in
            clash (let z : test1 b ≡ true = ap test1 (sym y) ∙ x in cc));
      })

  halts_2 : test0 a ≡ true → test1 b ≡ true → test2 b c ≡ false → 2 ≡ q → Halts globe_child 4 given q
  halts_2 o p r z =
      let k : 10 * b ≤ 60 = leb-true _ 60 p in
      let g = goes_on a b 0 o p (le-leb (10 * b + 0) 60 (omega arith)) in
      subst (Halts globe_child 4 given) z
      (record {
        inside = omega arith;
        before = (a ∷ b ∷ 0 ∷ last_digit (10 * b + 0) ∷ [], g.0, g.1, refl);
        no_further = λ v m ev t.
            (let u = agrees 3 v m ev t in
            let x = u.4.second in
            let w = u.5 in
            let y : u.1 ≡ b = cc in
            let y2 : u.2 ≡ c = cc in
            clash (let z : test2 b c ≡ true = ap (λ (k : ℕ). test2 b k) (sym y2) ∙ ap (λ (k : ℕ). test2 k u.2) (sym y) ∙ x in cc));
      })

  halts_3 : test0 a ≡ true → test1 b ≡ true → test2 b c ≡ true → 3 ≡ q → Halts globe_child 4 given q
  halts_3 o p r z =
      let g = goes_on a b c o p r in
      subst (Halts globe_child 4 given) z
      (record {
        inside = omega arith;
        before = (a ∷ b ∷ c ∷ last_digit (10 * b + c) ∷ [], g.0, g.1, refl);
        no_further = λ v m ev t. last_halts globe_child given v q 3 m refl (globe_sized v m ev) e ev t;
      })

  tail_place : (z : Bool) → cond z (guard 3 (eqb d 0) (ok (pole (eqb a 23)))) (guard 3 (leb 10 d && ltb (d - 10) 22) (ok (sheet (eqb a 23) (10 * b + c) (d - 10)))) ≡ bad q → 3 ≡ q
  tail_place true t = elim (guard_bad 3 (eqb d 0) (ok (pole (eqb a 23))) q t) [
    | inl h ↦ h.1
    | inr h ↦ clash (let z = h.1 in cc)
  ]
  tail_place false t = elim (guard_bad 3 (leb 10 d && ltb (d - 10) 22) (ok (sheet (eqb a 23) (10 * b + c) (d - 10))) q t) [
    | inl h ↦ h.1
    | inr h ↦ clash (let z = h.1 in cc)
  ]

  four_halts : Halts globe_child 4 given q
  four_halts = elim (guard_bad 0 (test0 a) (guard 1 (test1 b) (guard 2 (test2 b c) (tail3 a b c d))) q e) [
    | inl h ↦ halts_0 h.0 h.1
    | inr h ↦ elim (guard_bad 1 (test1 b) (guard 2 (test2 b c) (tail3 a b c d)) q h.1) [
      | inl i ↦ halts_1 h.0 i.0 i.1
      | inr i ↦ elim (guard_bad 2 (test2 b c) (tail3 a b c d) q i.1) [
        | inl j ↦ halts_2 h.0 i.0 j.0 j.1
        | inr j ↦ halts_3 h.0 i.0 j.0 (tail_place (eqb (10 * b + c) 0) j.1)
      ]
    ]
  ]

pub globe_halts : (w : List ℕ) (q k : ℕ) → k ≡ 4 → length w ≡ k → globe_child w ≡ bad q → Halts globe_child k w q
globe_halts [] q k ek l e = absurd (omega arith)
globe_halts (a ∷ []) q k ek l e = absurd (omega arith)
globe_halts (a ∷ b ∷ []) q k ek l e = absurd (omega arith)
globe_halts (a ∷ b ∷ c ∷ []) q k ek l e = absurd (omega arith)
globe_halts (a ∷ b ∷ c ∷ d ∷ []) q k ek l e = subst (λ (x : ℕ). Halts globe_child x (a ∷ b ∷ c ∷ d ∷ []) q) (sym ek) (four_halts a b c d q e)
globe_halts (a ∷ b ∷ c ∷ d ∷ x ∷ w) q k ek l e = absurd (omega arith)
