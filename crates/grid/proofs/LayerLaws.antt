-- The laws of one step for layers, over any list of radices that passes one test.
-- Assumes nothing.
use Rattle.std.proofs.Common.{◌≡◌, ℕ, ◌+◌, ◌-◌, ◌*◌, ◌/◌, ◌%◌, ◌<◌, ◌≤◌, Bool, true, false, ◌&&◌, eqb, ltb, leb, List, [], ◌∷◌, length, take, ℤ, pos, negsuc, sym, refl, ap, ◌∙◌, subst, inl, inr, lt_of_lt_of_le, div-le_self, arith, ltb-true, lt-ltb, eqb-true, le-leb, leb-true}
use Rattle.grid.specs.Units.{side, index}
use Rattle.grid.specs.Tree.{ok, bad, guard}
use Rattle.grid.specs.Cells.{Within}
use Rattle.grid.specs.Layers.{rise, sign, Stack, all, part, stack_digits, all_child, part_child, stack_child, Radix, layers, floor_of, thickness_of}
use Rattle.grid.proofs.Cut.{clash, Below, cut_held, cut_only, cut_below, cut_end, and_true, guard_ok, guard_bad, ok_inj, below}
use Rattle.grid.proofs.Laws.{Laws, Halts}
use Rattle.grid.proofs.Step.{less_zero}
use Rattle.grid.proofs.Halting.{last_halts}

abbrev pub fits_part : List Radix → ℕ → Bool
fits_part [] n = ltb 0 n
fits_part (t ∷ ts) n =
    eqb 1 t.characters && ((ltb 0 t.radix && leb t.radix 32) && (eqb (t.radix * (n / t.radix)) n && (ltb 0 (n / t.radix) && fits_part ts (n / t.radix))))

abbrev pub fits_all : List Radix → ℕ → Bool
fits_all [] n = ltb 0 n
fits_all (t ∷ ts) n =
    eqb 3 t.characters && ((ltb 0 t.radix && leb t.radix 100) && (eqb (t.radix * (n / t.radix)) n && (ltb 0 (n / t.radix) && fits_part ts (n / t.radix))))

-- what the test says of one level, of k characters, at most m of them
record Even (k m : ℕ) (t : Radix) (ts : List Radix) (n : ℕ) : Type 0 where
  characters : k ≡ t.characters
  more : 0 < t.radix
  most : t.radix ≤ m
  whole : t.radix * (n / t.radix) ≡ n
  some : 0 < n / t.radix
  rest : fits_part ts (n / t.radix) ≡ true

even_of : (k m : ℕ) (t : Radix) (ts : List Radix) (n : ℕ) → (eqb k t.characters && ((ltb 0 t.radix && leb t.radix m) && (eqb (t.radix * (n / t.radix)) n && (ltb 0 (n / t.radix) && fits_part ts (n / t.radix))))) ≡ true → Even k m t ts n
even_of k m t ts n e =
    let a = and_true (eqb k t.characters) _ e in
    let b = and_true (ltb 0 t.radix && leb t.radix m) _ a.1 in
    let b2 = and_true (ltb 0 t.radix) _ b.0 in
    let c = and_true (eqb (t.radix * (n / t.radix)) n) _ b.1 in
    let d = and_true (ltb 0 (n / t.radix)) _ c.1 in
    record { characters = eqb-true k _ a.0; more = ltb-true 0 _ b2.0; most = leb-true _ m b2.1; whole = eqb-true _ n c.0; some = ltb-true 0 _ d.0; rest = d.1 }

module _ (top : ℕ) where
  pub record InPart (a : Bool) (low n : ℕ) (z : ℤ) : Type 0 where
    pub on : index z < top
    pub sees : side z ≡ a
    pub from : low ≤ rise top z
    pub to : rise top z < low + n

  abbrev pub InStack : Stack → ℤ → Type 0
  InStack all z = index z < top
  InStack (part a low n) z = InPart a low n z

  pub record GoodPart (ts : List Radix) (low n : ℕ) : Type 0 where
    pub even : fits_part ts n ≡ true
    pub fit : low + n ≤ top

  abbrev pub GoodStack : List Radix → Stack → Type 0
  GoodStack ts all = fits_all ts top ≡ true
  GoodStack ts (part a low n) = GoodPart ts low n

  pub rise_below : (z : ℤ) → index z < top → rise top z < top
  rise_below (pos n) h = h
  rise_below (negsuc n) h = omega arith

  sign_back : (s : ℕ) → s < 2 → sign (eqb s 0) ≡ s
  sign_back s h = eqb-true _ s (below (λ s. eqb (sign (eqb s 0)) s) 2 s refl h)

  pub sign_small : (b : Bool) → ltb (sign b) 2 ≡ true
  sign_small true = refl
  sign_small false = refl

  sign_zero : (b : Bool) → eqb (sign b) 0 ≡ b
  sign_zero true = refl
  sign_zero false = refl

  pub all_read : (b : Bool) (r d : ℕ) → d < r → all_child top r (sign b ∷ (d / 10) ∷ (d % 10) ∷ []) ≡ ok (part b (d * (top / r)) (top / r))
  all_read b r d h =
      let e : 10 * (d / 10) + d % 10 ≡ d = omega arith in
      rw (sign_small b, sign_zero b, e, lt-ltb (10 * (d / 10)) r (omega arith), le-leb (d % 10) 9 (omega arith), lt-ltb d r h) refl

  pub here : (t : Radix) (ts : List Radix) (n : Stack) (z : ℤ) → GoodStack (t ∷ ts) n → InStack n z → (m : Stack) × (stack_child top t.radix n (stack_digits top t.radix n z) ≡ ok m) × InStack m z
  here t ts all z g i =
      let E = even_of 3 100 t ts top g in
      let l = top / t.radix in
      let q : (rise top z - 0) / l ≡ rise top z / l = less_zero (rise top z) l in
      let u : 0 ≤ rise top z = omega arith in
      let v : rise top z < 0 + top = let k : rise top z < top = rise_below z i in omega (arith, k) in
      let h : rise top z / l < t.radix = subst (λ (x : ℕ). x < t.radix) q (cut_below 0 l E.some t.radix top (rise top z) E.whole u v) in
      let k = cut_held 0 l E.some (rise top z) u in
      let f : 0 + (rise top z - 0) / l * l ≤ rise top z = k.from in
      let w : rise top z < 0 + (rise top z - 0) / l * l + l = k.to in
      let qq : (rise top z - 0) / l * l ≡ rise top z / l * l = ap (λ (x : ℕ). x * l) q in (
        part (side z) (rise top z / l * l) l,
        all_read (side z) t.radix (rise top z / l) h,
        record { on = i; sees = refl; from = omega (arith, f, qq); to = omega (arith, w, qq) },
      )
  here t ts (part a low n) z g i =
      let E = even_of 1 32 t ts n g.even in
      let l = n / t.radix in
      let h : (rise top z - low) / l < t.radix = cut_below low l E.some t.radix n (rise top z) E.whole i.from i.to in
      let k = cut_held low l E.some (rise top z) i.from in
      (part a (low + (rise top z - low) / l * l) l, rw (lt-ltb _ _ h) refl, record { on = i.on; sees = i.sees; from = k.from; to = k.to })

  -- what digits that are read say
  record First (r s a b : ℕ) (m : Stack) : Type 0 where
    two : s < 2
    unit : b ≤ 9
    most : 10 * a + b < r
    node : part (eqb s 0) ((10 * a + b) * (top / r)) (top / r) ≡ m

  first_of : (r s a b : ℕ) (m : Stack) → all_child top r (s ∷ a ∷ b ∷ []) ≡ ok m → First r s a b m
  first_of r s a b m e =
      let g = guard_ok 0 (ltb s 2) _ m e in
      let h = guard_ok 1 (ltb (10 * a) r) _ m g.1 in
      let i = guard_ok 2 (leb b 9 && ltb (10 * a + b) r) _ m h.1 in
      let j = and_true (leb b 9) (ltb (10 * a + b) r) i.0 in
      record { two = ltb-true s 2 g.0; unit = leb-true b 9 j.0; most = ltb-true _ r j.1; node = ok_inj i.1 }

  pub only : (t : Radix) (ts : List Radix) (n : Stack) (w : List ℕ) (m : Stack) (z : ℤ) → GoodStack (t ∷ ts) n → stack_child top t.radix n w ≡ ok m → InStack m z → InStack n z × (stack_digits top t.radix n z ≡ w)
  only t ts all [] m z g e i = clash (cc)
  only t ts all (s ∷ []) m z g e i = clash (cc)
  only t ts all (s ∷ a ∷ []) m z g e i = clash (cc)
  only t ts all (s ∷ a ∷ b ∷ []) m z g e i =
      let E = even_of 3 100 t ts top g in
      let f = first_of t.radix s a b m e in
      let l = top / t.radix in
      let j : InPart (eqb s 0) ((10 * a + b) * l) l z = subst (λ (x : Stack). InStack x z) (sym f.node) i in
      let un : b ≤ 9 = f.unit in
      let fr : (10 * a + b) * l ≤ rise top z = j.from in
      let to : rise top z < (10 * a + b) * l + l = j.to in
      let d : rise top z / l ≡ 10 * a + b = sym (less_zero (rise top z) l) ∙ cut_only 0 l E.some (10 * a + b) (rise top z) (record { from = omega (arith, fr); to = omega (arith, to) }) in
      let tens : (10 * a + b) / 10 ≡ a = omega arith in
      let ones : (10 * a + b) % 10 ≡ b = omega arith in
      (j.on, rw (d, j.sees, sign_back s f.two, tens, ones) refl)
  only t ts all (s ∷ a ∷ b ∷ x ∷ w) m z g e i = clash (cc)
  only t ts (part a low n) [] m z g e i = clash (cc)
  only t ts (part a low n) (v ∷ []) m z g e i =
      let E = even_of 1 32 t ts n g.even in
      let l = n / t.radix in
      let q = guard_ok 0 (ltb v t.radix) _ m e in
      let j : InPart a (low + v * l) l z = subst (λ (x : Stack). InStack x z) (sym (ok_inj q.1)) i in
      let en : v * l + l ≤ n = cut_end v t.radix l n (ltb-true v _ q.0) E.whole in
      let d : (rise top z - low) / l ≡ v = cut_only low l E.some v (rise top z) (record { from = j.from; to = j.to }) in
      (record { on = j.on; sees = j.sees; from = omega (arith, j.from); to = omega (arith, en, j.to) }, rw d refl)
  only t ts (part a low n) (v ∷ x ∷ w) m z g e i = clash (cc)

  pub good : (t : Radix) (ts : List Radix) (n : Stack) (w : List ℕ) (m : Stack) → GoodStack (t ∷ ts) n → stack_child top t.radix n w ≡ ok m → GoodStack ts m
  good t ts all [] m g e = clash (cc)
  good t ts all (s ∷ []) m g e = clash (cc)
  good t ts all (s ∷ a ∷ []) m g e = clash (cc)
  good t ts all (s ∷ a ∷ b ∷ []) m g e =
      let E = even_of 3 100 t ts top g in
      let f = first_of t.radix s a b m e in
      subst (λ (x : Stack). GoodStack ts x) f.node (record { even = E.rest; fit = cut_end (10 * a + b) t.radix (top / t.radix) top f.most E.whole })
  good t ts all (s ∷ a ∷ b ∷ x ∷ w) m g e = clash (cc)
  good t ts (part a low n) [] m g e = clash (cc)
  good t ts (part a low n) (v ∷ []) m g e =
      let E = even_of 1 32 t ts n g.even in
      let q = guard_ok 0 (ltb v t.radix) _ m e in
      let en : v * (n / t.radix) + n / t.radix ≤ n = cut_end v t.radix (n / t.radix) n (ltb-true v _ q.0) E.whole in
      let fi : low + n ≤ top = g.fit in
      subst (λ (x : Stack). GoodStack ts x) (ok_inj q.1) (record { even = E.rest; fit = omega (arith, en, fi) })
  good t ts (part a low n) (v ∷ x ∷ w) m g e = clash (cc)

  all_sized : (r : ℕ) (w : List ℕ) (m : Stack) → all_child top r w ≡ ok m → length w ≡ 3
  all_sized r [] m e = clash (cc)
  all_sized r (s ∷ []) m e = clash (cc)
  all_sized r (s ∷ a ∷ []) m e = clash (cc)
  all_sized r (s ∷ a ∷ b ∷ []) m e = refl
  all_sized r (s ∷ a ∷ b ∷ x ∷ w) m e = clash (cc)

  part_sized : (r : ℕ) (a : Bool) (low n : ℕ) (w : List ℕ) (m : Stack) → part_child r a low n w ≡ ok m → length w ≡ 1
  part_sized r a low n [] m e = clash (cc)
  part_sized r a low n (v ∷ []) m e = refl
  part_sized r a low n (v ∷ x ∷ w) m e = clash (cc)

  pub sized : (t : Radix) (ts : List Radix) (n : Stack) (w : List ℕ) (m : Stack) → GoodStack (t ∷ ts) n → stack_child top t.radix n w ≡ ok m → length w ≡ t.characters
  sized t ts all w m g e = all_sized t.radix w m e ∙ (even_of 3 100 t ts top g).characters
  sized t ts (part a low n) w m g e = part_sized t.radix a low n w m e ∙ (even_of 1 32 t ts n g.even).characters

  pub small : (t : Radix) (ts : List Radix) (n : Stack) (w : List ℕ) (m : Stack) → GoodStack (t ∷ ts) n → stack_child top t.radix n w ≡ ok m → Below 32 w
  small t ts all [] m g e = clash (cc)
  small t ts all (s ∷ []) m g e = clash (cc)
  small t ts all (s ∷ a ∷ []) m g e = clash (cc)
  small t ts all (s ∷ a ∷ b ∷ []) m g e =
      let E = even_of 3 100 t ts top g in
      let f = first_of t.radix s a b m e in
      let mo : t.radix ≤ 100 = E.most in
      (omega (arith, f.two), (omega (arith, mo, f.most), (omega (arith, f.unit), tt)))
  small t ts all (s ∷ a ∷ b ∷ x ∷ w) m g e = clash (cc)
  small t ts (part a low n) [] m g e = clash (cc)
  small t ts (part a low n) (v ∷ []) m g e =
      let E = even_of 1 32 t ts n g.even in
      let q = guard_ok 0 (ltb v t.radix) _ m e in
      let h : v < t.radix = ltb-true v _ q.0 in
      (omega (arith, E.most), tt)
  small t ts (part a low n) (v ∷ x ∷ w) m g e = clash (cc)

  pub part_positive : (ts : List Radix) (n : ℕ) → fits_part ts n ≡ true → 0 < n
  part_positive [] n e = ltb-true 0 n e
  part_positive (t ∷ ts) n e = lt_of_lt_of_le (even_of 1 32 t ts n e).some (div-le_self n _)

  all_positive : (ts : List Radix) (n : ℕ) → fits_all ts n ≡ true → 0 < n
  all_positive [] n e = ltb-true 0 n e
  all_positive (t ∷ ts) n e = lt_of_lt_of_le (even_of 3 100 t ts n e).some (div-le_self n _)

  pub some : (ts : List Radix) (n : Stack) → GoodStack ts n → (z : ℤ) × InStack n z
  some ts all g = (pos 0, all_positive ts top g)
  some ts (part true low n) g =
      let p : 0 < n = part_positive ts n g.even in
      let f : low + n ≤ top = g.fit in
      (pos low, record { on = omega arith; sees = refl; from = omega arith; to = omega arith })
  some ts (part false low n) g =
      let p : 0 < n = part_positive ts n g.even in
      let f : low + n ≤ top = g.fit in
      (negsuc (top - 1 - low), record { on = omega arith; sees = refl; from = omega arith; to = omega arith })

  -- ---- a refusal's place

  part_halts : (r : ℕ) (a : Bool) (low n : ℕ) (w : List ℕ) (p : ℕ) → 0 < r → length w ≡ 1 → part_child r a low n w ≡ bad p → Halts (part_child r a low n) 1 w p
  part_halts r a low n [] p h l e = absurd (omega arith)
  part_halts r a low n (v ∷ []) p h l e = elim (guard_bad 0 (ltb v r) (ok (part a (low + v * (n / r)) (n / r))) p e) [
    | inl q ↦ subst (Halts (part_child r a low n) 1 (v ∷ [])) q.1
        (record {
          inside = omega arith;
          before = (0 ∷ [], part a (low + 0 * (n / r)) (n / r), rw (lt-ltb 0 r h) refl, refl);
          no_further = λ x m ex t. last_halts (part_child r a low n) (v ∷ []) x p 0 m refl (part_sized r a low n x m ex) e ex t;
        })
    | inr q ↦ clash (let z = q.1 in cc)
  ]
  part_halts r a low n (v ∷ x ∷ w) p h l e = absurd (omega arith)

  module _ (r s a b p : ℕ) (few : 0 < r) (e : all_child top r (s ∷ a ∷ b ∷ []) ≡ bad p) where
    abbrev given : List ℕ
    given = s ∷ a ∷ b ∷ []

    abbrev test2 : ℕ → ℕ → Bool
    test2 a b = leb b 9 && ltb (10 * a + b) r

    abbrev node : Stack
    node = part (eqb s 0) ((10 * a + b) * (top / r)) (top / r)

    -- digits that pass the first tests go on
    all_on : (s a : ℕ) → ltb s 2 ≡ true → ltb (10 * a) r ≡ true → all_child top r (s ∷ a ∷ 0 ∷ []) ≡ ok (part (eqb s 0) ((10 * a + 0) * (top / r)) (top / r))
    all_on s a p q = rw (p, q, lt-ltb (10 * a + 0) r (let z : 10 * a < r = ltb-true _ r q in omega arith)) refl

    -- an accepted code that agrees with the first digits passes their tests
    all_agrees : (k : ℕ) (v : List ℕ) (m : Stack) → all_child top r v ≡ ok m → take k v ≡ take k given
        → (f : ℕ) × (g : ℕ) × (h : ℕ) × (ltb f 2 ≡ true) × (ltb (10 * g) r ≡ true) × (take k (f ∷ g ∷ h ∷ []) ≡ take k given)
    all_agrees k [] m ev t = clash (cc)
    all_agrees k (f ∷ []) m ev t = clash (cc)
    all_agrees k (f ∷ g ∷ []) m ev t = clash (cc)
    all_agrees k (f ∷ g ∷ h ∷ []) m ev t =
        let x = guard_ok 0 (ltb f 2) _ m ev in
        let y = guard_ok 1 (ltb (10 * g) r) _ m x.1 in
        (f, g, h, x.0, y.0, t)
    all_agrees k (f ∷ g ∷ h ∷ x ∷ v) m ev t = clash (cc)

    all_halts : Halts (all_child top r) 3 given p
    all_halts = elim (guard_bad 0 (ltb s 2) (guard 1 (ltb (10 * a) r) (guard 2 (test2 a b) (ok node))) p e) [
      | inl h ↦ subst (Halts (all_child top r) 3 given) h.1
          (record {
            inside = omega arith;
            before = (0 ∷ 0 ∷ 0 ∷ [], _, all_on 0 0 refl (lt-ltb 0 r few), refl);
            no_further = λ v m ev t.
                (let u = all_agrees 1 v m ev t in
                let x = u.5 in
                let y : u.0 ≡ s = cc in
                let f = h.0 in
                clash (let z : ltb s 2 ≡ true = ap (λ (k : ℕ). ltb k 2) (sym y) ∙ u.3 in cc));
          })
      | inr h ↦ elim (guard_bad 1 (ltb (10 * a) r) (guard 2 (test2 a b) (ok node)) p h.1) [
        | inl i ↦ subst (Halts (all_child top r) 3 given) i.1
            (record {
              inside = omega arith;
              before = (s ∷ 0 ∷ 0 ∷ [], _, all_on s 0 h.0 (lt-ltb 0 r few), refl);
              no_further = λ v m ev t.
                  (let u = all_agrees 2 v m ev t in
                  let x = u.5 in
                  let y : u.1 ≡ a = cc in
                  let f = i.0 in
                  clash (let z : ltb (10 * a) r ≡ true = ap (λ (k : ℕ). ltb (10 * k) r) (sym y) ∙ u.4 in cc));
            })
        | inr i ↦ elim (guard_bad 2 (test2 a b) (ok node) p i.1) [
          | inl j ↦ subst (Halts (all_child top r) 3 given) j.1
              (record {
                inside = omega arith;
                before = (s ∷ a ∷ 0 ∷ [], _, all_on s a h.0 i.0, refl);
                no_further = λ v m ev t. last_halts (all_child top r) given v p 2 m refl (all_sized r v m ev) e ev t;
              })
          | inr j ↦ clash (let z = j.1 in cc)
        ]
      ]
    ]

  three_halts : (r : ℕ) (w : List ℕ) (p : ℕ) → 0 < r → length w ≡ 3 → all_child top r w ≡ bad p → Halts (all_child top r) 3 w p
  three_halts r [] p h l e = absurd (omega arith)
  three_halts r (s ∷ []) p h l e = absurd (omega arith)
  three_halts r (s ∷ a ∷ []) p h l e = absurd (omega arith)
  three_halts r (s ∷ a ∷ b ∷ []) p h l e = all_halts r s a b p h e
  three_halts r (s ∷ a ∷ b ∷ x ∷ w) p h l e = absurd (omega arith)

  pub halts : (t : Radix) (ts : List Radix) (n : Stack) (w : List ℕ) (p : ℕ) → GoodStack (t ∷ ts) n → length w ≡ t.characters → stack_child top t.radix n w ≡ bad p → Halts (stack_child top t.radix n) t.characters w p
  halts t ts all w p g l e =
      let E = even_of 3 100 t ts top g in
      subst (λ (k : ℕ). Halts (all_child top t.radix) k w p) E.characters (three_halts t.radix w p E.more (l ∙ sym E.characters) e)
  halts t ts (part a low n) w p g l e =
      let E = even_of 1 32 t ts n g.even in
      subst (λ (k : ℕ). Halts (part_child t.radix a low n) k w p) E.characters (part_halts t.radix a low n w p E.more (l ∙ sym E.characters) e)

  abbrev pub layer_laws : Laws (layers top)
  layer_laws = record { In = InStack; Good = GoodStack; here = here; only = only; good = good; sized = sized; small = small; some = some; stops = halts }

-- ---- a stack's layers are those from its floor on

pub stack_in : (top : ℕ) (n : Stack) (z : ℤ) → top ≤ 2147483648 → GoodStack top [] n → index z < top → Within (floor_of top n) (thickness_of top n) z → InStack top n z
stack_in top all z t g o c = o
stack_in top (part true low n) (pos k) t g o c = record { on = o; sees = refl; from = omega (arith, c.starts); to = omega (arith, c.ends) }
stack_in top (part true low n) (negsuc k) t g o c = absurd (omega (arith, c.starts))
stack_in top (part false low n) (pos k) t g o c = let f : low + n ≤ top = g.fit in absurd (omega (arith, c.ends))
stack_in top (part false low n) (negsuc k) t g o c =
    let f : low + n ≤ top = g.fit in
    record { on = o; sees = refl; from = omega (arith, c.starts); to = omega (arith, c.ends) }

pub stack_on : (top : ℕ) (n : Stack) (z : ℤ) → InStack top n z → index z < top
stack_on top all z i = i
stack_on top (part a low n) z i = i.on

pub stack_covers : (top : ℕ) (n : Stack) (z : ℤ) → top ≤ 2147483648 → GoodStack top [] n → InStack top n z → Within (floor_of top n) (thickness_of top n) z
stack_covers top all (pos k) t g i = record { starts = omega arith; ends = omega arith }
stack_covers top all (negsuc k) t g i = record { starts = omega arith; ends = omega arith }
stack_covers top (part true low n) (pos k) t g i = record { starts = omega (arith, i.from); ends = omega (arith, i.to) }
stack_covers top (part true low n) (negsuc k) t g i = clash (let e = i.sees in cc)
stack_covers top (part false low n) (pos k) t g i = clash (let e = i.sees in cc)
stack_covers top (part false low n) (negsuc k) t g i =
    let f : low + n ≤ top = g.fit in
    let o : k < top = i.on in
    record { starts = omega (arith, i.from, i.to); ends = omega (arith, i.from, i.to) }
