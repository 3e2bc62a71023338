-- Two trees side by side obey the laws of one step where each does.
-- Assumes nothing.
use Rattle.std.proofs.Common.{◌≡◌, ℕ, suc, ◌+◌, ◌-◌, ◌<◌, ◌≤◌, min, Bool, true, false, ◌&&◌, ltb, leb, ◌⊎◌, List, [], ◌∷◌, ◌++◌, length, get_or, take, sym, refl, ap, ◌∙◌, subst, inl, inr, arith, length-append, take-append-drop, take_at, drop_at, ltb-true, leb-false, leb-true}
use Rattle.grid.specs.Tree.{Tree, Read, ok, bad}
use Rattle.grid.specs.Both.{mix, first_of, second_of, first_place, second_place, joined, Pair, both}
use Rattle.grid.proofs.Cut.{clash, Below, below_append, and_true}
use Rattle.grid.proofs.Laws.{Laws, Halts}
use Rattle.grid.proofs.Places.{
  agree_at,
  first_before,
  second_before,
  first_inside,
  second_inside,
  first_length,
  second_length,
  both_agree,
  first_agree,
  second_agree,
}

pub first_mix : (q : Bool) (k : ℕ) (a b : List ℕ) → length a ≡ k → (0 < length a) × (0 < length b) → first_of q k (mix q a b) ≡ a
first_mix false k a b e h = take_at a b k e
first_mix true k [] b e h = let z : 0 < 0 = h.0 in absurd (omega arith)
first_mix true k (x ∷ a) [] e h = let z : 0 < 0 = h.1 in absurd (omega arith)
first_mix true k (x ∷ a) (y ∷ b) e h = let s : suc (length a) ≡ k = e in ap (λ t. x ∷ t) (take_at a b (k - 1) (omega arith))

pub second_mix : (q : Bool) (k : ℕ) (a b : List ℕ) → length a ≡ k → (0 < length a) × (0 < length b) → second_of q k (mix q a b) ≡ b
second_mix false k a b e h = drop_at a b k e
second_mix true k [] b e h = let z : 0 < 0 = h.0 in absurd (omega arith)
second_mix true k (x ∷ a) [] e h = let z : 0 < 0 = h.1 in absurd (omega arith)
second_mix true k (x ∷ a) (y ∷ b) e h = let s : suc (length a) ≡ k = e in ap (λ t. y ∷ t) (drop_at a b (k - 1) (omega arith))

mix_back : (q : Bool) (k : ℕ) (w : List ℕ) → (0 < length (first_of q k w)) × (0 < length (second_of q k w)) → mix q (first_of q k w) (second_of q k w) ≡ w
mix_back false k w h = take-append-drop k w
mix_back true k [] h = let z : 0 < 0 = h.0 in absurd (omega arith)
mix_back true k (x ∷ []) h = let z : 0 < 0 = h.1 in absurd (omega arith)
mix_back true k (x ∷ y ∷ w) h = ap (λ t. x ∷ y ∷ t) (take-append-drop (k - 1) w)

pub length_mix : (q : Bool) (a b : List ℕ) → length (mix q a b) ≡ length a + length b
length_mix false a b = length-append a b
length_mix true [] b = omega arith
length_mix true (x ∷ a) [] = omega arith
length_mix true (x ∷ a) (y ∷ b) = let e : length (a ++ b) ≡ length a + length b = length-append a b in omega arith

below_mix : (k : ℕ) (q : Bool) (a b : List ℕ) → Below k a → Below k b → Below k (mix q a b)
below_mix k false a b p r = below_append k a b p r
below_mix k true [] b p r = r
below_mix k true (x ∷ a) [] p r = p
below_mix k true (x ∷ a) (y ∷ b) p r = (p.0, (r.0, below_append k a b p.1 r.1))

joined_ok : {A B : Type 0} (q : Bool) (k : ℕ) (a : Read A) (b : Read B) (m : A × B) → joined q k a b ≡ ok m → (a ≡ ok m.0) × (b ≡ ok m.1)
joined_ok {A} {B} q k (ok a) (ok b) m e =
    let z : ◌≡◌ {A = A × B} (a, b) m = cc in
    (ap (λ (x : A × B). ok x.0) z, ap (λ (x : A × B). ok x.1) z)
joined_ok q k (ok a) (bad p) m e = clash (cc)
joined_ok q k (bad p) (ok b) m e = clash (cc)
joined_ok q k (bad p) (bad r) m e = clash (cc)

least_of : (x y : ℕ) → (x ≤ min x y) ⊎ (y ≤ min x y)
least_of x y = go (leb x y) refl
  where
    go : (q : Bool) → leb x y ≡ q → (x ≤ min x y) ⊎ (y ≤ min x y)
    go true e = let h : x ≤ y = leb-true x y e in inl (omega arith)
    go false e = let h : y < x = leb-false x y e in inr (omega arith)

-- each level adds a digit of each
abbrev pub each_adds : (A B : Tree) → List (Pair A B) → Bool
each_adds A B [] = true
each_adds A B (t ∷ ts) = (ltb 0 (A.size t.one) && ltb 0 (B.size t.two)) && each_adds A B ts

pub adds : (A B : Tree) (t : Pair A B) (ts : List (Pair A B)) → each_adds A B (t ∷ ts) ≡ true → (0 < A.size t.one) × (0 < B.size t.two) × (each_adds A B ts ≡ true)
adds A B t ts e =
    let a = and_true (ltb 0 (A.size t.one) && ltb 0 (B.size t.two)) (each_adds A B ts) e in
    let b = and_true (ltb 0 (A.size t.one)) (ltb 0 (B.size t.two)) a.0 in
    (ltb-true 0 _ b.0, ltb-true 0 _ b.1, a.1)

abbrev pub ones : (A B : Tree) → List (Pair A B) → List A.Level
ones A B [] = []
ones A B (t ∷ ts) = t.one ∷ ones A B ts

abbrev pub twos : (A B : Tree) → List (Pair A B) → List B.Level
twos A B [] = []
twos A B (t ∷ ts) = t.two ∷ twos A B ts

module _ (A B : Tree) (LA : Laws A) (LB : Laws B) where
  abbrev pub InBoth : A.Node × B.Node → A.Point × B.Point → Type 0
  InBoth n s = LA.In n.0 s.0 × LB.In n.1 s.1

  abbrev pub GoodBoth : List (Pair A B) → A.Node × B.Node → Type 0
  GoodBoth ts n = LA.Good (ones A B ts) n.0 × LB.Good (twos A B ts) n.1 × (each_adds A B ts ≡ true)

  -- digits that are read: each one's part is read, and they are made of the two parts
  pub parts : (t : Pair A B) (ts : List (Pair A B)) (n : A.Node × B.Node) (w : List ℕ) (m : A.Node × B.Node) → GoodBoth (t ∷ ts) n → (both A B).child t n w ≡ ok m
      → (A.child t.one n.0 (first_of t.lead (A.size t.one) w) ≡ ok m.0)
      × (B.child t.two n.1 (second_of t.lead (A.size t.one) w) ≡ ok m.1)
      × (length (first_of t.lead (A.size t.one) w) ≡ A.size t.one)
      × (length (second_of t.lead (A.size t.one) w) ≡ B.size t.two)
      × (mix t.lead (first_of t.lead (A.size t.one) w) (second_of t.lead (A.size t.one) w) ≡ w)
  parts t ts n w m g e =
      let j = joined_ok t.lead (A.size t.one) (A.child t.one n.0 (first_of t.lead (A.size t.one) w)) (B.child t.two n.1 (second_of t.lead (A.size t.one) w)) m e in
      let a = LA.sized t.one (ones A B ts) n.0 (first_of t.lead (A.size t.one) w) m.0 g.0 j.0 in
      let b = LB.sized t.two (twos A B ts) n.1 (second_of t.lead (A.size t.one) w) m.1 g.1 j.1 in
      (j.0, j.1, a, b, mix_back t.lead (A.size t.one) w (subst (λ (x : ℕ). 0 < x) (sym a) (adds A B t ts g.2).0, subst (λ (x : ℕ). 0 < x) (sym b) (adds A B t ts g.2).1))

  pub both_here : (t : Pair A B) (ts : List (Pair A B)) (n : A.Node × B.Node) (s : A.Point × B.Point) → GoodBoth (t ∷ ts) n → InBoth n s
      → (m : A.Node × B.Node) × ((both A B).child t n ((both A B).digits t n s) ≡ ok m) × InBoth m s
  both_here t ts n s g i =
      let a = LA.here t.one (ones A B ts) n.0 s.0 g.0 i.0 in
      let b = LB.here t.two (twos A B ts) n.1 s.1 g.1 i.1 in
      let da = A.digits t.one n.0 s.0 in
      let db = B.digits t.two n.1 s.1 in
      let la : length da ≡ A.size t.one = LA.sized t.one (ones A B ts) n.0 da a.0 g.0 a.1 in
      let lb : length db ≡ B.size t.two = LB.sized t.two (twos A B ts) n.1 db b.0 g.1 b.1 in
      let l : (0 < length da) × (0 < length db) = (subst (λ (x : ℕ). 0 < x) (sym la) (adds A B t ts g.2).0, subst (λ (x : ℕ). 0 < x) (sym lb) (adds A B t ts g.2).1) in (
        (a.0, b.0),
        rw (first_mix t.lead (A.size t.one) da db la l, second_mix t.lead (A.size t.one) da db la l, a.1, b.1) refl,
        (a.2, b.2),
      )

  pub both_only : (t : Pair A B) (ts : List (Pair A B)) (n : A.Node × B.Node) (w : List ℕ) (m : A.Node × B.Node) (s : A.Point × B.Point) → GoodBoth (t ∷ ts) n → (both A B).child t n w ≡ ok m → InBoth m s
      → InBoth n s × ((both A B).digits t n s ≡ w)
  both_only t ts n w m s g e i =
      let p = parts t ts n w m g e in
      let a = LA.only t.one (ones A B ts) n.0 (first_of t.lead (A.size t.one) w) m.0 s.0 g.0 p.0 i.0 in
      let b = LB.only t.two (twos A B ts) n.1 (second_of t.lead (A.size t.one) w) m.1 s.1 g.1 p.1 i.1 in
      ((a.0, b.0), rw (a.1, b.1) p.4)

  pub both_good : (t : Pair A B) (ts : List (Pair A B)) (n : A.Node × B.Node) (w : List ℕ) (m : A.Node × B.Node) → GoodBoth (t ∷ ts) n → (both A B).child t n w ≡ ok m → GoodBoth ts m
  both_good t ts n w m g e =
      let p = parts t ts n w m g e in (
        LA.good t.one (ones A B ts) n.0 (first_of t.lead (A.size t.one) w) m.0 g.0 p.0,
        LB.good t.two (twos A B ts) n.1 (second_of t.lead (A.size t.one) w) m.1 g.1 p.1,
        (adds A B t ts g.2).2,
      )

  pub both_sized : (t : Pair A B) (ts : List (Pair A B)) (n : A.Node × B.Node) (w : List ℕ) (m : A.Node × B.Node) → GoodBoth (t ∷ ts) n → (both A B).child t n w ≡ ok m → length w ≡ A.size t.one + B.size t.two
  both_sized t ts n w m g e =
      let p = parts t ts n w m g e in
      sym (ap length p.4) ∙ length_mix t.lead (first_of t.lead (A.size t.one) w) (second_of t.lead (A.size t.one) w) ∙ (cc (p.2, p.3))

  pub both_small : (t : Pair A B) (ts : List (Pair A B)) (n : A.Node × B.Node) (w : List ℕ) (m : A.Node × B.Node) → GoodBoth (t ∷ ts) n → (both A B).child t n w ≡ ok m → Below 32 w
  both_small t ts n w m g e =
      let p = parts t ts n w m g e in
      let a = LA.small t.one (ones A B ts) n.0 (first_of t.lead (A.size t.one) w) m.0 g.0 p.0 in
      let b = LB.small t.two (twos A B ts) n.1 (second_of t.lead (A.size t.one) w) m.1 g.1 p.1 in
      subst (λ (x : List ℕ). Below 32 x) p.4 (below_mix 32 t.lead _ _ a b)

  pub both_some : (ts : List (Pair A B)) (n : A.Node × B.Node) → GoodBoth ts n → (s : A.Point × B.Point) × InBoth n s
  both_some ts n g =
      let a = LA.some (ones A B ts) n.0 g.0 in
      let b = LB.some (twos A B ts) n.1 g.1 in
      ((a.0, b.0), (a.1, b.1))

  -- ---- a refusal's place

  module _ (t : Pair A B) (ts : List (Pair A B)) (n : A.Node × B.Node) (w : List ℕ) (g : GoodBoth (t ∷ ts) n) (l : length w ≡ A.size t.one + B.size t.two) where
    abbrev a : ℕ
    a = A.size t.one

    abbrev b : ℕ
    b = B.size t.two

    abbrev wa : List ℕ
    wa = first_of t.lead a w

    abbrev wb : List ℕ
    wb = second_of t.lead a w

    some_a : 0 < a
    some_a = (adds A B t ts g.2).0

    some_b : 0 < b
    some_b = (adds A B t ts g.2).1

    -- two lists of digits that lead on, mixed: they lead on, and agree with w where each agrees with its part
    mixed : (p : ℕ) (va vb : List ℕ) (ma : A.Node) (mb : B.Node) → A.child t.one n.0 va ≡ ok ma → B.child t.two n.1 vb ≡ ok mb
        → ((i : ℕ) → first_place t.lead i < p → get_or va i 0 ≡ get_or wa i 0) → ((j : ℕ) → second_place t.lead a j < p → get_or vb j 0 ≡ get_or wb j 0)
        → (v : List ℕ) × (m : A.Node × B.Node) × ((both A B).child t n v ≡ ok m) × (take p v ≡ take p w)
    mixed p va vb ma mb ea eb fa fb =
        let la : length va ≡ a = LA.sized t.one (ones A B ts) n.0 va ma g.0 ea in
        let lb : length vb ≡ b = LB.sized t.two (twos A B ts) n.1 vb mb g.1 eb in
        let pos : (0 < length va) × (0 < length vb) = (subst (λ (x : ℕ). 0 < x) (sym la) some_a, subst (λ (x : ℕ). 0 < x) (sym lb) some_b) in
        let v = mix t.lead va vb in
        let x : first_of t.lead a v ≡ va = first_mix t.lead a va vb la pos in
        let y : second_of t.lead a v ≡ vb = second_mix t.lead a va vb la pos in
        let lv : length v ≡ a + b = length_mix t.lead va vb ∙ omega (arith, la, lb) in (
          v,
          (ma, mb),
          rw (x, y, ea, eb) refl,
          both_agree t.lead a b some_a some_b v w lv l p (λ i h. ap (λ (z : List ℕ). get_or z i 0) x ∙ fa i h) (λ j h. ap (λ (z : List ℕ). get_or z j 0) y ∙ fb j h),
        )

    -- digits that lead on agree no further than the first's refusal, nor than the second's
    first_stops : (p q : ℕ) → Halts (A.child t.one n.0) a wa q → first_place t.lead q ≤ p → (v : List ℕ) (m : A.Node × B.Node) → (both A B).child t n v ≡ ok m → take (suc p) v ≡ take (suc p) w → ⊥
    first_stops p q H h v m e s =
        let r = parts t ts n v m g e in
        H.no_further (first_of t.lead a v) m.0 r.0 (first_agree t.lead a b some_a some_b v w (both_sized t ts n v m g e) l p q s h H.inside)

    second_stops : (p q : ℕ) → Halts (B.child t.two n.1) b wb q → second_place t.lead a q ≤ p → (v : List ℕ) (m : A.Node × B.Node) → (both A B).child t n v ≡ ok m → take (suc p) v ≡ take (suc p) w → ⊥
    second_stops p q H h v m e s =
        let r = parts t ts n v m g e in
        H.no_further (second_of t.lead a v) m.1 r.1 (second_agree t.lead a b some_a some_b v w (both_sized t ts n v m g e) l p q s h)

    halts_a : (q : ℕ) → A.child t.one n.0 wa ≡ bad q → Halts (A.child t.one n.0) a wa q
    halts_a q e = LA.stops t.one (ones A B ts) n.0 wa q g.0 (first_length t.lead a b w some_a some_b l) e

    halts_b : (q : ℕ) → B.child t.two n.1 wb ≡ bad q → Halts (B.child t.two n.1) b wb q
    halts_b q e = LB.stops t.two (twos A B ts) n.1 wb q g.1 (second_length t.lead a b w some_a some_b l) e

    -- what stands before the first's refusal, and before the second's
    a_before : (q p : ℕ) (H : Halts (A.child t.one n.0) a wa q) → p ≤ first_place t.lead q → (i : ℕ) → first_place t.lead i < p → get_or H.before.0 i 0 ≡ get_or wa i 0
    a_before q p H h i k = agree_at q H.before.0 wa H.before.3 i (first_before t.lead i q (omega arith))

    b_before : (q p : ℕ) (H : Halts (B.child t.two n.1) b wb q) → p ≤ second_place t.lead a q → (j : ℕ) → second_place t.lead a j < p → get_or H.before.0 j 0 ≡ get_or wb j 0
    b_before q p H h j k = agree_at q H.before.0 wb H.before.3 j (second_before t.lead a j q some_a (omega arith))

    halts_joined : (ra : Read A.Node) (rb : Read B.Node) (p : ℕ) → A.child t.one n.0 wa ≡ ra → B.child t.two n.1 wb ≡ rb → joined t.lead a ra rb ≡ bad p → Halts ((both A B).child t n) (a + b) w p
    halts_joined (ok ma) (ok mb) p ea eb e = clash (cc)
    halts_joined (ok ma) (bad q) p ea eb e =
        let H = halts_b q eb in
        subst (Halts ((both A B).child t n) (a + b) w) (let z : second_place t.lead a q ≡ p = cc in z)
        (record {
          inside = second_inside t.lead a b q some_a H.inside;
          before = mixed (second_place t.lead a q) wa H.before.0 ma H.before.1 ea H.before.2 (λ i h. refl) (b_before q (second_place t.lead a q) H (omega arith));
          no_further = second_stops (second_place t.lead a q) q H (omega arith);
        })
    halts_joined (bad q) (ok mb) p ea eb e =
        let H = halts_a q ea in
        subst (Halts ((both A B).child t n) (a + b) w) (let z : first_place t.lead q ≡ p = cc in z)
        (record {
          inside = first_inside t.lead a b q some_b H.inside;
          before = mixed (first_place t.lead q) H.before.0 wb H.before.1 mb H.before.2 eb (a_before q (first_place t.lead q) H (omega arith)) (λ j h. refl);
          no_further = first_stops (first_place t.lead q) q H (omega arith);
        })
    halts_joined (bad q) (bad r) p ea eb e =
        let G = halts_a q ea in
        let H = halts_b r eb in
        let x = first_place t.lead q in
        let y = second_place t.lead a r in
        let i : x < a + b = first_inside t.lead a b q some_b G.inside in
        subst (Halts ((both A B).child t n) (a + b) w) (let z : min x y ≡ p = cc in z)
        (record {
          inside = omega (arith, i);
          before = mixed (min x y) G.before.0 H.before.0 G.before.1 H.before.1 G.before.2 H.before.2 (a_before q (min x y) G (omega arith)) (b_before r (min x y) H (omega arith));
          no_further = λ v m ev s. elim (least_of x y) [
            | inl k ↦ first_stops (min x y) q G k v m ev s
            | inr k ↦ second_stops (min x y) r H k v m ev s
          ];
        })

  pub both_halts : (t : Pair A B) (ts : List (Pair A B)) (n : A.Node × B.Node) (w : List ℕ) (p : ℕ) → GoodBoth (t ∷ ts) n → length w ≡ A.size t.one + B.size t.two → (both A B).child t n w ≡ bad p
      → Halts ((both A B).child t n) (A.size t.one + B.size t.two) w p
  both_halts t ts n w p g l e = halts_joined t ts n w g l (A.child t.one n.0 (first_of t.lead (A.size t.one) w)) (B.child t.two n.1 (second_of t.lead (A.size t.one) w)) p refl refl e

  abbrev pub both_laws : Laws (both A B)
  both_laws = record { In = InBoth; Good = GoodBoth; here = both_here; only = both_only; good = both_good; sized = both_sized; small = both_small; some = both_some; stops = both_halts }
