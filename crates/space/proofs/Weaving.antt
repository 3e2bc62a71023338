-- Two trees gone down side by side write what the two write, woven, and read what the two read of it.
-- Assumes nothing.
use mathlib.Core.Path.{◌≡◌, refl, sym, ◌∙◌, ap, subst}
use mathlib.Core.Bool.{Bool, true, false, cond, ◌&&◌}
use mathlib.Core.List.{List, [], ◌∷◌, ◌++◌, map, map-append}
use Prim.Native.Nat.{ℕ, zero, suc, ◌+◌, ◌-◌, ◌≤◌, ◌<◌}
use native.Mathlib.Omega.{arith}
use lib.Dec.{ltb}
use lib.ListN.{length, take, drop, get_or, length-append, length-drop, get_or-append}
use lib.Seq.{take_at, drop_at, length-take-le, get_or-take, get_or-drop, get_or-append-add}
use borrow.Author.Tests.{lt-ltb, le-ltb, ltb-true, ltb-false}
use Rattle.grid.specs.Tree.{Tree, Read, ok, bad, shift, next, code, follow}
use Rattle.grid.specs.Both.{mix, first_of, second_of, first_place, second_place, joined, Pair, both}
use Rattle.grid.proofs.Cut.{and_true}
use Rattle.grid.proofs.Lists.{take_map, drop_map}
use Rattle.grid.proofs.Laws.{Laws, total}
use Rattle.grid.proofs.Places.{first_inside, second_inside, first_length, second_length, first_digit, second_digit}
use Rattle.grid.proofs.BothLaws.{ones, twos, adds, first_mix, second_mix, InBoth, GoodBoth}
use Rattle.space.specs.inner.Weave.{Strand, weave, both_of, parts, strand_place, firsts, seconds, place_one, place_two, together}

-- ---- places

module _ (t : Strand) (ts : List Strand) where
  one_here : (p : ℕ) → p < t.one → place_one (t ∷ ts) p ≡ first_place t.lead p
  unfolding strand_place
  one_here p h = rw (lt-ltb p t.one h) refl

  one_later : (p : ℕ) → place_one (t ∷ ts) (t.one + p) ≡ t.one + t.two + place_one ts p
  unfolding strand_place
  one_later p = rw (le-ltb (t.one + p) t.one (omega arith)) (ap (λ (x : ℕ). t.one + t.two + place_one ts x) (let z : t.one + p - t.one ≡ p = omega arith in z))

  two_here : (p : ℕ) → p < t.two → place_two (t ∷ ts) p ≡ second_place t.lead t.one p
  unfolding strand_place
  two_here p h = rw (lt-ltb p t.two h) refl

  two_later : (p : ℕ) → place_two (t ∷ ts) (t.two + p) ≡ t.one + t.two + place_two ts p
  unfolding strand_place
  two_later p = rw (le-ltb (t.two + p) t.two (omega arith)) (ap (λ (x : ℕ). t.one + t.two + place_two ts x) (let z : t.two + p - t.two ≡ p = omega arith in z))

  shift_together : {A B : Type 0} (x : Read A) (y : Read B) → shift (t.one + t.two) (together ts x y) ≡ together (t ∷ ts) (shift t.one x) (shift t.two y)
  shift_together (ok a) (ok b) = refl
  shift_together (ok a) (bad q) = ap bad (sym (two_later q))
  shift_together (bad p) (ok b) = ap bad (sym (one_later p))
  shift_together (bad p) (bad q) =
      let x : place_one (t ∷ ts) (t.one + p) ≡ t.one + t.two + place_one ts p = one_later p in
      let y : place_two (t ∷ ts) (t.two + q) ≡ t.one + t.two + place_two ts q = two_later q in
      ap bad (omega arith)

  -- one level of each, and then the rest
  step_together : {A B C D : Type 0} (ra : Read A) (rb : Read B) (f : A × B → Read (C × D)) (fa : A → Read C) (fb : B → Read D)
      → 0 < t.one → 0 < t.two → ((p : ℕ) → ra ≡ bad p → p < t.one) → ((q : ℕ) → rb ≡ bad q → q < t.two) → ((a : A) (b : B) → ra ≡ ok a → rb ≡ ok b → f (a, b) ≡ together ts (fa a) (fb b))
      → next (t.one + t.two) (joined t.lead t.one ra rb) f ≡ together (t ∷ ts) (next t.one ra fa) (next t.two rb fb)
  step_together (ok a) (ok b) f fa fb pa pb ha hb ih = ap (shift (t.one + t.two)) (ih a b refl refl) ∙ shift_together (fa a) (fb b)
  step_together {C = C} {D = D} (ok a) (bad q) f fa fb pa pb ha hb ih = go (fa a)
    where
      h : q < t.two
      h = hb q refl

      go : (x : Read C) → bad (second_place t.lead t.one q) ≡ together {A = C} {B = D} (t ∷ ts) (shift t.one x) (bad q)
      go (ok c) = ap bad (sym (two_here q h))
      go (bad p) =
          let x : place_one (t ∷ ts) (t.one + p) ≡ t.one + t.two + place_one ts p = one_later p in
          let y : place_two (t ∷ ts) q ≡ second_place t.lead t.one q = two_here q h in
          let z : second_place t.lead t.one q < t.one + t.two = second_inside t.lead t.one t.two q pa h in
          ap bad (omega arith)
  step_together {C = C} {D = D} (bad p) (ok b) f fa fb pa pb ha hb ih = go (fb b)
    where
      h : p < t.one
      h = ha p refl

      go : (y : Read D) → bad (first_place t.lead p) ≡ together {A = C} {B = D} (t ∷ ts) (bad p) (shift t.two y)
      go (ok c) = ap bad (sym (one_here p h))
      go (bad q) =
          let x : place_one (t ∷ ts) p ≡ first_place t.lead p = one_here p h in
          let y : place_two (t ∷ ts) (t.two + q) ≡ t.one + t.two + place_two ts q = two_later q in
          let z : first_place t.lead p < t.one + t.two = first_inside t.lead t.one t.two p pb h in
          ap bad (omega arith)
  step_together (bad p) (bad q) f fa fb pa pb ha hb ih =
      let x : place_one (t ∷ ts) p ≡ first_place t.lead p = one_here p (ha p refl) in
      let y : place_two (t ∷ ts) q ≡ second_place t.lead t.one q = two_here q (hb q refl) in
      ap bad (omega arith)

module _ (A B : Tree) where
  -- the strands of a list of levels
  unfoldable pub strands : List (Pair A B) → List Strand
  strands [] = []
  strands (t ∷ ts) = record { lead = t.lead; one = A.size t.one; two = B.size t.two } ∷ strands ts

  module _ (LA : Laws A) (LB : Laws B) where
    -- what the two write together
    pub code_woven : (ts : List (Pair A B)) (n : A.Node × B.Node) (s : A.Point × B.Point) → GoodBoth A B LA LB ts n → InBoth A B LA LB n s
        → code (both A B) ts n s ≡ weave (strands ts) (code A (ones A B ts) n.0 s.0) (code B (twos A B ts) n.1 s.1)
    unfolding code weave strands
    code_woven [] n s g i = refl
    code_woven (t ∷ ts) n s g i =
        let a = LA.here t.one (ones A B ts) n.0 s.0 g.0 i.0 in
        let b = LB.here t.two (twos A B ts) n.1 s.1 g.1 i.1 in
        let da = A.digits t.one n.0 s.0 in
        let db = B.digits t.two n.1 s.1 in
        let la : length da ≡ A.size t.one = LA.sized t.one (ones A B ts) n.0 da a.0 g.0 a.1 in
        let lb : length db ≡ B.size t.two = LB.sized t.two (twos A B ts) n.1 db b.0 g.1 b.1 in
        let p = adds A B t ts g.2 in
        let l : (0 < length da) × (0 < length db) = (subst (λ (x : ℕ). 0 < x) (sym la) p.0, subst (λ (x : ℕ). 0 < x) (sym lb) p.1) in
        let gm : GoodBoth A B LA LB ts (a.0, b.0) = (LA.good t.one (ones A B ts) n.0 da a.0 g.0 a.1, LB.good t.two (twos A B ts) n.1 db b.0 g.1 b.1, p.2) in
        let ih = code_woven ts (a.0, b.0) s gm (a.2, b.2) in
        let ra = code A (ones A B ts) a.0 s.0 in
        let rb = code B (twos A B ts) b.0 s.1 in
        rw (
          first_mix t.lead (A.size t.one) da db la l,
          second_mix t.lead (A.size t.one) da db la l,
          a.1,
          b.1,
          take_at da ra (A.size t.one) la,
          drop_at da ra (A.size t.one) la,
          take_at db rb (B.size t.two) lb,
          drop_at db rb (B.size t.two) lb,
        ) (ap (λ x. mix t.lead da db ++ x) ih)

    -- what the two read together
    pub follow_woven : (ts : List (Pair A B)) (n : A.Node × B.Node) (w : List ℕ) → GoodBoth A B LA LB ts n → length w ≡ total (both A B) ts
        → follow (both A B) ts n w ≡ together (strands ts) (follow A (ones A B ts) n.0 (firsts (strands ts) w)) (follow B (twos A B ts) n.1 (seconds (strands ts) w))
    unfolding follow parts strands total
    follow_woven [] n w g l = refl
    follow_woven (t ∷ ts) n w g l =
        let a = A.size t.one in
        let b = B.size t.two in
        let p = adds A B t ts g.2 in
        let d = take (a + b) w in
        let ld : length d ≡ a + b = length-take-le (a + b) w (omega arith) in
        let wa = first_of t.lead a d in
        let wb = second_of t.lead a d in
        let la : length wa ≡ a = first_length t.lead a b d p.0 p.1 ld in
        let lb : length wb ≡ b = second_length t.lead a b d p.0 p.1 ld in
        let r = drop (a + b) w in
        let fa = firsts (strands ts) r in
        let fb = seconds (strands ts) r in
        rw (take_at wa fa a la, drop_at wa fa a la, take_at wb fb b lb, drop_at wb fb b lb)
        (step_together (record { lead = t.lead; one = a; two = b }) (strands ts) (A.child t.one n.0 wa) (B.child t.two n.1 wb)
        (λ m. follow (both A B) ts m r) (λ m. follow A (ones A B ts) m fa) (λ m. follow B (twos A B ts) m fb) p.0 p.1
        (λ q e. (LA.stops t.one (ones A B ts) n.0 wa q g.0 la e).inside)
        (λ q e. (LB.stops t.two (twos A B ts) n.1 wb q g.1 lb e).inside)
        (λ x y ex ey. follow_woven ts (x, y) r (LA.good t.one (ones A B ts) n.0 wa x g.0 ex, LB.good t.two (twos A B ts) n.1 wb y g.1 ey, p.2) (length-drop (a + b) w ∙ omega arith)))

-- ---- a part's digits, place by place

-- every level adds a digit of each
abbrev pub each_some : List Strand → Bool
each_some [] = true
each_some (t ∷ ts) = (ltb 0 t.one && ltb 0 t.two) && each_some ts

-- how many digits a list of levels has, of a part and of both
abbrev pub counted : (Strand → ℕ) → List Strand → ℕ
counted count [] = 0
counted count (t ∷ ts) = count t + counted count ts

-- what is asked of a part of one level
pub record Sliced (part : Strand → List ℕ → List ℕ) (count : Strand → ℕ) (place : Strand → ℕ → ℕ) : Type 0 where
  pub long : (t : Strand) (d : List ℕ) → 0 < t.one → 0 < t.two → length d ≡ both_of t → length (part t d) ≡ count t
  pub digit : (t : Strand) (d : List ℕ) (p : ℕ) → 0 < t.one → 0 < t.two → length d ≡ both_of t → p < count t → get_or (part t d) p 0 ≡ get_or d (place t p) 0
  pub inside : (t : Strand) (p : ℕ) → 0 < t.one → 0 < t.two → p < count t → place t p < both_of t
  pub natural : (f : ℕ → ℕ) (t : Strand) (d : List ℕ) → part t (map f d) ≡ map f (part t d)

first_map : (f : ℕ → ℕ) (q : Bool) (k : ℕ) (w : List ℕ) → first_of q k (map f w) ≡ map f (first_of q k w)
first_map f false k w = take_map f k w
first_map f true k [] = refl
first_map f true k (x ∷ []) = refl
first_map f true k (x ∷ y ∷ w) = ap (λ z. f x ∷ z) (take_map f (k - 1) w)

second_map : (f : ℕ → ℕ) (q : Bool) (k : ℕ) (w : List ℕ) → second_of q k (map f w) ≡ map f (second_of q k w)
second_map f false k w = drop_map f k w
second_map f true k [] = refl
second_map f true k (x ∷ []) = refl
second_map f true k (x ∷ y ∷ w) = ap (λ z. f y ∷ z) (drop_map f (k - 1) w)

pub sliced_one : Sliced (λ t. first_of t.lead t.one) (λ t. t.one) (λ t. first_place t.lead)
sliced_one =
    record {
      long = λ t d a b l. first_length t.lead t.one t.two d a b l;
      digit = λ t d p a b l h. first_digit t.lead t.one d p (omega arith) h;
      inside = λ t p a b h. first_inside t.lead t.one t.two p b h;
      natural = λ f t d. first_map f t.lead t.one d;
    }

pub sliced_two : Sliced (λ t. second_of t.lead t.one) (λ t. t.two) (λ t. second_place t.lead t.one)
sliced_two =
    record {
      long = λ t d a b l. second_length t.lead t.one t.two d a b l;
      digit = λ t d p a b l h. second_digit t.lead t.one d p (omega arith) a;
      inside = λ t p a b h. second_inside t.lead t.one t.two p a h;
      natural = λ f t d. second_map f t.lead t.one d;
    }

pub some_of : (t : Strand) (ts : List Strand) → each_some (t ∷ ts) ≡ true → (0 < t.one) × (0 < t.two) × (each_some ts ≡ true)
some_of t ts e =
    let a = and_true (ltb 0 t.one && ltb 0 t.two) (each_some ts) e in
    let b = and_true (ltb 0 t.one) (ltb 0 t.two) a.0 in
    (ltb-true 0 _ b.0, ltb-true 0 _ b.1, a.1)

module _ {part : Strand → List ℕ → List ℕ} {count : Strand → ℕ} {place : Strand → ℕ → ℕ} (S : Sliced part count place) where
  pub parts_map : (f : ℕ → ℕ) (ts : List Strand) (w : List ℕ) → parts part ts (map f w) ≡ map f (parts part ts w)
  unfolding parts
  parts_map f [] w = refl
  parts_map f (t ∷ ts) w =
      rw (take_map f (both_of t) w, S.natural f t (take (both_of t) w), drop_map f (both_of t) w, parts_map f ts (drop (both_of t) w)) (sym (map-append f (part t (take (both_of t) w)) _))

  pub parts_length : (ts : List Strand) (w : List ℕ) → each_some ts ≡ true → length w ≡ counted both_of ts → length (parts part ts w) ≡ counted count ts
  unfolding parts
  parts_length [] w e l = refl
  parts_length (t ∷ ts) w e l =
      let s = some_of t ts e in
      let ld : length (take (both_of t) w) ≡ both_of t = length-take-le (both_of t) w (omega arith) in
      let a : length (part t (take (both_of t) w)) ≡ count t = S.long t (take (both_of t) w) s.0 s.1 ld in
      let b : length (parts part ts (drop (both_of t) w)) ≡ counted count ts = parts_length ts (drop (both_of t) w) s.2 (length-drop (both_of t) w ∙ omega arith) in
      length-append (part t (take (both_of t) w)) _ ∙ omega arith

  pub part_digit : (ts : List Strand) (w : List ℕ) (p : ℕ) → each_some ts ≡ true → length w ≡ counted both_of ts → p < counted count ts
      → get_or (parts part ts w) p 0 ≡ get_or w (strand_place count place ts p) 0
  unfolding parts strand_place
  part_digit [] w p e l h = absurd (omega arith)
  part_digit (t ∷ ts) w p e l h = go (part_digit ts (drop (both_of t) w) (p - count t)) (ltb p (count t)) refl
    where
      s : (0 < t.one) × (0 < t.two) × (each_some ts ≡ true)
      s = some_of t ts e

      d : List ℕ
      d = take (both_of t) w

      r : List ℕ
      r = drop (both_of t) w

      ld : length d ≡ both_of t
      ld = length-take-le (both_of t) w (omega arith)

      lp : length (part t d) ≡ count t
      lp = S.long t d s.0 s.1 ld

      go : (each_some ts ≡ true → length r ≡ counted both_of ts → p - count t < counted count ts → get_or (parts part ts r) (p - count t) 0 ≡ get_or r (strand_place count place ts (p - count t)) 0)
          → (q : Bool) → ltb p (count t) ≡ q → get_or (part t d ++ parts part ts r) p 0 ≡ get_or w (cond q (place t p) (both_of t + strand_place count place ts (p - count t))) 0
      go ih true q =
          let k : p < count t = ltb-true p _ q in
          get_or-append (part t d) (parts part ts r) 0 p (omega (arith, lp, k))
          ∙ S.digit t d p s.0 s.1 ld k
          ∙ get_or-take (both_of t) w (place t p) 0 (S.inside t p s.0 s.1 k)
      go ih false q =
          let k : count t ≤ p = ltb-false p _ q in
          let z : length (part t d) + (p - count t) ≡ p = omega (arith, lp, k) in
          ap (λ (i : ℕ). get_or (part t d ++ parts part ts r) i 0) (sym z)
          ∙ get_or-append-add (part t d) (parts part ts r) (p - count t) 0
          ∙ ih s.2 (length-drop (both_of t) w ∙ omega arith) (omega (arith, k))
          ∙ get_or-drop (both_of t) w (strand_place count place ts (p - count t)) 0

  -- fewer levels, the same places
  pub place_fewer : (l : ℕ) (ts : List Strand) (p : ℕ) → p < counted count (take l ts) → strand_place count place (take l ts) p ≡ strand_place count place ts p
  unfolding strand_place
  place_fewer zero ts p h = absurd (omega arith)
  place_fewer (suc l) [] p h = refl
  place_fewer (suc l) (t ∷ ts) p h = go (place_fewer l ts (p - count t)) (ltb p (count t)) refl
    where
      go : (p - count t < counted count (take l ts) → strand_place count place (take l ts) (p - count t) ≡ strand_place count place ts (p - count t))
          → (q : Bool) → ltb p (count t) ≡ q → cond q (place t p) (both_of t + strand_place count place (take l ts) (p - count t)) ≡ cond q (place t p) (both_of t + strand_place count place ts (p - count t))
      go ih true q = refl
      go ih false q = let k : count t ≤ p = ltb-false p _ q in ap (λ (i : ℕ). both_of t + i) (ih (omega (arith, k)))

-- ---- weaving characters for digits

mix_map : (f : ℕ → ℕ) (q : Bool) (a b : List ℕ) → map f (mix q a b) ≡ mix q (map f a) (map f b)
mix_map f false a b = map-append f a b
mix_map f true [] b = refl
mix_map f true (x ∷ a) [] = refl
mix_map f true (x ∷ a) (y ∷ b) = ap (λ z. f x ∷ f y ∷ z) (map-append f a b)

pub weave_map : (f : ℕ → ℕ) (ts : List Strand) (a b : List ℕ) → map f (weave ts a b) ≡ weave ts (map f a) (map f b)
unfolding weave
weave_map f [] a b = refl
weave_map f (t ∷ ts) a b =
    map-append f (mix t.lead (take t.one a) (take t.two b)) _
    ∙ rw (mix_map f t.lead (take t.one a) (take t.two b), take_map f t.one a, take_map f t.two b, drop_map f t.one a, drop_map f t.two b, weave_map f ts (drop t.one a) (drop t.two b)) refl
