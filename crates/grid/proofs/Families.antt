-- What the demands ask, for any family of codes whose tree obeys the laws of one step.
-- Assumes nothing.
use Rattle.std.proofs.Common.{◌≡◌, ℕ, zero, suc, ◌+◌, ◌-◌, ◌<◌, ◌≤◌, Bool, true, false, cond, ◌||◌, eqb, ltb, leb, ◌⊎◌, ◌↔◌, List, [], ◌∷◌, ◌++◌, map, length, get_or, take, drop, sym, refl, ap, ◌∙◌, subst, inl, inr, arith, length-append, take_at, take-add, ltb-true, eqb-true, leb-false, leb-true}
use mathlib.Core.List.{map-append}
use mathlib.Core.Option.{Option, some, none}
use lib.ListN.{length-map}
use Rattle.grid.specs.Characters.{char_of, digit_of}
use Rattle.grid.specs.Tree.{Read, ok, bad, code, follow}
use Rattle.grid.specs.Answers.{accepted}
use Rattle.grid.specs.Codes.{Codes, code_in, read_in, place_in, answer, answer_at}
use Rattle.grid.specs.Places.{Accepted}
use Rattle.grid.specs.Demands.{Family, Begins, Given, Share, Demands}
use Rattle.grid.proofs.Cut.{clash, Below, all_below, below}
use Rattle.grid.proofs.Characters.{digits_chars, chars_digits}
use Rattle.grid.proofs.Laws.{Laws, total, code_holds, code_only, length_code, code_small, code_more, follow_good}

same_start : (a r b p q : List ℕ) (n : ℕ) → length a ≡ n → length p ≡ n → a ++ r ≡ b → p ++ q ≡ b → a ≡ p
same_start a r b p q n la lp ea ep = sym (take_at a r n la) ∙ ap (λ (x : List ℕ). take n x) (ea ∙ sym ep) ∙ take_at p q n lp

order : (i j : ℕ) → (i ≤ j) ⊎ (j ≤ i)
order i j = go (leb i j) refl
  where
    go : (q : Bool) → leb i j ≡ q → (i ≤ j) ⊎ (j ≤ i)
    go true e = inl (leb-true i j e)
    go false e = let h : j < i = leb-false i j e in inr (omega arith)

-- ---- levels and lengths

abbrev pub len_in : Codes → ℕ → ℕ
len_in K l = total K.tree (take l K.levels)

abbrev pub is_some : Option ℕ → ℕ → Bool
is_some none l = false
is_some (some k) l = eqb k l

is_some_of : (o : Option ℕ) (l : ℕ) → is_some o l ≡ true → o ≡ some l
is_some_of none l e = clash (cc)
is_some_of (some k) l e = ap some (eqb-true k l e)

place_of : (n k : ℕ) (xs : List ℕ) (l : ℕ) → place_in n k xs ≡ some l → (i : ℕ) × (i < length xs) × (l ≡ k + i) × (n ≡ get_or xs i 0)
place_of n k [] l e = clash (cc)
place_of n k (x ∷ xs) l e = go (place_of n (suc k) xs l) (eqb n x) refl e
  where
    go : (place_in n (suc k) xs ≡ some l → (i : ℕ) × (i < length xs) × (l ≡ suc k + i) × (n ≡ get_or xs i 0)) → (q : Bool) → eqb n x ≡ q → cond q (some k) (place_in n (suc k) xs) ≡ some l
        → (i : ℕ) × (i < suc (length xs)) × (l ≡ k + i) × (n ≡ get_or (x ∷ xs) i 0)
    go r true p e = let z : k ≡ l = cc in (0, omega arith, omega arith, eqb-true n x p)
    go r false p e = let t = r e in (suc t.0, omega (arith, t.1), omega (arith, t.2), t.3)

-- the lengths are those of the levels: one test for each, that computes
abbrev pub test_place : Codes → Bool
test_place K = all_below (λ l. is_some (place_in (len_in K (suc l)) 1 K.lengths) (suc l)) (length K.lengths)

abbrev pub test_length : Codes → Bool
test_length K = all_below (λ l. eqb (get_or K.lengths l 0) (len_in K (suc l))) (length K.lengths)

abbrev pub test_order : Codes → Bool
test_order K = all_below (λ i. all_below (λ j. leb i j || ltb (len_in K j) (len_in K i)) (suc (length K.lengths))) (suc (length K.lengths))

-- ---- what a family of codes has to have

pub record Sound (K : Codes) : Type 1 where
  pub laws : Laws K.tree
  pub On : K.tree.Point → Type 0
  pub Covers : K.Cell → K.tree.Point → Type 0
  pub level : K.Cell → ℕ
  pub level_at : (l : ℕ) (n : K.tree.Node) → level (K.cell_at l n) ≡ l
  pub on_root : (s : K.tree.Point) → On s → laws.In K.root s
  pub in_on : (n : K.tree.Node) (s : K.tree.Point) → laws.In n s → On s
  pub covers_in : (l : ℕ) (n : K.tree.Node) (s : K.tree.Point) → laws.Good [] n → On s → Covers (K.cell_at l n) s → laws.In n s
  pub in_covers : (l : ℕ) (n : K.tree.Node) (s : K.tree.Point) → laws.Good [] n → laws.In n s → Covers (K.cell_at l n) s
  pub fits : (l : ℕ) → l ≤ length K.lengths → laws.Good (take l K.levels) K.root
  pub place_test : test_place K ≡ true
  pub length_test : test_length K ≡ true
  pub order_test : test_order K ≡ true

-- the family as its callers see it
abbrev pub family_of : (K : Codes) → Sound K → Family
family_of K S =
    record {
      levels = length K.lengths;
      Point = K.tree.Point;
      Cell = K.Cell;
      On = S.On;
      Coded = λ l s. S.On s;
      Covers = S.Covers;
      level = S.level;
      code_of = code_in K;
      cell_of = read_in K;
    }

module _ (K : Codes) (S : Sound K) where
  abbrev len : ℕ → ℕ
  len l = len_in K l

  abbrev most : ℕ
  most = length K.lengths

  pub length_level : (l : ℕ) → 1 ≤ l → l ≤ most → place_in (len l) 1 K.lengths ≡ some l
  length_level zero a b = absurd (omega arith)
  length_level (suc l) a b = is_some_of _ (suc l) (below (λ l. is_some (place_in (len (suc l)) 1 K.lengths) (suc l)) most l S.place_test b)

  len_order : (i j : ℕ) → i ≤ most → j ≤ most → len i ≤ len j → i ≤ j
  len_order i j a b h =
      go (leb i j) refl (below (λ j. leb i j || ltb (len j) (len i)) (suc most) j (below (λ i. all_below (λ j. leb i j || ltb (len j) (len i)) (suc most)) (suc most) i S.order_test (omega arith)) (omega arith))
    where
      go : (q : Bool) → leb i j ≡ q → (q || ltb (len j) (len i)) ≡ true → i ≤ j
      go true e t = leb-true i j e
      go false e t = let z : len j < len i = ltb-true _ _ t in absurd (omega arith)

  pub level_length : (n l : ℕ) → place_in n 1 K.lengths ≡ some l → (1 ≤ l) × (l ≤ most) × (n ≡ len l)
  level_length n l e =
      let t = place_of n 1 K.lengths l e in
      let h : t.0 < most = t.1 in
      let q : l ≡ suc t.0 = omega (arith, t.2) in
      let z : get_or K.lengths t.0 0 ≡ len (suc t.0) = eqb-true _ _ (below (λ i. eqb (get_or K.lengths i 0) (len (suc i))) most t.0 S.length_test h) in
      (omega arith, omega arith, t.3 ∙ z ∙ ap len (sym q))

  -- ---- what an accepted code is

  pub record Found (w : List ℕ) (c : K.Cell) : Type 0 where
    pub l : ℕ
    pub low : 1 ≤ l
    pub high : l ≤ most
    pub long : length w ≡ len l
    pub node : K.tree.Node
    pub read : follow K.tree (take l K.levels) K.root (map digit_of w) ≡ ok node
    pub same : K.cell_at l node ≡ c

  answer_of : (w : List ℕ) (l : ℕ) (r : Read K.tree.Node) (c : K.Cell) → answer K w l r ≡ accepted c → (n : K.tree.Node) × (r ≡ ok n) × (K.cell_at l n ≡ c)
  answer_of w l (ok n) c e = (n, refl, cc)
  answer_of w l (bad p) c e = clash (cc)

  pub found : (w : List ℕ) (c : K.Cell) → read_in K w ≡ accepted c → Found w c
  unfolding read_in
  found w c e = go (place_in (length w) 1 K.lengths) refl e
    where
      go : (o : Option ℕ) → place_in (length w) 1 K.lengths ≡ o → answer_at K w o ≡ accepted c → Found w c
      go none p e = clash (cc)
      go (some l) p e =
          let q = level_length (length w) l p in
          let a = answer_of w l (follow K.tree (take l K.levels) K.root (map digit_of w)) c e in
          record { l = l; low = q.0; high = q.1; long = q.2; node = a.0; read = a.1; same = a.2 }

  pub found_level : (w : List ℕ) (c : K.Cell) (f : Found w c) → S.level c ≡ f.l
  found_level w c f = sym (ap S.level f.same) ∙ S.level_at f.l f.node

  pub found_good : (w : List ℕ) (c : K.Cell) (f : Found w c) → S.laws.Good [] f.node
  found_good w c f = follow_good K.tree S.laws (take f.l K.levels) K.root (map digit_of w) f.node (S.fits f.l f.high) f.read

  abbrev digits_at : ℕ → K.tree.Point → List ℕ
  digits_at l s = code K.tree (take l K.levels) K.root s

  small_at : (l : ℕ) (s : K.tree.Point) → S.On s → l ≤ most → Below 32 (digits_at l s)
  small_at l s o h = code_small K.tree S.laws (take l K.levels) K.root s (S.fits l h) (S.on_root s o)

  pub length_code_in : (l : ℕ) (s : K.tree.Point) → S.On s → l ≤ most → length (code_in K l s) ≡ len l
  unfolding code_in
  length_code_in l s o h = length-map (digits_at l s) char_of ∙ length_code K.tree S.laws (take l K.levels) K.root s (S.fits l h) (S.on_root s o)

  -- ---- each square has the cell of its code, and no other cell holds it but those of its codes

  pub code_cell : (l : ℕ) (s : K.tree.Point) → S.On s → 1 ≤ l → l ≤ most → (c : K.Cell) × (read_in K (code_in K l s) ≡ accepted c) × (S.level c ≡ l) × S.Covers c s
  unfolding read_in code_in
  code_cell l s o a b =
      let h = code_holds K.tree S.laws (take l K.levels) K.root s (S.fits l b) (S.on_root s o) in
      let n : length (map char_of (digits_at l s)) ≡ len l = length_code_in l s o b in
      let v : map digit_of (map char_of (digits_at l s)) ≡ digits_at l s = digits_chars (digits_at l s) (small_at l s o b) in
      let k : S.laws.Good [] h.0 = follow_good K.tree S.laws (take l K.levels) K.root (digits_at l s) h.0 (S.fits l b) h.1 in
      (K.cell_at l h.0, rw (n, length_level l a b, v, h.1) refl, S.level_at l h.0, S.in_covers l h.0 s k h.2)

  pub code_unique : (s : K.tree.Point) → S.On s → (w : List ℕ) (c : K.Cell) → read_in K w ≡ accepted c → S.Covers c s → w ≡ code_in K (S.level c) s
  unfolding code_in
  code_unique s o w c e v =
      let f = found w c e in
      let i : S.laws.In f.node s = S.covers_in f.l f.node s (found_good w c f) o (subst (λ (x : K.Cell). S.Covers x s) (sym f.same) v) in
      let u = code_only K.tree S.laws (take f.l K.levels) K.root (map digit_of w) f.node s (S.fits f.l f.high) (length-map w digit_of ∙ f.long) f.read i in
      let m : Below 32 (map digit_of w) = subst (λ (x : List ℕ). Below 32 x) u.1 (small_at f.l s o f.high) in
      rw (found_level w c f, u.1) (sym (chars_digits w m))

  -- ---- a finer level only adds characters at the end

  pub finer : (l k : ℕ) (s : K.tree.Point) → l ≤ k → Begins (code_in K l s) (code_in K k s)
  unfolding code_in
  finer l k s h =
      let e : k ≡ l + (k - l) = omega arith in
      let t = code_more K.tree (take l K.levels) (take (k - l) (drop l K.levels)) K.root s in (
        map char_of t.0,
        sym (map-append char_of (digits_at l s) t.0)
            ∙ ap (map char_of) (t.1 ∙ ap (λ ts. code K.tree ts K.root s) (sym (take-add l (k - l) K.levels) ∙ ap (λ (i : ℕ). take i K.levels) (sym e))),
      )

  -- ---- two accepted codes

  -- the longer code's cell lies inside the shorter's
  pub inside : (a b : List ℕ) (c d : K.Cell) → read_in K a ≡ accepted c → read_in K b ≡ accepted d → Begins a b → (s : K.tree.Point) → S.On s → S.Covers d s → S.Covers c s
  inside a b c d ea eb r s o v =
      let fa = found a c ea in
      let fb = found b d eb in
      let la : length a ≡ len fa.l = fa.long in
      let lb : length b ≡ len fb.l = fb.long in
      let sum : length a + length r.0 ≡ length b = sym (length-append a r.0) ∙ ap length r.1 in
      let h : fa.l ≤ fb.l = len_order fa.l fb.l fa.high fb.high (omega arith) in
      let eq : code_in K fb.l s ≡ b = ap (λ (i : ℕ). code_in K i s) (sym (found_level b d fb)) ∙ sym (code_unique s o b d eb v) in
      let t = finer fa.l fb.l s h in
      let same : a ≡ code_in K fa.l s = same_start a r.0 b (code_in K fa.l s) t.0 (len fa.l) la (length_code_in fa.l s o fa.high) r.1 (t.1 ∙ eq) in
      let k = code_cell fa.l s o fa.low fa.high in
      let z : accepted c ≡ accepted k.0 = sym ea ∙ ap (read_in K) same ∙ k.1 in
      subst (λ (x : K.Cell). S.Covers x s) (cc) k.3

  -- an accepted code's cell has a square
  pub held : (w : List ℕ) (c : K.Cell) → read_in K w ≡ accepted c → (s : K.tree.Point) × S.On s × S.Covers c s
  held w c e =
      let f = found w c e in
      let t = S.laws.some [] f.node (found_good w c f) in
      (t.0, S.in_on f.node t.0 t.1, subst (λ (x : K.Cell). S.Covers x t.0) f.same (S.in_covers f.l f.node t.0 (found_good w c f) t.1))

  pub shared : (a b : List ℕ) (c d : K.Cell) → read_in K a ≡ accepted c → read_in K b ≡ accepted d → Share (family_of K S) c d ↔ (Begins a b ⊎ Begins b a)
  shared a b c d ea eb = (to, from)
    where
      start : (w z : List ℕ) (i j : ℕ) (s : K.tree.Point) → w ≡ code_in K i s → z ≡ code_in K j s → i ≤ j → Begins w z
      start w z i j s ew ez h =
          let t = finer i j s h in
          (t.0, ap (λ (k : List ℕ). k ++ t.0) ew ∙ t.1 ∙ sym ez)

      to : Share (family_of K S) c d → Begins a b ⊎ Begins b a
      to p =
          let ua = code_unique p.point p.on a c ea p.first in
          let ub = code_unique p.point p.on b d eb p.second in
          elim (order (S.level c) (S.level d)) [
            | inl h ↦ inl (start a b (S.level c) (S.level d) p.point ua ub h)
            | inr h ↦ inr (start b a (S.level d) (S.level c) p.point ub ua h)
          ]

      from : Begins a b ⊎ Begins b a → Share (family_of K S) c d
      from (inl r) =
          let t = held b d eb in
          record { point = t.0; on = t.1; first = inside a b c d ea eb r t.0 t.1 t.2; second = t.2 }
      from (inr r) =
          let t = held a c ea in
          record { point = t.0; on = t.1; first = t.2; second = inside b a d c eb ea r t.0 t.1 t.2 }

  -- ---- accepted exactly when given

  pub len_same : (i j : ℕ) → i ≤ most → j ≤ most → len i ≡ len j → i ≡ j
  len_same i j a b e =
      let x : i ≤ j = len_order i j a b (omega arith) in
      let y : j ≤ i = len_order j i b a (omega arith) in
      omega arith

  given_of : (w : List ℕ) → Accepted (read_in K) w → Given (family_of K S) w
  given_of w a =
      let s = held w a.0 a.1 in
      let f = found w a.0 a.1 in
      let v : S.level a.0 ≡ f.l = found_level w a.0 f in
      record {
        level = S.level a.0;
        low = subst (λ (x : ℕ). 1 ≤ x) (sym v) f.low;
        high = subst (λ (x : ℕ). x ≤ most) (sym v) f.high;
        point = s.0;
        coded = s.1;
        same = sym (code_unique s.0 s.1 w a.0 a.1 s.2);
      }

  accepted_of : (w : List ℕ) → Given (family_of K S) w → Accepted (read_in K) w
  accepted_of w a =
      let c = code_cell a.level a.point a.coded a.low a.high in
      (c.0, ap (read_in K) (sym a.same) ∙ c.1)

  points : (w : List ℕ) (c : K.Cell) (s : K.tree.Point) → read_in K w ≡ accepted c → S.On s → S.Covers c s ↔ (S.On s × (code_in K (S.level c) s ≡ w))
  points w c s e o = (λ v. (o, sym (code_unique s o w c e v)), λ p. from p.1)
    where
      from : code_in K (S.level c) s ≡ w → S.Covers c s
      from q =
          let f = found w c e in
          let v : S.level c ≡ f.l = found_level w c f in
          let k = code_cell (S.level c) s o (subst (λ (x : ℕ). 1 ≤ x) (sym v) f.low) (subst (λ (x : ℕ). x ≤ most) (sym v) f.high) in
          let z : accepted c ≡ accepted k.0 = sym e ∙ ap (read_in K) (sym q) ∙ k.1 in
          subst (λ (x : K.Cell). S.Covers x s) (cc) k.3

  -- ---- all of it

  pub demands : Demands (family_of K S)
  demands =
      record {
        each_has_its_cell = code_cell;
        no_other = λ w c s o e v. code_unique s o w c e v;
        finer_only_adds = finer;
        share_exactly_when = shared;
        longer_inside = inside;
        accepted_exactly_when = λ w. (given_of w, accepted_of w);
        points_exactly = points;
      }
