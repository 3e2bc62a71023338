-- When the reader of a family of codes refuses with 6, with 7 and with 20, and where: for any family whose tree obeys the laws of one step.
-- Assumes nothing.
use Rattle.std.proofs.Common.{◌≡◌, ℕ, zero, suc, ◌<◌, ◌≤◌, Bool, true, false, cond, ◌||◌, eqb, ltb, ◌⊎◌, ◌↔◌, List, [], ◌∷◌, map, length, get_or, take, sym, refl, ap, ◌∙◌, subst, inl, inr, arith, take-take, ltb-false, ltb-true}
use mathlib.Core.Option.{Option, some, none}
use lib.ListN.{length-map}
use Rattle.grid.specs.Characters.{char_of, digit_of, code_character}
use Rattle.grid.specs.Tree.{Read, ok, bad, follow}
use Rattle.grid.specs.Answers.{Answer, accepted, refused, refusal, wrong_length, wrong_number, wrong_at}
use Rattle.grid.specs.Codes.{Codes, code_in, read_in, place_in}
use Rattle.grid.specs.Places.{among, Accepted, FirstBad, Places}
use Rattle.grid.proofs.Cut.{clash, Below}
use Rattle.grid.proofs.Lists.{take_map}
use Rattle.grid.proofs.Answers.{number_by, not_six, number_of, number_tells}
use Rattle.grid.proofs.Characters.{digits_chars, chars_digits}
use Rattle.grid.proofs.Laws.{Ends, follow_small, follow_ends}
use Rattle.grid.proofs.Families.{len_in, Sound, length_level, level_length, len_same, found, length_code_in, code_cell}

below_take : (k n : ℕ) (l : List ℕ) → Below k l → Below k (take n l)
below_take k zero l h = tt
below_take k (suc n) [] h = tt
below_take k (suc n) (x ∷ l) h = (h.0, below_take k n l h.1)

-- the number and the place of a refusal
number : {C : Type 0} → Answer C → ℕ
number (accepted c) = 0
number (refused r) = r.number

place : {C : Type 0} → Answer C → ℕ
place (accepted c) = 0
place (refused r) = r.place

-- ---- a first bad place is the only one, of any reader

-- codes that agree up to a place agree up to one before it
agree_before : (i j : ℕ) (v w : List ℕ) → i ≤ j → take j v ≡ take j w → take i v ≡ take i w
agree_before i j v w h e = sym (take-take i j v h) ∙ ap (take i) e ∙ take-take i j w h

one_first : {C : Type 0} (read : List ℕ → Answer C) (w : List ℕ) (p q : ℕ) → FirstBad read w p → FirstBad read w q → (p < q → ⊥)
one_first read w p q a b h =
    let v = b.before in
    a.no_further v.0 v.1 v.2 (agree_before (suc p) q v.0 w (omega arith) v.3)

first_bad_one : {C : Type 0} (read : List ℕ → Answer C) (w : List ℕ) (p q : ℕ) → FirstBad read w p → FirstBad read w q → p ≡ q
first_bad_one read w p q a b = go (ltb p q) refl (ltb q p) refl
  where
    go : (x : Bool) → ltb p q ≡ x → (y : Bool) → ltb q p ≡ y → p ≡ q
    go true e y f = absurd (one_first read w p q a b (ltb-true p q e))
    go false e true f = absurd (one_first read w q p b a (ltb-true q p f))
    go false e false f =
        let i : q ≤ p = ltb-false p q e in
        let j : p ≤ q = ltb-false q p f in
        omega arith

-- ---- the answers of any reader of codes of these lengths

module _ {C : Type 0} (read : List ℕ → Answer C) (lengths : List ℕ) where
  -- w is accepted, or its length is none of the lengths and it gets 6, or its length is one and it gets 7 or 20
  pub data Answered (w : List ℕ) : Type 0 where
    as_cell : among (length w) lengths ≡ true → Accepted read w → Answered w
    as_six : among (length w) lengths ≡ false → read w ≡ refused wrong_length → Answered w
    as_wrong : (p : ℕ) → among (length w) lengths ≡ true → read w ≡ refused (wrong_at w p) → FirstBad read w p → Answered w

  no_cell_six : (w : List ℕ) → Accepted read w → read w ≡ refused wrong_length → ⊥
  no_cell_six w a e = clash (let z : accepted a.0 ≡ refused wrong_length = sym a.1 ∙ e in cc)

  module _ (answered : (w : List ℕ) → Answered w) (some_code : (n : ℕ) → among n lengths ≡ true → (w : List ℕ) × (length w ≡ n) × Accepted read w) where
    six : (w : List ℕ) → (read w ≡ refused wrong_length) ↔ (among (length w) lengths ≡ false)
    unfolding number
    six w = (λ e. to (answered w) e, λ n. from (answered w) n)
      where
        to : Answered w → read w ≡ refused wrong_length → among (length w) lengths ≡ false
        to (as_cell m a) e = absurd (no_cell_six w a e)
        to (as_six m f) e = m
        to (as_wrong p m f b) e = absurd (not_six (code_character (get_or w p 0)) (ap number (sym e ∙ f) ∙ number_of (get_or w p 0) (code_character (get_or w p 0)) refl))

        from : Answered w → among (length w) lengths ≡ false → read w ≡ refused wrong_length
        from (as_cell m a) n = clash (cc)
        from (as_six m f) n = f
        from (as_wrong p m f b) n = clash (cc)

    lengths_are : (n : ℕ) → (among n lengths ≡ true) ↔ ((w : List ℕ) × (length w ≡ n) × Accepted read w)
    lengths_are n = (some_code n, λ t. subst (λ (x : ℕ). among x lengths ≡ true) t.1 (from t.0 (answered t.0) t.2))
      where
        from : (w : List ℕ) → Answered w → Accepted read w → among (length w) lengths ≡ true
        from w (as_cell m a) c = m
        from w (as_six m f) c = absurd (no_cell_six w c f)
        from w (as_wrong p m f b) c = m

    wrong : (w : List ℕ) (p : ℕ) → (read w ≡ refused (wrong_at w p)) ↔ FirstBad read w p
    unfolding number place
    wrong w p = (λ e. to (answered w) e, λ b. from b (answered w))
      where
        to : Answered w → read w ≡ refused (wrong_at w p) → FirstBad read w p
        to (as_cell m a) e = clash (let z : accepted a.0 ≡ refused (wrong_at w p) = sym a.1 ∙ e in cc)
        to (as_six m f) e = absurd (not_six (code_character (get_or w p 0)) (ap number (sym f ∙ e) ∙ number_of (get_or w p 0) (code_character (get_or w p 0)) refl))
        to (as_wrong q m f b) e = subst (FirstBad read w) (ap place (sym f ∙ e)) b

        from : FirstBad read w p → Answered w → read w ≡ refused (wrong_at w p)
        from b (as_cell m a) = absurd (b.no_further w refl a refl)
        from b (as_six m f) =
            let v = b.before in
            let z = (lengths_are (length w)).1 (v.0, v.1, v.2) in
            clash (cc)
        from b (as_wrong q m f d) = f ∙ ap (λ (x : ℕ). refused (wrong_at w x)) (first_bad_one read w q p d b)

    -- the number of a byte that counts as a code character, or of one that does not
    numbered : (q : Bool) (w : List ℕ) (p : ℕ) → (read w ≡ refused (refusal (number_by q) p)) ↔ (FirstBad read w p × (code_character (get_or w p 0) ≡ q))
    unfolding number place
    numbered q w p = (λ e. to (answered w) e, λ t. (wrong w p).1 t.0 ∙ ap (λ (x : ℕ). refused (refusal x p)) (number_of (get_or w p 0) q t.1))
      where
        to : Answered w → read w ≡ refused (refusal (number_by q) p) → FirstBad read w p × (code_character (get_or w p 0) ≡ q)
        to (as_cell m a) e = clash (let z : accepted a.0 ≡ refused (refusal (number_by q) p) = sym a.1 ∙ e in cc)
        to (as_six m f) e = absurd (not_six q (ap number (sym f ∙ e)))
        to (as_wrong i m f b) e =
            let z : i ≡ p = ap place (sym f ∙ e) in
            (subst (FirstBad read w) z b, number_tells (get_or w p 0) q (sym (ap (λ (x : ℕ). wrong_number (get_or w x 0)) z) ∙ ap number (sym f ∙ e)))

    pub places_of : Places read lengths
    places_of =
        record {
          accepted_six_or_wrong = λ w. three w (answered w);
          six_exactly_when = six;
          lengths_exactly = lengths_are;
          wrong_exactly_when = wrong;
          seven_exactly_when = numbered false;
          twenty_exactly_when = numbered true;
        }
      where
        three : (w : List ℕ) → Answered w → Accepted read w ⊎ ((read w ≡ refused wrong_length) ⊎ ((p : ℕ) × (read w ≡ refused (wrong_at w p))))
        three w (as_cell m a) = inl a
        three w (as_six m f) = inr (inl f)
        three w (as_wrong p m f b) = inr (inr (p, f))

-- ---- the lengths

-- a place in the list, or none of it
among_some : (n k : ℕ) (xs : List ℕ) (l : ℕ) → place_in n k xs ≡ some l → among n xs ≡ true
among_some n k [] l e = clash (cc)
among_some n k (x ∷ xs) l e = go (among_some n (suc k) xs l) (eqb n x) e
  where
    go : (place_in n (suc k) xs ≡ some l → among n xs ≡ true) → (q : Bool) → cond q (some k) (place_in n (suc k) xs) ≡ some l → (q || among n xs) ≡ true
    go r true e = refl
    go r false e = r e

among_none : (n k : ℕ) (xs : List ℕ) → place_in n k xs ≡ none → among n xs ≡ false
among_none n k [] e = refl
among_none n k (x ∷ xs) e = go (among_none n (suc k) xs) (eqb n x) e
  where
    go : (place_in n (suc k) xs ≡ none → among n xs ≡ false) → (q : Bool) → cond q (some k) (place_in n (suc k) xs) ≡ none → (q || among n xs) ≡ false
    go r true e = clash (cc)
    go r false e = r e

module _ (K : Codes) (S : Sound K) where
  abbrev len : ℕ → ℕ
  len l = len_in K l

  abbrev most : ℕ
  most = length K.lengths

  -- ---- the place of a wrong character

  -- digits of a level's number that lead to a node are an accepted code
  accepted_digits : (l : ℕ) (v : List ℕ) (m : K.tree.Node) → 1 ≤ l → l ≤ most → length v ≡ len l → follow K.tree (take l K.levels) K.root v ≡ ok m → read_in K (map char_of v) ≡ accepted (K.cell_at l m)
  unfolding read_in
  accepted_digits l v m a b e f =
      let n : length (map char_of v) ≡ len l = length-map v char_of ∙ e in
      let d : map digit_of (map char_of v) ≡ v = digits_chars v (follow_small K.tree S.laws (take l K.levels) K.root v m (S.fits l b) e f) in
      rw (n, length_level K S l a b, d, f) refl

  module _ (w : List ℕ) (l p : ℕ) (a : 1 ≤ l) (b : l ≤ most) (n : length w ≡ len l) (E : Ends K.tree (take l K.levels) K.root (map digit_of w) p) where
    bytes_before : (v : List ℕ) × (length v ≡ length w) × Accepted (read_in K) v × (take p v ≡ take p w)
    bytes_before =
        let v = E.before in
        let z : Below 32 v.0 = follow_small K.tree S.laws (take l K.levels) K.root v.0 v.1 (S.fits l b) v.2 v.3 in
        let t : take p v.0 ≡ map digit_of (take p w) = v.4 ∙ take_map digit_of p w in (
          map char_of v.0,
          length-map v.0 char_of ∙ v.2 ∙ sym n,
          (K.cell_at l v.1, accepted_digits l v.0 v.1 a b v.2 v.3),
          take_map char_of p v.0 ∙ ap (map char_of) t ∙ chars_digits (take p w) (subst (Below 32) t (below_take 32 p v.0 z)),
        )

    bytes_no_further : (v : List ℕ) → length v ≡ length w → Accepted (read_in K) v → take (suc p) v ≡ take (suc p) w → ⊥
    bytes_no_further v e c t =
        let f = found K S v c.0 c.1 in
        let s : f.l ≡ l = len_same K S f.l l f.high b (sym f.long ∙ e ∙ n) in
        let r : follow K.tree (take l K.levels) K.root (map digit_of v) ≡ ok f.node = subst (λ (i : ℕ). follow K.tree (take i K.levels) K.root (map digit_of v) ≡ ok f.node) s f.read in
        E.no_further (map digit_of v) f.node (length-map v digit_of ∙ e ∙ n) r (take_map digit_of (suc p) v ∙ ap (map digit_of) t ∙ sym (take_map digit_of (suc p) w))

    first_bad : FirstBad (read_in K) w p
    first_bad = record { inside = subst (λ (x : ℕ). p < x) (sym n) E.inside; before = bytes_before; no_further = bytes_no_further }

  -- ---- the three answers

  answered : (w : List ℕ) → Answered (read_in K) K.lengths w
  unfolding read_in
  answered w = go (place_in (length w) 1 K.lengths) refl
    where
      at : (l : ℕ) → place_in (length w) 1 K.lengths ≡ some l → (r : Read K.tree.Node) → follow K.tree (take l K.levels) K.root (map digit_of w) ≡ r → Answered (read_in K) K.lengths w
      at l q (ok m) f = as_cell (among_some (length w) 1 K.lengths l q) (K.cell_at l m, rw (q, f) refl)
      at l q (bad p) f =
          let h = level_length K S (length w) l q in
          as_wrong p (among_some (length w) 1 K.lengths l q) (rw (q, f) refl)
          (first_bad w l p h.0 h.1 h.2 (follow_ends K.tree S.laws (take l K.levels) K.root (map digit_of w) p (S.fits l h.1) (length-map w digit_of ∙ h.2) f))

      go : (o : Option ℕ) → place_in (length w) 1 K.lengths ≡ o → Answered (read_in K) K.lengths w
      go none q = as_six (among_none (length w) 1 K.lengths q) (rw q refl)
      go (some l) q = at l q (follow K.tree (take l K.levels) K.root (map digit_of w)) refl

  -- an accepted code of each of the lengths
  some_code : (n : ℕ) → among n K.lengths ≡ true → (w : List ℕ) × (length w ≡ n) × Accepted (read_in K) w
  some_code n e = go (place_in n 1 K.lengths) refl
    where
      go : (o : Option ℕ) → place_in n 1 K.lengths ≡ o → (w : List ℕ) × (length w ≡ n) × Accepted (read_in K) w
      go none q = let z = among_none n 1 K.lengths q in clash (cc)
      go (some l) q =
          let h = level_length K S n l q in
          let t = S.laws.some (take l K.levels) K.root (S.fits l h.1) in
          let o : S.On t.0 = S.in_on K.root t.0 t.1 in
          let c = code_cell K S l t.0 o h.0 h.1 in
          (code_in K l t.0, length_code_in K S l t.0 o h.1 ∙ sym h.2, (c.0, c.1))

  pub places : Places (read_in K) K.lengths
  places = places_of (read_in K) K.lengths answered some_code
