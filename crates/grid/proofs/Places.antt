-- The places of two lists of digits that are mixed: where each digit stands, and what it is to agree up to a place.
-- Assumes nothing.
use Rattle.std.proofs.Common.{◌≡◌, ℕ, zero, suc, ◌+◌, ◌-◌, ◌<◌, ◌≤◌, min, Bool, true, false, ltb, ◌⊎◌, List, [], ◌∷◌, length, get_or, take, sym, refl, ap, ◌∙◌, subst, inl, inr, arith, length-drop, length-take, get_or-drop, get_or-take, ext_get_or, ltb-false, ltb-true}
use Rattle.grid.specs.Both.{first_of, second_of, first_place, second_place}

-- ---- agreeing up to a place, digit by digit

pub agree_at : (p : ℕ) (v w : List ℕ) → take p v ≡ take p w → (i : ℕ) → i < p → get_or v i 0 ≡ get_or w i 0
agree_at p v w e i h = sym (get_or-take p v i 0 h) ∙ ap (λ (l : List ℕ). get_or l i 0) e ∙ get_or-take p w i 0 h

pub agree_to : (p : ℕ) (v w : List ℕ) → length v ≡ length w → ((i : ℕ) → i < p → i < length v → get_or v i 0 ≡ get_or w i 0) → take p v ≡ take p w
agree_to p v w l f = ext_get_or 0 (take p v) (take p w) (length-take p v ∙ ap (min p) l ∙ sym (length-take p w)) at
  where
    at : (i : ℕ) → i < length (take p v) → get_or (take p v) i 0 ≡ get_or (take p w) i 0
    at i h =
        let k : i < min p (length v) = subst (λ (x : ℕ). i < x) (length-take p v) h in
        get_or-take p v i 0 (omega arith) ∙ f i (omega arith) (omega arith) ∙ sym (get_or-take p w i 0 (omega arith))

-- ---- where the digits stand

pub first_order : (q : Bool) (i j : ℕ) → i ≤ j → first_place q i ≤ first_place q j
first_order false i j h = h
first_order true zero j h = omega arith
first_order true (suc i) zero h = absurd (omega arith)
first_order true (suc i) (suc j) h = omega arith

pub second_order : (q : Bool) (k i j : ℕ) → 0 < k → i ≤ j → second_place q k i ≤ second_place q k j
second_order false k i j p h = omega arith
second_order true k zero zero p h = omega arith
second_order true k zero (suc j) p h = omega arith
second_order true k (suc i) zero p h = absurd (omega arith)
second_order true k (suc i) (suc j) p h = omega arith

pub first_before : (q : Bool) (i j : ℕ) → first_place q i < first_place q j → i < j
first_before q i j h = go (ltb i j) refl
  where
    go : (b : Bool) → ltb i j ≡ b → i < j
    go true e = ltb-true i j e
    go false e = let z : first_place q j ≤ first_place q i = first_order q j i (ltb-false i j e) in absurd (omega arith)

pub second_before : (q : Bool) (k i j : ℕ) → 0 < k → second_place q k i < second_place q k j → i < j
second_before q k i j p h = go (ltb i j) refl
  where
    go : (b : Bool) → ltb i j ≡ b → i < j
    go true e = ltb-true i j e
    go false e = let z : second_place q k j ≤ second_place q k i = second_order q k j i p (ltb-false i j e) in absurd (omega arith)

pub first_inside : (q : Bool) (a b i : ℕ) → 0 < b → i < a → first_place q i < a + b
first_inside false a b i p h = omega arith
first_inside true a b zero p h = omega arith
first_inside true a b (suc i) p h = omega arith

pub second_inside : (q : Bool) (a b j : ℕ) → 0 < a → j < b → second_place q a j < a + b
second_inside false a b j p h = omega arith
second_inside true a b zero p h = omega arith
second_inside true a b (suc j) p h = omega arith

-- each place is that of a digit of the one or of the other
pub record FirstAt (q : Bool) (a x : ℕ) : Type 0 where
  pub i : ℕ
  pub few : i < a
  pub place : first_place q i ≡ x

pub record SecondAt (q : Bool) (a b x : ℕ) : Type 0 where
  pub j : ℕ
  pub few : j < b
  pub place : second_place q a j ≡ x

pub either : (q : Bool) (a b x : ℕ) → 0 < a → 0 < b → x < a + b → FirstAt q a x ⊎ SecondAt q a b x
either false a b x p r h = go (ltb x a) refl
  where
    go : (t : Bool) → ltb x a ≡ t → FirstAt false a x ⊎ SecondAt false a b x
    go true e = inl (record { i = x; few = ltb-true x a e; place = refl })
    go false e = let l : a ≤ x = ltb-false x a e in inr (record { j = x - a; few = omega arith; place = omega arith })
either true a b zero p r h = inl (record { i = 0; few = p; place = refl })
either true a b (suc zero) p r h = inr (record { j = 0; few = r; place = refl })
either true a b (suc (suc y)) p r h = go (ltb (suc y) a) refl
  where
    go : (t : Bool) → ltb (suc y) a ≡ t → FirstAt true a (suc (suc y)) ⊎ SecondAt true a b (suc (suc y))
    go true e = inl (record { i = suc y; few = ltb-true (suc y) a e; place = refl })
    go false e =
        let l : a ≤ suc y = ltb-false (suc y) a e in
        inr (record { j = suc (suc y - a); few = omega arith; place = omega arith })

-- ---- the digits there

pub first_digit : (q : Bool) (k : ℕ) (w : List ℕ) (i : ℕ) → 2 ≤ length w → i < k → get_or (first_of q k w) i 0 ≡ get_or w (first_place q i) 0
first_digit false k w i l h = get_or-take k w i 0 h
first_digit true k [] i l h = absurd (omega arith)
first_digit true k (x ∷ []) i l h = absurd (omega arith)
first_digit true k (x ∷ y ∷ w) zero l h = refl
first_digit true k (x ∷ y ∷ w) (suc i) l h = get_or-take (k - 1) w i 0 (omega arith)

pub second_digit : (q : Bool) (k : ℕ) (w : List ℕ) (j : ℕ) → 2 ≤ length w → 0 < k → get_or (second_of q k w) j 0 ≡ get_or w (second_place q k j) 0
second_digit false k w j l h = get_or-drop k w j 0
second_digit true k [] j l h = absurd (omega arith)
second_digit true k (x ∷ []) j l h = absurd (omega arith)
second_digit true k (x ∷ y ∷ w) zero l h = refl
second_digit true k (x ∷ y ∷ w) (suc j) l h =
    let e : suc (k + j) ≡ suc (suc (k - 1 + j)) = omega arith in
    get_or-drop (k - 1) w j 0 ∙ ap (λ (i : ℕ). get_or (x ∷ y ∷ w) i 0) (sym e)

pub first_length : (q : Bool) (k b : ℕ) (w : List ℕ) → 0 < k → 0 < b → length w ≡ k + b → length (first_of q k w) ≡ k
first_length false k b w p r l = length-take k w ∙ omega arith
first_length true k b [] p r l = absurd (omega arith)
first_length true k b (x ∷ []) p r l = absurd (omega arith)
first_length true k b (x ∷ y ∷ w) p r l = ap suc (length-take (k - 1) w) ∙ omega arith

pub second_length : (q : Bool) (k b : ℕ) (w : List ℕ) → 0 < k → 0 < b → length w ≡ k + b → length (second_of q k w) ≡ b
second_length false k b w p r l = length-drop k w ∙ omega arith
second_length true k b [] p r l = absurd (omega arith)
second_length true k b (x ∷ []) p r l = absurd (omega arith)
second_length true k b (x ∷ y ∷ w) p r l = ap suc (length-drop (k - 1) w) ∙ omega arith

-- ---- agreeing in both, and in each

module _ (q : Bool) (a b : ℕ) (pa : 0 < a) (pb : 0 < b) (v w : List ℕ) (lv : length v ≡ a + b) (lw : length w ≡ a + b) where
  pub both_agree : (p : ℕ) → ((i : ℕ) → first_place q i < p → get_or (first_of q a v) i 0 ≡ get_or (first_of q a w) i 0) → ((j : ℕ) → second_place q a j < p → get_or (second_of q a v) j 0 ≡ get_or (second_of q a w) j 0)
      → take p v ≡ take p w
  both_agree p f g = agree_to p v w (lv ∙ sym lw) (λ x h l. at x h (either q a b x pa pb (omega arith)))
    where
      at : (x : ℕ) → x < p → FirstAt q a x ⊎ SecondAt q a b x → get_or v x 0 ≡ get_or w x 0
      at x h (inl t) =
          subst (λ (x : ℕ). get_or v x 0 ≡ get_or w x 0) t.place
          (sym (first_digit q a v t.i (omega arith) t.few) ∙ f t.i (subst (λ (x : ℕ). x < p) (sym t.place) h) ∙ first_digit q a w t.i (omega arith) t.few)
      at x h (inr t) =
          subst (λ (x : ℕ). get_or v x 0 ≡ get_or w x 0) t.place
          (sym (second_digit q a v t.j (omega arith) pa) ∙ g t.j (subst (λ (x : ℕ). x < p) (sym t.place) h) ∙ second_digit q a w t.j (omega arith) pa)

  pub first_agree : (p i : ℕ) → take (suc p) v ≡ take (suc p) w → first_place q i ≤ p → i < a → take (suc i) (first_of q a v) ≡ take (suc i) (first_of q a w)
  first_agree p i t h l =
      agree_to (suc i) (first_of q a v) (first_of q a w) (first_length q a b v pa pb lv ∙ sym (first_length q a b w pa pb lw))
      (λ x hx lx.
      (let o : first_place q x ≤ first_place q i = first_order q x i (omega arith) in
      first_digit q a v x (omega arith) (omega arith) ∙ agree_at (suc p) v w t (first_place q x) (omega arith) ∙ sym (first_digit q a w x (omega arith) (omega arith))))

  pub second_agree : (p j : ℕ) → take (suc p) v ≡ take (suc p) w → second_place q a j ≤ p → take (suc j) (second_of q a v) ≡ take (suc j) (second_of q a w)
  second_agree p j t h =
      agree_to (suc j) (second_of q a v) (second_of q a w) (second_length q a b v pa pb lv ∙ sym (second_length q a b w pa pb lw))
      (λ x hx lx.
      (let o : second_place q a x ≤ second_place q a j = second_order q a x j pa (omega arith) in
      second_digit q a v x (omega arith) pa ∙ agree_at (suc p) v w t (second_place q a x) (omega arith) ∙ sym (second_digit q a w x (omega arith) pa)))
