-- One segment cut into k equal parts: which part a number is in. What a test that was passed says, and a test of each number below n.
-- Assumes nothing.
use Rattle.std.proofs.Common.{◌≡◌, ℕ, zero, suc, ◌+◌, ◌-◌, ◌*◌, ◌/◌, ◌%◌, ◌<◌, ◌≤◌, Bool, true, false, ◌&&◌, eqb, ltb, ◌⊎◌, List, [], ◌∷◌, ◌++◌, get_or, sym, refl, ap, ◌∙◌, subst, inl, inr, mul-le-mul_right, mod-lt, mod-eq_of_lt, mul_assoc, div-lt_iff_lt-mul, add-mul, mul-pos, one-mul, div-add-mod', div-mul-le_self, arith, ltb-true, eqb-true}
use native.Mathlib.Nat.{lt-div-mul-add, div-eq_of_lt-le, mul-add-mod_self_right, mul-add-div_right}
use borrow.Author.Tests.{eqb-false}
use Rattle.grid.specs.Tree.{Read, ok, bad, guard}

-- part c of k parts of length d, from x0 on, holds x
pub record Held (x0 d c x : ℕ) : Type 0 where
  pub from : x0 + c * d ≤ x
  pub to : x < x0 + c * d + d

suc_mul : (c d : ℕ) → (c + 1) * d ≡ c * d + d
suc_mul c d = add-mul c 1 d ∙ ap (λ (z : ℕ). c * d + z) (one-mul d)

module _ (x0 d : ℕ) (p : 0 < d) where
  pub cut_held : (x : ℕ) → x0 ≤ x → Held x0 d ((x - x0) / d) x
  cut_held x a =
      let l : (x - x0) / d * d ≤ x - x0 = div-mul-le_self (x - x0) d in
      let u : x - x0 < (x - x0) / d * d + d = lt-div-mul-add p in
      record { from = omega arith; to = omega arith }

  pub cut_only : (c x : ℕ) → Held x0 d c x → (x - x0) / d ≡ c
  cut_only c x h =
      div-eq_of_lt-le d (omega (arith, h.from)) (subst (λ (z : ℕ). x - x0 < z) (sym (suc_mul c d)) (omega (arith, h.from, h.to)))

  pub cut_below : (k w x : ℕ) → k * d ≡ w → x0 ≤ x → x < x0 + w → (x - x0) / d < k
  cut_below k w x e a b = (div-lt_iff_lt-mul p).1 (omega arith)

pub cut_end : (c k d w : ℕ) → c < k → k * d ≡ w → c * d + d ≤ w
cut_end c k d w h e =
    let m : (c + 1) * d ≤ k * d = mul-le-mul_right d (omega arith) in
    let f : (c + 1) * d ≡ c * d + d = suc_mul c d in
    omega arith

-- ---- a number X in segments that are each cut into k parts of length d

module _ (X k d : ℕ) (some : 0 < k) (long : 0 < d) where
  -- X in parts: those of the whole segments before it, and those in its own
  parts : X / d ≡ X / (k * d) * k + X % (k * d) / d
  parts =
      let e : X / (k * d) * k * d + X % (k * d) ≡ X = ap (λ (z : ℕ). z + X % (k * d)) (mul_assoc (X / (k * d)) k d) ∙ div-add-mod' X (k * d) in
      ap (λ (z : ℕ). z / d) (sym e) ∙ mul-add-div_right long (X / (k * d) * k) (X % (k * d))

  rest : X - X / (k * d) * (k * d) ≡ X % (k * d)
  rest = let e : X / (k * d) * (k * d) + X % (k * d) ≡ X = div-add-mod' X (k * d) in omega arith

  -- in the segment that holds X the part is X / d % k
  pub part_direct : (X - X / (k * d) * (k * d)) / d ≡ X / d % k
  part_direct =
      let m : X % (k * d) / d < k = (div-lt_iff_lt-mul long).1 (mod-lt X (mul-pos some long)) in
      ap (λ (z : ℕ). z / d) rest
      ∙ sym (ap (λ (z : ℕ). z % k) parts ∙ mul-add-mod_self_right (X / (k * d)) k (X % (k * d) / d) ∙ mod-eq_of_lt m)

  -- and the part begins where its own length says
  pub part_begins : X / (k * d) * (k * d) + (X - X / (k * d) * (k * d)) / d * d ≡ X / d * d
  part_begins =
      ap (λ (z : ℕ). X / (k * d) * (k * d) + z / d * d) rest
      ∙ ap (λ (z : ℕ). z + X % (k * d) / d * d) (sym (mul_assoc (X / (k * d)) k d))
      ∙ sym (add-mul (X / (k * d) * k) (X % (k * d) / d) d)
      ∙ sym (ap (λ (z : ℕ). z * d) parts)

  pub begins_direct : X / (k * d) * (k * d) + X / d % k * d ≡ X / d * d
  begins_direct = ap (λ (z : ℕ). X / (k * d) * (k * d) + z * d) (sym part_direct) ∙ part_begins

-- ---- tests

pub and_true : (a b : Bool) → (a && b) ≡ true → (a ≡ true) × (b ≡ true)
and_true true b e = (refl, e)
and_true false b e = absurd (let z : ◌≡◌ {A = ℕ} 0 1 = cc in omega arith)

pub and_make : (a b : Bool) → a ≡ true → b ≡ true → (a && b) ≡ true
and_make true b p q = q
and_make false b p q = p

pub same_bool : (a b : Bool) → (a ≡ true → b ≡ true) → (b ≡ true → a ≡ true) → a ≡ b
same_bool true b f g = sym (f refl)
same_bool false true f g = g refl
same_bool false false f g = refl

pub guard_ok : {A : Type 0} (k : ℕ) (b : Bool) (r : Read A) (a : A) → guard k b r ≡ ok a → (b ≡ true) × (r ≡ ok a)
guard_ok k true r a e = (refl, e)
guard_ok k false r a e = absurd (let z : ◌≡◌ {A = ℕ} 0 1 = cc in omega arith)

-- a guarded reading that is refused: at the test, or after it
pub guard_bad : {A : Type 0} (k : ℕ) (b : Bool) (r : Read A) (p : ℕ) → guard k b r ≡ bad p → ((b ≡ false) × (k ≡ p)) ⊎ ((b ≡ true) × (r ≡ bad p))
guard_bad k true r p e = inr (refl, e)
guard_bad k false r p e = inl (refl, cc)

pub ok_inj : {A : Type 0} {a b : A} → ok a ≡ ok b → a ≡ b
ok_inj e = cc

-- ---- a rule at each number below n, by one test that computes

abbrev pub all_below : (ℕ → Bool) → ℕ → Bool
all_below f zero = true
all_below f (suc n) = f n && all_below f n

pub below : (f : ℕ → Bool) (n k : ℕ) → all_below f n ≡ true → k < n → f k ≡ true
below f zero k e h = absurd (omega arith)
below f (suc n) k e h = go (below f n k (and_true (f n) (all_below f n) e).1) (eqb k n) refl
  where
    go : (k < n → f k ≡ true) → (q : Bool) → eqb k n ≡ q → f k ≡ true
    go r true p = subst (λ (x : ℕ). f x ≡ true) (sym (eqb-true k n p)) (and_true (f n) (all_below f n) e).0
    go r false p = let d : ¬ (k ≡ n) = eqb-false k n p in r (omega arith)

pub clash : {A : Type 0} → ◌≡◌ {A = ℕ} 0 1 → A
clash e = absurd (omega arith)

-- ---- every digit is below k

abbrev pub Below : ℕ → List ℕ → Type 0
Below k [] = Unit {0}
Below k (x ∷ xs) = (x < k) × Below k xs

pub below_append : (k : ℕ) (a b : List ℕ) → Below k a → Below k b → Below k (a ++ b)
below_append k [] b p q = q
below_append k (x ∷ a) b p q = (p.0, below_append k a b p.1 q)

-- a table of bytes: each entry is what a rule gives
pub record Entry (x y : ℕ) : Type 0 where
  pub same : x ≡ y
  pub small : x < 256

pub tabled : (xs : List ℕ) (f : ℕ → ℕ) (n k : ℕ) → all_below (λ i. eqb (get_or xs i 0) (f i) && ltb (get_or xs i 0) 256) n ≡ true → k < n → Entry (get_or xs k 0) (f k)
tabled xs f n k e h =
    let a = and_true (eqb (get_or xs k 0) (f k)) (ltb (get_or xs k 0) 256) (below (λ i. eqb (get_or xs i 0) (f i) && ltb (get_or xs i 0) 256) n k e h) in
    record { same = eqb-true _ _ a.0; small = ltb-true _ 256 a.1 }
