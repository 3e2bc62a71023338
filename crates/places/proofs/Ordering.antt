-- Dictionary order: a name is the same as itself alone, and what is below a name below another is below that too.
-- Assumes nothing.
use mathlib.Core.Path.{◌≡◌, refl, sym, ◌∙◌}
use mathlib.Core.Bool.{Bool, true, false}
use mathlib.Core.List.{List, [], ◌∷◌}
use Prim.Native.Nat.{ℕ, ◌<◌}
use native.Mathlib.Omega.{arith}
use lib.Dec.{ltb, eqb}
use borrow.Author.Tests.{ltb-true, ltb-false, lt-ltb, le-ltb, ne_eqb, eq-eqb}
use Rattle.std.specs.declared.cmp.Ordering.{Ordering}
use Rattle.std.specs.declared.cmp.Ordering.TheVariants.{Less, Equal, Greater}
use Rattle.std.specs.Ordering.{ordering_index, is_lt, nat_cmp, is_ge, is_eq}
use Rattle.std.specs.Cmp.Lexicographic.{slice_cmp}
use Rattle.grid.proofs.Cut.{clash}
use Rattle.places.specs.Book.{order}

pub order_step : (x : ℕ) (a b : List ℕ) → order (x ∷ a) (x ∷ b) ≡ order a b
order_step x a b = rw (le-ltb x x (omega arith))

pub order_refl : (a : List ℕ) → order a a ≡ 1
order_refl [] = refl
order_refl (x ∷ a) = order_step x a a ∙ order_refl a

-- what the first bytes of two names decide
record Heads (x y : ℕ) (a b : List ℕ) (o : ℕ) : Type 0 where
  low : x < y → o ≡ 0
  high : y < x → o ≡ 2
  even : x ≡ y → o ≡ order a b

heads : (x y : ℕ) (a b : List ℕ) → Heads x y a b (order (x ∷ a) (y ∷ b))
heads x y a b =
    record {
      low = λ h. rw (lt-ltb x y h);
      high = λ h. rw (le-ltb x y (omega arith), lt-ltb y x h);
      even = λ e. rw (le-ltb x y (omega arith), le-ltb y x (omega arith));
    }

-- the three ways in which two numbers can stand
pub by_order : {P : Type 0} (x y : ℕ) → (x < y → P) → (y < x → P) → (x ≡ y → P) → P
by_order {P} x y f g h = go (ltb x y) refl (ltb y x) refl
  where
    go : (q : Bool) → ltb x y ≡ q → (r : Bool) → ltb y x ≡ r → P
    go true e r d = f (ltb-true x y e)
    go false e true d = g (ltb-true y x d)
    go false e false d = (let a = ltb-false x y e in let b = ltb-false y x d in let u : x ≡ y = omega arith in h u)

pub order_same_is : (a b : List ℕ) → order a b ≡ 1 → a ≡ b
order_same_is [] [] e = refl
order_same_is [] (y ∷ b) e = absurd (omega arith)
order_same_is (x ∷ a) [] e = absurd (omega arith)
order_same_is (x ∷ a) (y ∷ b) e =
    let h = heads x y a b in
    by_order x y (λ l. absurd (omega (arith, h.low l))) (λ l. absurd (omega (arith, h.high l)))
    (λ u. let v : a ≡ b = order_same_is a b (sym (h.even u) ∙ e) in cc)

-- what is above a name, seen from that name
pub order_turned : (a b : List ℕ) → order b a ≡ 0 → order a b ≡ 2
order_turned [] [] e = absurd (omega arith)
order_turned [] (y ∷ b) e = absurd (omega arith)
order_turned (x ∷ a) [] e = refl
order_turned (x ∷ a) (y ∷ b) e =
    let h = heads y x b a in
    let k = heads x y a b in
    by_order y x (λ l. k.high l) (λ l. absurd (omega (arith, h.high l))) (λ u. k.even (sym u) ∙ order_turned a b (sym (h.even u) ∙ e))

pub order_trans : (a b c : List ℕ) → order a b ≡ 0 → order b c ≡ 0 → order a c ≡ 0
order_trans [] [] c e f = f
order_trans [] (y ∷ b) [] e f = absurd (omega arith)
order_trans [] (y ∷ b) (z ∷ c) e f = refl
order_trans (x ∷ a) [] c e f = absurd (omega arith)
order_trans (x ∷ a) (y ∷ b) [] e f = absurd (omega arith)
order_trans (x ∷ a) (y ∷ b) (z ∷ c) e f =
    let h = heads x y a b in
    let k = heads y z b c in
    let l = heads x z a c in
    by_order x y
    (λ p. by_order y z (λ q. l.low (omega arith)) (λ q. absurd (omega (arith, k.high q))) (λ q. l.low (omega arith)))
    (λ p. absurd (omega (arith, h.high p)))
    (λ p. by_order y z (λ q. l.low (omega arith)) (λ q. absurd (omega (arith, k.high q)))
    (λ q. l.even (omega arith) ∙ order_trans a b c (sym (h.even p) ∙ e) (sym (k.even q) ∙ f)))

-- every name but the empty one is above the empty one, and nothing is below that
pub order_empty : (a : List ℕ) → (a ≡ [] → ⊥) → order [] a ≡ 0
order_empty [] n = absurd (n refl)
order_empty (x ∷ a) n = refl

-- std's order of lists of numbers is dictionary order
pub index_order : (a b : List ℕ) → ordering_index (slice_cmp nat_cmp a b) ≡ order a b
index_order [] [] = refl
index_order [] (y ∷ b) = refl
index_order (x ∷ a) [] = refl
index_order (x ∷ a) (y ∷ b) =
    by_order x y
    (λ l. rw (lt-ltb x y l))
    (λ l. rw (le-ltb x y (omega arith), ne_eqb x y (omega arith), lt-ltb y x l))
    (λ u. rw (le-ltb x y (omega arith), eq-eqb x y u, le-ltb y x (omega arith)) (index_order a b))

-- and so of two numbers alone
pub index_less : (x y : ℕ) → x < y → ordering_index (nat_cmp x y) ≡ 0
index_less x y l = rw (lt-ltb x y l)

pub index_more : (x y : ℕ) → y < x → ordering_index (nat_cmp x y) ≡ 2
index_more x y l = rw (le-ltb x y (omega arith), ne_eqb x y (omega arith))

-- the tests of an order
pub not_below : (o : Ordering) → is_ge o ≡ true → ordering_index o ≡ 0 → ⊥
not_below Less e f = clash (cc)
not_below Equal e f = omega arith
not_below Greater e f = omega arith

pub is_below : (o : Ordering) → is_ge o ≡ false → ordering_index o ≡ 0
is_below Less e = refl
is_below Equal e = clash (cc)
is_below Greater e = clash (cc)

pub is_less : (o : Ordering) → is_lt o ≡ eqb (ordering_index o) 0
is_less Less = refl
is_less Equal = refl
is_less Greater = refl

pub is_same : (o : Ordering) → is_eq o ≡ eqb (ordering_index o) 1
is_same Less = refl
is_same Equal = refl
is_same Greater = refl
