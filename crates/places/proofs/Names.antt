-- Two names that begin alike, what comes then, and hyphens: what the loops go by.
-- Assumes nothing.
use mathlib.Core.Path.{◌≡◌, refl, sym, ◌∙◌, ap, subst}
use mathlib.Core.Bool.{Bool, true, false, not, ◌&&◌}
use mathlib.Core.List.{List, [], ◌∷◌}
use Prim.Native.Nat.{ℕ, suc, ◌+◌, ◌≤◌, ◌<◌}
use native.Mathlib.Numerals.{add-one}
use native.Mathlib.Omega.{arith}
use lib.Dec.{eqb}
use lib.ListN.{length, get_or, drop, drop_of_length-le}
use lib.Seq.{drop-cons}
use borrow.Author.Tests.{lt-ltb, ne_eqb, eq-eqb}
use Rattle.std.specs.Prelude.{nat_eq, ◌||◌}
use Rattle.std.specs.List.{list_any}
use Rattle.std.specs.Ordering.{ordering_index, nat_cmp}
use Rattle.grid.proofs.Cut.{clash}
use Rattle.places.specs.Book.{order, unhyphened}
use Rattle.places.specs.Reading.{Bytes}
use Rattle.places.specs.inner.Walk.{four_at, AlikeTo}
use Rattle.places.proofs.Ordering.{order_step, order_turned, by_order, index_less, index_more}

-- ---- the order of what is left from i on

module _ (a b : List ℕ) (i : ℕ) where
  pub order_less : i < length a → i < length b → get_or a i 0 < get_or b i 0 → order (drop i a) (drop i b) ≡ 0
  order_less h k l = rw (drop-cons a i 0 h, drop-cons b i 0 k, lt-ltb (get_or a i 0) (get_or b i 0) l)

  order_next : i < length a → i < length b → get_or a i 0 ≡ get_or b i 0 → order (drop i a) (drop i b) ≡ order (drop (i + 1) a) (drop (i + 1) b)
  order_next h k e = rw (add-one i, drop-cons a i 0 h, drop-cons b i 0 k, e) (order_step (get_or b i 0) (drop (suc i) a) (drop (suc i) b))

  pub ends_below : length a ≤ i → i < length b → order (drop i a) (drop i b) ≡ 0
  ends_below h k = rw (drop_of_length-le a h, drop-cons b i 0 k)

  pub ends_same : length a ≤ i → length b ≤ i → order (drop i a) (drop i b) ≡ 1
  ends_same h k = rw (drop_of_length-le a h, drop_of_length-le b k)

module _ (a b : List ℕ) (i : ℕ) where
  pub order_more : i < length a → i < length b → get_or b i 0 < get_or a i 0 → order (drop i a) (drop i b) ≡ 2
  order_more h k l = order_turned (drop i a) (drop i b) (order_less b a i k h l)

  pub ends_above : i < length a → length b ≤ i → order (drop i a) (drop i b) ≡ 2
  ends_above h k = order_turned (drop i a) (drop i b) (ends_below b a i k h)

-- ---- hyphens

module _ (a : List ℕ) (i : ℕ) where
  pub hyphen_here : i < length a → get_or a i 0 ≡ 45 → unhyphened (drop i a) ≡ false
  hyphen_here h e = rw (drop-cons a i 0 h, eq-eqb (get_or a i 0) 45 e)

  pub hyphen_next : i < length a → (get_or a i 0 ≡ 45 → ⊥) → unhyphened (drop i a) ≡ unhyphened (drop (i + 1) a)
  hyphen_next h e = rw (add-one i, drop-cons a i 0 h, ne_eqb (get_or a i 0) 45 e)

-- whether std's search finds one
pub hyphen_found : (w : List ℕ) → not (list_any (λ y. nat_eq y 45) w) ≡ unhyphened w
hyphen_found [] = refl
hyphen_found (x ∷ w) = go (eqb x 45) (hyphen_found w)
  where
    go : (q : Bool) → not (list_any (λ y. nat_eq y 45) w) ≡ unhyphened w → not (q || list_any (λ y. nat_eq y 45) w) ≡ (not q && unhyphened w)
    go true e = refl
    go false e = e

-- ---- names that begin alike

pub alike_begins : (a b : List ℕ) → AlikeTo a b 0
alike_begins a b = record { inside_a = omega arith; inside_b = omega arith; decides = refl; hyphens = λ e. (e, refl) }

-- one byte more
pub alike_next : {a b : List ℕ} {i : ℕ} (j : ℕ) → j ≡ i + 1 → i < length a → i < length b → get_or a i 0 ≡ get_or b i 0 → AlikeTo a b i → AlikeTo a b j
alike_next {a} {b} {i} j u h k e x = subst (AlikeTo a b) (sym u) (record {
  inside_a = omega arith;
  inside_b = omega arith;
  decides = sym (order_next a b i h k e) ∙ x.decides;
  hyphens = next;
})
  where
    next : unhyphened a ≡ true → (unhyphened (drop (i + 1) a) ≡ true) × (unhyphened (drop (i + 1) b) ≡ unhyphened b)
    next c =
        let y = x.hyphens c in
        let n : get_or a i 0 ≡ 45 → ⊥ = λ z. clash (let w = sym (hyphen_here a i h z) ∙ y.0 in cc) in
        (sym (hyphen_next a i h n) ∙ y.0, sym (hyphen_next b i k (λ z. n (e ∙ z))) ∙ y.1)

module _ (a b : List ℕ) (i : ℕ) (ones : Bytes a) (others : Bytes b) (h : i + 4 ≤ length a) (k : i + 4 ≤ length b) where
  third : (s : List ℕ) → get_or s (i + 2 + 1) 0 ≡ get_or s (i + 3) 0
  third s = let u : i + 2 + 1 ≡ i + 3 = omega arith in ap (λ x. get_or s x 0) u

  -- four bytes more
  pub alike_four : four_at a i ≡ four_at b i → AlikeTo a b i → AlikeTo a b (i + 4)
  alike_four e x =
      let p = third a in
      let q = third b in
      let e0 : get_or a i 0 ≡ get_or b i 0 = omega (arith, e, p, q, ones i, ones (i + 1), ones (i + 2), ones (i + 3), others i, others (i + 1), others (i + 2), others (i + 3)) in
      let e1 : get_or a (i + 1) 0 ≡ get_or b (i + 1) 0 = omega (arith, e, e0, p, q, ones (i + 1), ones (i + 2), ones (i + 3), others (i + 1), others (i + 2), others (i + 3)) in
      let e2 : get_or a (i + 2) 0 ≡ get_or b (i + 2) 0 = omega (arith, e, e0, e1, p, q, ones (i + 2), ones (i + 3), others (i + 2), others (i + 3)) in
      let e3 : get_or a (i + 3) 0 ≡ get_or b (i + 3) 0 = omega (arith, e, e0, e1, e2, p, q) in
      alike_next (i + 4) (omega arith) (omega arith) (omega arith) e3
      (alike_next (i + 3) (omega arith) (omega arith) (omega arith) e2
      (alike_next (i + 2) (omega arith) (omega arith) (omega arith) e1
      (alike_next (i + 1) refl (omega arith) (omega arith) e0 x)))

  -- or they decide
  pub four_less : four_at a i < four_at b i → order (drop i a) (drop i b) ≡ 0
  four_less l =
      let p = third a in
      let q = third b in
      let one : i + 1 + 1 ≡ i + 2 = omega arith in
      let two : i + 2 + 1 ≡ i + 3 = omega arith in
      by_order (get_or a i 0) (get_or b i 0) (λ u. order_less a b i (omega arith) (omega arith) u)
      (λ u. absurd (omega (arith, l, u, p, q, ones (i + 1), ones (i + 2), ones (i + 3), others (i + 1), others (i + 2), others (i + 3))))
      (λ e0. order_next a b i (omega arith) (omega arith) e0 ∙
      by_order (get_or a (i + 1) 0) (get_or b (i + 1) 0) (λ u. order_less a b (i + 1) (omega arith) (omega arith) u)
      (λ u. absurd (omega (arith, l, e0, u, p, q, ones (i + 2), ones (i + 3), others (i + 2), others (i + 3))))
      (λ e1. order_next a b (i + 1) (omega arith) (omega arith) e1 ∙ rw one (
      by_order (get_or a (i + 2) 0) (get_or b (i + 2) 0) (λ u. order_less a b (i + 2) (omega arith) (omega arith) u)
      (λ u. absurd (omega (arith, l, e0, e1, u, p, q, ones (i + 3), others (i + 3))))
      (λ e2. order_next a b (i + 2) (omega arith) (omega arith) e2 ∙ rw two (
      order_less a b (i + 3) (omega arith) (omega arith) (omega (arith, l, e0, e1, e2, p, q)))))))

pub four_more : (a b : List ℕ) (i : ℕ) → Bytes a → Bytes b → i + 4 ≤ length a → i + 4 ≤ length b → four_at b i < four_at a i → order (drop i a) (drop i b) ≡ 2
four_more a b i ones others h k l = order_turned (drop i a) (drop i b) (four_less b a i others ones k h l)

-- where both have four bytes that differ, their order as numbers is that of the names
pub fours_decide : (a b : List ℕ) (i : ℕ) → Bytes a → Bytes b → i + 4 ≤ length a → i + 4 ≤ length b → (four_at a i ≡ four_at b i → ⊥)
    → {x y : ℕ} → x ≡ four_at a i → y ≡ four_at b i → ordering_index (nat_cmp x y) ≡ order (drop i a) (drop i b)
fours_decide a b i ones others h k n {x} {y} e f =
    by_order x y
    (λ l. index_less x y l ∙ sym (four_less a b i ones others h k (omega (arith, e, f, l))))
    (λ l. index_more x y l ∙ sym (four_more a b i ones others h k (omega (arith, e, f, l))))
    (λ u. absurd (n (sym e ∙ u ∙ f)))
