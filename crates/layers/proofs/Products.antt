-- The product of a list of radices, as an iterator over its slice makes it.
-- Assumes nothing.
use mathlib.Core.Path.{◌≡◌, refl, sym, ◌∙◌, ap, subst}
use mathlib.Core.List.{List, [], ◌∷◌, ◌++◌, map}
use Prim.Native.Nat.{ℕ, zero, suc, ◌-◌, ◌*◌, ◌≤◌, ◌<◌}
use lib.ListN.{length, take, drop, length-drop}
use Rattle.std.proofs.Common.{take_all}
use native.Mathlib.Omega.{arith}
use native.Mathlib.Nat.{mul_assoc, mul-le-mul_left}
use Rattle.std.specs.declared.option.Option.{Option}
use Rattle.std.specs.List.{fold}
use Rattle.std.specs.Iterator.{Yields, AlwaysYields}
use Rattle.std.specs.Iterator.Runs.{EachRunFrom, YieldsRun}
use Rattle.std.proofs.lemmas.Iterator.{YieldsList}
use Rattle.grid.specs.Layers.{product}

-- from the left on, as the iterator goes
pub fold_product : {A : Type 0} (v : A → ℕ) (n : ℕ) (xs : List A) → fold (λ a x. a * v x) n xs ≡ n * product (map v xs)
fold_product v n [] = omega arith
fold_product v n (x ∷ xs) = fold_product v (n * v x) xs ∙ mul_assoc n (v x) (product (map v xs))

-- the ten radices from place k on
pub rest_all : (k : ℕ) {ws rs : List ℕ} → ws ≡ rs → length rs ≡ 10 → take (10 - k) (drop k ws) ≡ drop k rs
rest_all k {ws} {rs} e h = rw e (take_all (10 - k) (drop k rs) (omega (arith, length-drop k rs)))

product_append : (xs ys : List ℕ) → product (xs ++ ys) ≡ product xs * product ys
product_append [] ys = omega arith
product_append (x ∷ xs) ys = ap (λ n. x * n) (product_append xs ys) ∙ sym (mul_assoc x (product xs) (product ys))

grown : (a b : ℕ) → 0 < a * b → a ≤ a * b
grown a zero h = absurd (omega arith)
grown a (suc b) h = let m : a * 1 ≤ a * suc b = mul-le-mul_left a (omega arith) in omega arith

module _ {S A : Type 0} (steps : S → Option A → S → Type 0) (v : A → ℕ) where
  -- what a run has given is a front part of all that there is
  front_given : (seen : List A) (all : List ℕ) (s t : S) → AlwaysYields steps v s all → Yields steps s seen t → (more : List ℕ) × (all ≡ map v seen ++ more)
  front_given [] all s t g y = (all, refl)
  front_given (x ∷ seen) [] s t g y = absurd (g x y.0 y.1)
  front_given (x ∷ seen) (z ∷ all) s t g y =
      let h : (v x ≡ z) × AlwaysYields steps v y.0 all = g.1 x y.0 y.1 in
      let r : (more : List ℕ) × (all ≡ map v seen ++ more) = front_given seen all y.0 t h.1 y.2 in
      (r.0, ap {B = List ℕ} (λ w. w ∷ all) (sym h.0) ∙ ap {B = List ℕ} (λ w. v x ∷ w) r.1)

  -- where some are below a bound, those of each front part are
  pub runs_fit : {all : List ℕ} (s : S) (top : ℕ) → YieldsList steps v s all → 0 < product all → product all < top → EachRunFrom steps s (λ p. fold (λ a x. a * v x) 1 p.items < top)
  unfolding YieldsRun
  runs_fit {all} s top e some below = λ p _ at.
      let g : (more : List ℕ) × (all ≡ map v p.items ++ more) = front_given p.items all s p.gave.0.0 e.runs (subst (λ u. Yields steps u p.items p.gave.0.0) at p.gave.0.1) in
      let i : product all ≡ product (map v p.items) * product g.0 = ap product g.1 ∙ product_append (map v p.items) g.0 in
      let l : product (map v p.items) ≤ product (map v p.items) * product g.0 = grown (product (map v p.items)) (product g.0) (subst (λ n. 0 < n) i some) in
      let f : fold (λ a x. a * v x) 1 p.items ≡ 1 * product (map v p.items) = fold_product v 1 p.items in
      omega arith
