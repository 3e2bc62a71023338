-- Reading some levels of a tree and then the others from where they led. Assumes nothing.
use mathlib.Core.Path.{◌≡◌, refl, sym, ◌∙◌, ap}
use mathlib.Core.List.{List, [], ◌∷◌, ◌++◌}
use Prim.Native.Nat.{ℕ, ◌+◌}
use lib.ListN.{take, drop}
use lib.Seq.{drop-drop}
use Rattle.grid.specs.Tree.{Read, ok, bad, shift, next, Tree, follow}
use Rattle.grid.proofs.Laws.{Laws, total, shift_zero, shift_shift, next_ok}

next_shift : {A B : Type 0} (i j : ℕ) (r : Read A) (f g : A → Read B) → ((a : A) → f a ≡ g a) → shift i (next j r f) ≡ next (i + j) (shift i r) g
next_shift i j (ok a) f g e = shift_shift i j (f a) ∙ ap (shift (i + j)) (e a)
next_shift i j (bad p) f g e = refl

-- the levels ts, and then us from where they led, with places counted on
pub follow_split : (R : Tree) (ts us : List R.Level) (n : R.Node) (w : List ℕ)
    → follow R (ts ++ us) n w ≡ next (total R ts) (follow R ts n w) (λ m. follow R us m (drop (total R ts) w))
unfolding follow total
follow_split R [] us n w = sym (shift_zero (follow R us n w))
follow_split R (t ∷ ts) us n w = go (R.child t n (take (R.size t) w)) (λ m. follow_split R ts us m (drop (R.size t) w))
  where
    go : (r : Read R.Node)
        → ((m : R.Node) → follow R (ts ++ us) m (drop (R.size t) w) ≡ next (total R ts) (follow R ts m (drop (R.size t) w)) (λ k. follow R us k (drop (total R ts) (drop (R.size t) w))))
        → next (R.size t) r (λ m. follow R (ts ++ us) m (drop (R.size t) w))
        ≡ next (R.size t + total R ts) (next (R.size t) r (λ m. follow R ts m (drop (R.size t) w))) (λ m. follow R us m (drop (R.size t + total R ts) w))
    go (ok m) ih =
        ap (shift (R.size t)) (ih m)
        ∙ next_shift (R.size t) (total R ts) (follow R ts m (drop (R.size t) w)) _ _ (λ k. ap (follow R us k) (drop-drop (total R ts) (R.size t) w))
    go (bad p) ih = refl

-- from where the levels ts led, the levels us can be gone down
pub follow_on : (R : Tree) (L : Laws R) (ts us : List R.Level) (n : R.Node) (w : List ℕ) (m : R.Node) → L.Good (ts ++ us) n → follow R ts n w ≡ ok m → L.Good us m
unfolding follow
follow_on R L [] us n w m g f = rw (let e : n ≡ m = cc in sym e) g
follow_on R L (t ∷ ts) us n w m g f =
    let a = next_ok (R.size t) (R.child t n (take (R.size t) w)) (λ x. follow R ts x (drop (R.size t) w)) m f in
    follow_on R L ts us a.0 (drop (R.size t) w) m (L.good t (ts ++ us) n (take (R.size t) w) a.0 g a.1) a.2
