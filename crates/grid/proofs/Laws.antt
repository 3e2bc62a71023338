-- The laws of ONE step of a tree, and what follows from them at every depth: each point has one code, and it leads to a node that holds it.
-- Assumes nothing.
use Rattle.std.proofs.Common.{◌≡◌, ℕ, suc, ◌+◌, ◌<◌, ◌≤◌, List, [], ◌∷◌, ◌++◌, length, take, drop, sym, refl, ap, ◌∙◌, subst, append_assoc, add_assoc, zero-add, arith, length-append, length-drop, take-append-drop, length-take-le, take-take, take_at, take-add, drop_at}
use lib.Seq.{take-append-le, take-append-add}
use Rattle.grid.specs.Tree.{Read, ok, bad, shift, next, reached, Tree, code, follow}
use Rattle.grid.proofs.Cut.{clash, Below, below_append, ok_inj}

unfoldable pub total : (R : Tree) → List R.Level → ℕ
total R [] = 0
total R (t ∷ ts) = R.size t + total R ts

-- the digits w are refused at place p: digits that lead to a child agree with them before p, and none do so any further
pub record Halts {A : Type 0} (child : List ℕ → Read A) (size : ℕ) (w : List ℕ) (p : ℕ) : Type 0 where
  pub inside : p < size
  pub before : (v : List ℕ) × (m : A) × (child v ≡ ok m) × (take p v ≡ take p w)
  pub no_further : (v : List ℕ) (m : A) → child v ≡ ok m → take (suc p) v ≡ take (suc p) w → ⊥

-- the laws of one step. `Good ts n`: from n the levels ts can be gone down
pub record Laws (R : Tree) : Type 1 where
  pub In : R.Node → R.Point → Type 0
  pub Good : List R.Level → R.Node → Type 0
  pub here : (t : R.Level) (ts : List R.Level) (n : R.Node) (s : R.Point) → Good (t ∷ ts) n → In n s → (m : R.Node) × (R.child t n (R.digits t n s) ≡ ok m) × In m s
  pub only : (t : R.Level) (ts : List R.Level) (n : R.Node) (w : List ℕ) (m : R.Node) (s : R.Point) → Good (t ∷ ts) n → R.child t n w ≡ ok m → In m s → In n s × (R.digits t n s ≡ w)
  pub good : (t : R.Level) (ts : List R.Level) (n : R.Node) (w : List ℕ) (m : R.Node) → Good (t ∷ ts) n → R.child t n w ≡ ok m → Good ts m
  pub sized : (t : R.Level) (ts : List R.Level) (n : R.Node) (w : List ℕ) (m : R.Node) → Good (t ∷ ts) n → R.child t n w ≡ ok m → length w ≡ R.size t
  pub small : (t : R.Level) (ts : List R.Level) (n : R.Node) (w : List ℕ) (m : R.Node) → Good (t ∷ ts) n → R.child t n w ≡ ok m → Below 32 w
  pub some : (ts : List R.Level) (n : R.Node) → Good ts n → (s : R.Point) × In n s
  pub stops : (t : R.Level) (ts : List R.Level) (n : R.Node) (w : List ℕ) (p : ℕ) → Good (t ∷ ts) n → length w ≡ R.size t → R.child t n w ≡ bad p → Halts (R.child t n) (R.size t) w p

-- places counted on
pub shift_zero : {A : Type 0} (r : Read A) → shift 0 r ≡ r
shift_zero (ok a) = refl
shift_zero (bad p) = ap bad (zero-add p)

pub shift_shift : {A : Type 0} (i j : ℕ) (r : Read A) → shift i (shift j r) ≡ shift (i + j) r
shift_shift i j (ok a) = refl
shift_shift i j (bad p) = ap bad (sym (add_assoc i j p))

-- what `next` being ok says
pub next_ok : {A B : Type 0} (k : ℕ) (r : Read A) (f : A → Read B) (b : B) → next k r f ≡ ok b → (a : A) × (r ≡ ok a) × (f a ≡ ok b)
next_ok {B = B} k (ok a) f b e = (a, refl, go (f a) refl e)
  where
    go : (r : Read B) → f a ≡ r → shift k r ≡ ok b → f a ≡ ok b
    go (ok c) q e = q ∙ e
    go (bad p) q e = clash (cc)
next_ok k (bad p) f b e = clash (cc)

module _ (R : Tree) (L : Laws R) where
  -- the square's code leads to a node that holds the square
  pub code_holds : (ts : List R.Level) (n : R.Node) (s : R.Point) → L.Good ts n → L.In n s → (m : R.Node) × (follow R ts n (code R ts n s) ≡ ok m) × L.In m s
  unfolding code follow
  code_holds [] n s g i = (n, refl, i)
  code_holds (t ∷ ts) n s g i =
      let h = L.here t ts n s g i in
      let d : length (R.digits t n s) ≡ R.size t = L.sized t ts n (R.digits t n s) h.0 g h.1 in
      let r = code_holds ts h.0 s (L.good t ts n (R.digits t n s) h.0 g h.1) h.2 in
      (r.0, rw h.1 (rw (take_at (R.digits t n s) (code R ts h.0 s) (R.size t) d, h.1, drop_at (R.digits t n s) (code R ts h.0 s) (R.size t) d) (ap (shift (R.size t)) r.1)), r.2)

  pub length_code : (ts : List R.Level) (n : R.Node) (s : R.Point) → L.Good ts n → L.In n s → length (code R ts n s) ≡ total R ts
  unfolding code total
  length_code [] n s g i = refl
  length_code (t ∷ ts) n s g i =
      let h = L.here t ts n s g i in
      let d : length (R.digits t n s) ≡ R.size t = L.sized t ts n (R.digits t n s) h.0 g h.1 in
      let r : length (code R ts h.0 s) ≡ total R ts = length_code ts h.0 s (L.good t ts n (R.digits t n s) h.0 g h.1) h.2 in
      rw h.1 (simp length-append (omega arith))

  pub code_small : (ts : List R.Level) (n : R.Node) (s : R.Point) → L.Good ts n → L.In n s → Below 32 (code R ts n s)
  unfolding code
  code_small [] n s g i = tt
  code_small (t ∷ ts) n s g i =
      let h = L.here t ts n s g i in
      let r = code_small ts h.0 s (L.good t ts n (R.digits t n s) h.0 g h.1) h.2 in
      rw h.1 (below_append 32 (R.digits t n s) (code R ts h.0 s) (L.small t ts n (R.digits t n s) h.0 g h.1) r)

  -- a node that digits lead to holds a square only where they are that square's code
  pub code_only : (ts : List R.Level) (n : R.Node) (w : List ℕ) (m : R.Node) (s : R.Point) → L.Good ts n → length w ≡ total R ts → follow R ts n w ≡ ok m → L.In m s → L.In n s × (code R ts n s ≡ w)
  unfolding code follow total
  code_only [] n [] m s g l f i = (subst (λ (x : R.Node). L.In x s) (cc) i, refl)
  code_only [] n (x ∷ w) m s g l f i = absurd (omega arith)
  code_only (t ∷ ts) n w m s g l f i =
      let a = next_ok (R.size t) (R.child t n (take (R.size t) w)) (λ x. follow R ts x (drop (R.size t) w)) m f in
      let r = code_only ts a.0 (drop (R.size t) w) m s (L.good t ts n (take (R.size t) w) a.0 g a.1) (simp length-drop (omega arith)) a.2 i in
      let o = L.only t ts n (take (R.size t) w) a.0 s g a.1 r.0 in
      (o.0, rw (o.1, a.1, r.1) (take-append-drop (R.size t) w))

  pub follow_good : (ts : List R.Level) (n : R.Node) (w : List ℕ) (m : R.Node) → L.Good ts n → follow R ts n w ≡ ok m → L.Good [] m
  unfolding follow
  follow_good [] n w m g f = subst (λ (x : R.Node). L.Good [] x) (cc) g
  follow_good (t ∷ ts) n w m g f =
      let a = next_ok (R.size t) (R.child t n (take (R.size t) w)) (λ x. follow R ts x (drop (R.size t) w)) m f in
      follow_good ts a.0 (drop (R.size t) w) m (L.good t ts n (take (R.size t) w) a.0 g a.1) a.2

-- more levels only add digits at the end
pub code_more : (R : Tree) (ts us : List R.Level) (n : R.Node) (s : R.Point) → (r : List ℕ) × (code R ts n s ++ r ≡ code R (ts ++ us) n s)
unfolding code
code_more R [] us n s = (code R us n s, refl)
code_more R (t ∷ ts) us n s =
    let r = code_more R ts us (reached n (R.child t n (R.digits t n s))) s in
    (r.0, append_assoc (R.digits t n s) _ r.0 ∙ ap (λ x. R.digits t n s ++ x) r.1)

-- ---- a refusal's place

-- the digits w are refused at place p: digits of the same number that lead on agree with them before p, and none do so any further
pub record Ends (R : Tree) (ts : List R.Level) (n : R.Node) (w : List ℕ) (p : ℕ) : Type 0 where
  pub inside : p < total R ts
  pub before : (v : List ℕ) × (m : R.Node) × (length v ≡ total R ts) × (follow R ts n v ≡ ok m) × (take p v ≡ take p w)
  pub no_further : (v : List ℕ) (m : R.Node) → length v ≡ total R ts → follow R ts n v ≡ ok m → take (suc p) v ≡ take (suc p) w → ⊥

drop_take_add : (k j : ℕ) (w : List ℕ) → k ≤ length w → drop k (take (k + j) w) ≡ take j (drop k w)
drop_take_add k j w h = ap (λ x. drop k x) (take-add k j w) ∙ drop_at (take k w) (take j (drop k w)) k (length-take-le k w h)

pub shift_bad : {A : Type 0} (k : ℕ) (r : Read A) (p : ℕ) → shift k r ≡ bad p → (q : ℕ) × (r ≡ bad q) × (k + q ≡ p)
shift_bad k (ok a) p e = clash (cc)
shift_bad k (bad q) p e = (q, refl, cc)

module _ (R : Tree) (L : Laws R) where
  pub follow_small : (ts : List R.Level) (n : R.Node) (w : List ℕ) (m : R.Node) → L.Good ts n → length w ≡ total R ts → follow R ts n w ≡ ok m → Below 32 w
  unfolding follow total
  follow_small [] n [] m g l f = tt
  follow_small [] n (x ∷ w) m g l f = absurd (omega arith)
  follow_small (t ∷ ts) n w m g l f =
      let a = next_ok (R.size t) (R.child t n (take (R.size t) w)) (λ x. follow R ts x (drop (R.size t) w)) m f in
      let r = follow_small ts a.0 (drop (R.size t) w) m (L.good t ts n (take (R.size t) w) a.0 g a.1) (simp length-drop (omega arith)) a.2 in
      subst (Below 32) (take-append-drop (R.size t) w) (below_append 32 (take (R.size t) w) (drop (R.size t) w) (L.small t ts n (take (R.size t) w) a.0 g a.1) r)

  module _ (t : R.Level) (ts : List R.Level) (n : R.Node) (w : List ℕ) (g : L.Good (t ∷ ts) n) (l : length w ≡ R.size t + total R ts) where
    abbrev k : ℕ
    k = R.size t

    -- the level is read, and the rest is refused
    ends_later : (m : R.Node) (q : ℕ) → R.child t n (take k w) ≡ ok m → Ends R ts m (drop k w) q → Ends R (t ∷ ts) n w (k + q)
    unfolding follow total
    ends_later m q e E =
        let d : length (take k w) ≡ k = length-take-le k w (omega arith) in
        let v = E.before in
        record {
          inside = omega (arith, E.inside);
          before = (
            take k w ++ v.0,
            v.1,
            length-append (take k w) v.0 ∙ omega (arith, d, v.2),
            rw (take_at (take k w) v.0 k d, drop_at (take k w) v.0 k d, e) (ap (shift k) v.3),
            ap (λ (i : ℕ). take (i + q) (take k w ++ v.0)) (sym d) ∙ take-append-add (take k w) v.0 q ∙ ap (λ x. take k w ++ x) v.4 ∙ sym (take-add k q w),
          );
          no_further = λ x y lx ex tx.
              (let a = next_ok k (R.child t n (take k x)) (λ z. follow R ts z (drop k x)) y ex in
              let hx : k ≤ length x = omega (arith, lx) in
              let hw : k ≤ length w = omega (arith, l) in
              let s : k + suc q ≡ suc (k + q) = omega arith in
              let tt' : take (k + suc q) x ≡ take (k + suc q) w = ap (λ (i : ℕ). take i x) s ∙ tx ∙ ap (λ (i : ℕ). take i w) (sym s) in
              let f : take k x ≡ take k w = sym (take-take k (k + suc q) x (omega arith)) ∙ ap (take k) tt' ∙ take-take k (k + suc q) w (omega arith) in
              let same : a.0 ≡ m = ok_inj (sym a.1 ∙ ap (R.child t n) f ∙ e) in
              let r : take (suc q) (drop k x) ≡ take (suc q) (drop k w) = sym (drop_take_add k (suc q) x hx) ∙ ap (drop k) tt' ∙ drop_take_add k (suc q) w hw in
              E.no_further (drop k x) y (length-drop k x ∙ omega (arith, lx)) (subst (λ (z : R.Node). follow R ts z (drop k x) ≡ ok y) same a.2) r);
        }

    -- the level itself is refused
    ends_here : (q : ℕ) → Halts (R.child t n) k (take k w) q → Ends R (t ∷ ts) n w q
    unfolding follow total
    ends_here q H =
        let v = H.before in
        let i : q < k = H.inside in
        let lv : length v.0 ≡ k = L.sized t ts n v.0 v.1 g v.2 in
        let gm = L.good t ts n v.0 v.1 g v.2 in
        let s = L.some ts v.1 gm in
        let c = code R ts v.1 s.0 in
        let h = code_holds R L ts v.1 s.0 gm s.1 in
        let lc : length c ≡ total R ts = length_code R L ts v.1 s.0 gm s.1 in
        record {
          inside = omega (arith, i);
          before = (
            v.0 ++ c,
            h.0,
            length-append v.0 c ∙ omega (arith, lv, lc),
            rw (take_at v.0 c k lv, drop_at v.0 c k lv, v.2) (ap (shift k) h.1),
            take-append-le q v.0 c (omega (arith, i, lv)) ∙ v.3 ∙ take-take q k w (omega arith),
          );
          no_further = λ x y lx ex tx.
              (let a = next_ok k (R.child t n (take k x)) (λ z. follow R ts z (drop k x)) y ex in
              H.no_further (take k x) a.0 a.1 (take-take (suc q) k x i ∙ tx ∙ sym (take-take (suc q) k w i)));
        }

  pub follow_ends : (ts : List R.Level) (n : R.Node) (w : List ℕ) (p : ℕ) → L.Good ts n → length w ≡ total R ts → follow R ts n w ≡ bad p → Ends R ts n w p
  unfolding follow total
  follow_ends [] n w p g l f = clash (cc)
  follow_ends (t ∷ ts) n w p g l f = go (R.child t n (take (R.size t) w)) refl f (λ m. follow_ends ts m (drop (R.size t) w))
    where
      d : length (take (R.size t) w) ≡ R.size t
      d = length-take-le (R.size t) w (omega arith)

      go : (r : Read R.Node) → R.child t n (take (R.size t) w) ≡ r → next (R.size t) r (λ m. follow R ts m (drop (R.size t) w)) ≡ bad p
          → ((m : R.Node) (q : ℕ) → L.Good ts m → length (drop (R.size t) w) ≡ total R ts → follow R ts m (drop (R.size t) w) ≡ bad q → Ends R ts m (drop (R.size t) w) q)
          → Ends R (t ∷ ts) n w p
      go (ok m) e f ih =
          let s = shift_bad (R.size t) (follow R ts m (drop (R.size t) w)) p f in
          subst (Ends R (t ∷ ts) n w) s.2
          (ends_later t ts n w g l m s.0 e (ih m s.0 (L.good t ts n (take (R.size t) w) m g e) (length-drop (R.size t) w ∙ omega arith) s.1))
      go (bad q) e f ih =
          subst (Ends R (t ∷ ts) n w) (let z : q ≡ p = cc in z) (ends_here t ts n w g l q (L.stops t ts n (take (R.size t) w) q g d e))
