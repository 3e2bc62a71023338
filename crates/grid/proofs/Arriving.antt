-- Going down a tree to a point: the node that is reached after some levels, and what the levels on the way write.
-- Assumes nothing.
use Rattle.std.proofs.Common.{◌≡◌, ℕ, suc, ◌<◌, List, [], ◌∷◌, ◌++◌, map, take, drop, sym, refl, ap, ◌∙◌, append_assoc, append-nil, take-append-drop, drop-cons, take-suc}
use mathlib.Core.List.{map-append}
use Rattle.grid.specs.Units.{Square, OnGlobe}
use Rattle.grid.specs.Characters.{char_of}
use Rattle.grid.specs.Tree.{ok, reached, Tree, code}
use Rattle.grid.specs.Codes.{code_in}
use Rattle.grid.specs.Splits.{split, splits, split_at}
use Rattle.grid.specs.Plane.{Node, globe, globe_digits, globe_child, plane, plane_codes, digits_of, child_of, code_of}
use Rattle.grid.proofs.Cut.{Below}
use Rattle.grid.proofs.Laws.{Laws}
use Rattle.grid.proofs.Step.{In}
use Rattle.grid.proofs.PlaneLaws.{Good, here, small, laws}

-- ---- any tree

-- the node where a point is after the levels ts
arrive : (R : Tree) → List R.Level → R.Node → R.Point → R.Node
arrive R [] n s = n
arrive R (t ∷ ts) n s = arrive R ts (reached n (R.child t n (R.digits t n s))) s

arrive_more : (R : Tree) (ts us : List R.Level) (n : R.Node) (s : R.Point) → arrive R (ts ++ us) n s ≡ arrive R us (arrive R ts n s) s
unfolding arrive
arrive_more R [] us n s = refl
arrive_more R (t ∷ ts) us n s = arrive_more R ts us (reached n (R.child t n (R.digits t n s))) s

code_split : (R : Tree) (ts us : List R.Level) (n : R.Node) (s : R.Point) → code R (ts ++ us) n s ≡ code R ts n s ++ code R us (arrive R ts n s) s
unfolding code arrive
code_split R [] us n s = refl
code_split R (t ∷ ts) us n s =
    ap (λ x. R.digits t n s ++ x) (code_split R ts us (reached n (R.child t n (R.digits t n s))) s)
    ∙ sym (append_assoc (R.digits t n s) _ _)

-- it has the point, and the levels that are left can be gone down from it
arrive_good : (R : Tree) (L : Laws R) (ts us : List R.Level) (n : R.Node) (s : R.Point) → L.Good (ts ++ us) n → L.In n s
    → L.In (arrive R ts n s) s × L.Good us (arrive R ts n s)
unfolding arrive
arrive_good R L [] us n s g i = (i, g)
arrive_good R L (t ∷ ts) us n s g i =
    let h = L.here t (ts ++ us) n s g i in
    rw h.1 (arrive_good R L ts us h.0 s (L.good t (ts ++ us) n (R.digits t n s) h.0 g h.1) h.2)

-- ---- the tree of plane cells

-- the cell of level k that has a square
pub node_at : ℕ → Square → Node
node_at k s = arrive plane (take k splits) globe s

pub node_one : (s : Square) {m : Node} → globe_child (globe_digits s) ≡ ok m → node_at 1 s ≡ m
unfolding node_at arrive
node_one s e = ap (reached globe) e

module _ (k : ℕ) (s : Square) (h : k < 10) where
  -- level k + 1 adds its own digits to the code of level k
  pub code_suc : code_of (suc k) s ≡ code_of k s ++ map char_of (digits_of (split_at k) (node_at k s) s)
  unfolding code_of code_in plane_codes code node_at
  code_suc =
      ap (map char_of)
      (ap (λ ts. code plane ts globe s) (take-suc splits k (split 0 0 0 0 0 0 0 0) h)
      ∙ code_split plane (take k splits) (split_at k ∷ []) globe s
      ∙ ap (λ x. code plane (take k splits) globe s ++ x) (append-nil (digits_of (split_at k) (node_at k s) s)))
      ∙ map-append char_of (code plane (take k splits) globe s) _

  -- and goes to the child that they lead to
  pub node_suc : {m : Node} → child_of (split_at k) (node_at k s) (digits_of (split_at k) (node_at k s) s) ≡ ok m → node_at (suc k) s ≡ m
  unfolding node_at arrive
  node_suc e =
      ap (λ ts. arrive plane ts globe s) (take-suc splits k (split 0 0 0 0 0 0 0 0) h)
      ∙ arrive_more plane (take k splits) (split_at k ∷ []) globe s
      ∙ ap (λ r. reached (node_at k s) r) e

  module _ (o : OnGlobe s) where
    pub node_good : In (node_at k s) s × Good (split_at k ∷ drop (suc k) splits) (node_at k s)
    unfolding node_at
    node_good =
        arrive_good plane laws (take k splits) (split_at k ∷ drop (suc k) splits) globe s
        (rw (← drop-cons splits k (split 0 0 0 0 0 0 0 0) h, take-append-drop k splits) refl) o

    pub digits_small : Below 32 (digits_of (split_at k) (node_at k s) s)
    digits_small =
        let g = node_good in
        let m = here (split_at k) (drop (suc k) splits) (node_at k s) s g.1 g.0 in
        small (split_at k) (drop (suc k) splits) (node_at k s) _ m.0 g.1 m.1
