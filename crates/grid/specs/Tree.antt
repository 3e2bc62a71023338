-- Codes that name cells by going down a tree, level by level: what it is to write one and to read one.
-- Assumes nothing.
use Rattle.std.specs.Prelude.{ℕ, ◌+◌, Bool, true, false, List, [], ◌∷◌, ◌++◌, take, drop}

-- what reading finds: a value, or the place of the first digit that is not allowed
pub data Read (A : Type 0) : Type 0 where
  ok : A → Read A
  bad : ℕ → Read A

-- read on where the test holds, else the digit at place p is bad
abbrev pub guard : {A : Type 0} → ℕ → Bool → Read A → Read A
guard p true r = r
guard p false r = bad p

-- the same, its place counted k digits further on
abbrev pub shift : {A : Type 0} → ℕ → Read A → Read A
shift k (ok a) = ok a
shift k (bad p) = bad (k + p)

-- go on from what was read, k digits further on
abbrev pub next : {A B : Type 0} → ℕ → Read A → (A → Read B) → Read B
next k (ok a) f = shift k (f a)
next k (bad p) f = bad p

-- what was reached; where nothing was, stay
abbrev pub reached : {A : Type 0} → A → Read A → A
reached a (ok b) = b
reached a (bad p) = a

pub record Tree : Type 1 where
  pub Level : Type 0
  pub Node : Type 0
  pub Point : Type 0  -- what a cell is made of: unit squares, layers, unit cubes
  pub size : Level → ℕ  -- the digits that a level adds
  pub digits : Level → Node → Point → List ℕ  -- those that lead from a node to a point's child
  pub child : Level → Node → List ℕ → Read Node  -- the child that they lead to

-- the digits of a point from node n downward, through the levels given
unfoldable pub code : (R : Tree) → List R.Level → R.Node → R.Point → List ℕ
code R [] n s = []
code R (t ∷ ts) n s = R.digits t n s ++ code R ts (reached n (R.child t n (R.digits t n s))) s

-- the node that a list of digits leads to
unfoldable pub follow : (R : Tree) → List R.Level → R.Node → List ℕ → Read R.Node
follow R [] n w = ok n
follow R (t ∷ ts) n w = next (R.size t) (R.child t n (take (R.size t) w)) (λ m. follow R ts m (drop (R.size t) w))
