-- Two trees gone down side by side: each level's digits of the first, then those of the second.
-- At a level that leads (level 1 of a space code) the first digit of the one and the first of the other stand in front of the rest.
-- Assumes nothing.
use Rattle.std.specs.Prelude.{ℕ, zero, suc, ◌+◌, ◌-◌, min, Bool, true, false, List, [], ◌∷◌, ◌++◌, take, drop}
use Rattle.grid.specs.Tree.{Tree, Read, ok, bad}

-- the digits of the one, then those of the other; at a level that leads, the first of each in front
abbrev pub mix : Bool → List ℕ → List ℕ → List ℕ
mix false a b = a ++ b
mix true [] b = b
mix true (x ∷ a) [] = x ∷ a
mix true (x ∷ a) (y ∷ b) = x ∷ y ∷ (a ++ b)

-- the digits of the one and of the other, where the one has k
abbrev pub first_of : Bool → ℕ → List ℕ → List ℕ
first_of false k w = take k w
first_of true k [] = []
first_of true k (x ∷ []) = x ∷ []
first_of true k (x ∷ y ∷ w) = x ∷ take (k - 1) w

-- and those of the other
abbrev pub second_of : Bool → ℕ → List ℕ → List ℕ
second_of false k w = drop k w
second_of true k [] = []
second_of true k (x ∷ []) = []
second_of true k (x ∷ y ∷ w) = y ∷ drop (k - 1) w

-- where a digit of the one, or of the other, stands
abbrev pub first_place : Bool → ℕ → ℕ
first_place false p = p
first_place true zero = 0
first_place true (suc p) = suc (suc p)

-- of the other, after the k of the one
abbrev pub second_place : Bool → ℕ → ℕ → ℕ
second_place false k p = k + p
second_place true k zero = 1
second_place true k (suc p) = suc (k + p)

-- both were read; or the first bad digit of either
abbrev pub joined : {A B : Type 0} → Bool → ℕ → Read A → Read B → Read (A × B)
joined lead k (ok a) (ok b) = ok (a, b)
joined lead k (ok a) (bad q) = bad (second_place lead k q)
joined lead k (bad p) (ok b) = bad (first_place lead p)
joined lead k (bad p) (bad q) = bad (min (first_place lead p) (second_place lead k q))

-- a level of each, and whether their first digits lead
pub record Pair (A B : Tree) : Type 0 where
  pub lead : Bool
  pub one : A.Level
  pub two : B.Level

-- a node, a point and a child of each
abbrev pub both : Tree → Tree → Tree
both A B =
    record {
      Level = Pair A B;
      Node = A.Node × B.Node;
      Point = A.Point × B.Point;
      size = λ t. A.size t.one + B.size t.two;
      digits = λ t n s. mix t.lead (A.digits t.one n.0 s.0) (B.digits t.two n.1 s.1);
      child = λ t n w. joined t.lead (A.size t.one)
          (A.child t.one n.0 (first_of t.lead (A.size t.one) w))
          (B.child t.two n.1 (second_of t.lead (A.size t.one) w));
    }
