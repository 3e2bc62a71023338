-- Two lists of digits or characters woven level by level, as a space code is of its plane code and its height characters; and taken apart again.
-- Assumes nothing.
use Rattle.std.specs.Prelude.{Bool, cond, List, [], ◌∷◌, ◌++◌, ℕ, ◌+◌, ◌-◌, min, ltb, take, drop}
use Rattle.grid.specs.Tree.{Read, ok, bad}
use Rattle.grid.specs.Both.{mix, first_of, second_of, first_place, second_place}

-- a level: does its first digit of each stand in front, and how many has each
pub record Strand : Type 0 where
  pub lead : Bool
  pub one : ℕ
  pub two : ℕ

-- each level's part of the one, then its part of the other
unfoldable pub weave : List Strand → List ℕ → List ℕ → List ℕ
weave [] a b = []
weave (t ∷ ts) a b = mix t.lead (take t.one a) (take t.two b) ++ weave ts (drop t.one a) (drop t.two b)

-- ---- taken apart

-- how many a level has of both
abbrev pub both_of : Strand → ℕ
both_of t = t.one + t.two

-- a part of each level's digits, one after the other
unfoldable pub parts : (Strand → List ℕ → List ℕ) → List Strand → List ℕ → List ℕ
parts f [] w = []
parts f (t ∷ ts) w = f t (take (both_of t) w) ++ parts f ts (drop (both_of t) w)

-- where the digit p of such a part stands in what is woven: a level has `count` of them, and they stand at `place`
unfoldable pub strand_place : (Strand → ℕ) → (Strand → ℕ → ℕ) → List Strand → ℕ → ℕ
strand_place count place [] p = p
strand_place count place (t ∷ ts) p = cond (ltb p (count t)) (place t p) (both_of t + strand_place count place ts (p - count t))

-- the one, and the other, out of what was woven
abbrev pub firsts : List Strand → List ℕ → List ℕ
firsts = parts (λ t. first_of t.lead t.one)

-- the other, out of what was woven
abbrev pub seconds : List Strand → List ℕ → List ℕ
seconds = parts (λ t. second_of t.lead t.one)

-- where a digit of the one, or of the other, stands in what is woven
abbrev pub place_one : List Strand → ℕ → ℕ
place_one = strand_place (λ t. t.one) (λ t. first_place t.lead)

-- where a digit of the other stands
abbrev pub place_two : List Strand → ℕ → ℕ
place_two = strand_place (λ t. t.two) (λ t. second_place t.lead t.one)

-- both were read; or the first bad digit of either, at its place in what was woven
abbrev pub together : {A B : Type 0} → List Strand → Read A → Read B → Read (A × B)
together ts (ok a) (ok b) = ok (a, b)
together ts (ok a) (bad q) = bad (place_two ts q)
together ts (bad p) (ok b) = bad (place_one ts p)
together ts (bad p) (bad q) = bad (min (place_one ts p) (place_two ts q))
