-- Layers, over any list of radices. Sign 0 for layer 0 and up, 1 below; the rest is the layer, or the layer plus `top` below ground.
-- Assumes nothing.
use Rattle.std.specs.Prelude.{ℕ, ◌+◌, ◌-◌, ◌*◌, ◌/◌, ◌%◌, Bool, true, false, cond, ◌&&◌, List, [], ◌∷◌, ℤ, pos, negsuc, ◌==◌, nat_le, nat_lt}
use Rattle.grid.specs.Units.{side}
use Rattle.grid.specs.Answers.{Answer, accepted, refused, refusal, unless}
use Rattle.grid.specs.Tree.{Tree, Read, ok, bad, guard}

-- edition 1, ours: document 01's radices, from the coarsest
abbrev pub ours : List ℕ
ours = 64 ∷ 8 ∷ 2 ∷ 15 ∷ 15 ∷ 2 ∷ 8 ∷ 8 ∷ 8 ∷ 8 ∷ []

-- edition 2, theirs: the layer cut by bits, 6, 3, 1, 4, 4, 1, 3, 3, 3 and 3 of them (document 02, Wish 1)
abbrev pub theirs : List ℕ
theirs = 64 ∷ 8 ∷ 2 ∷ 16 ∷ 16 ∷ 2 ∷ 8 ∷ 8 ∷ 8 ∷ 8 ∷ []

-- an edition by its number: its radices, or 13 where it is neither 1 nor 2
unfoldable pub edition_in : ℤ → Answer (List ℕ)
edition_in (pos n) = cond (n == 1) (accepted ours) (unless (n == 2) (refusal 13 0) (accepted theirs))
edition_in (negsuc n) = refused (refusal 13 0)

-- how many layers they number: so many there are above ground, and as many below
abbrev pub product : List ℕ → ℕ
product [] = 1
product (r ∷ rs) = r * product rs

-- the layer, or the layer + top below ground: how far above the ground, or above the lowest layer
abbrev pub rise : ℕ → ℤ → ℕ
rise top (pos n) = n
rise top (negsuc n) = top - 1 - n

-- 0 for layer 0 and up, 1 below
abbrev pub sign : Bool → ℕ
sign true = 0
sign false = 1

-- all layers; or those above ground, or below it, whose rise is from low on, so many of them
pub data Stack : Type 0 where
  all : Stack
  part : Bool → ℕ → ℕ → Stack  -- above ground?, low, thickness

-- the first level has the sign and two decimal digits, each later level one digit; r is its radix
abbrev pub stack_digits : ℕ → ℕ → Stack → ℤ → List ℕ
stack_digits top r all z = sign (side z) ∷ (rise top z / (top / r) / 10) ∷ (rise top z / (top / r) % 10) ∷ []
stack_digits top r (part a low n) z = ((rise top z - low) / (n / r)) ∷ []

-- the layers that the sign and two decimal digits lead to: a sign 0 or 1, and a number below the radix
abbrev pub all_child : ℕ → ℕ → List ℕ → Read Stack
all_child top r [] = bad 0
all_child top r (s ∷ []) = bad 0
all_child top r (s ∷ a ∷ []) = bad 0
all_child top r (s ∷ a ∷ b ∷ []) =
    guard 0 (nat_lt s 2)
    (guard 1 (nat_lt (10 * a) r)
    (guard 2 (nat_le b 9 && nat_lt (10 * a + b) r) (ok (part (s == 0) ((10 * a + b) * (top / r)) (top / r)))))
all_child top r (s ∷ a ∷ b ∷ x ∷ w) = bad 0

-- the layers that one digit below the radix leads to
abbrev pub part_child : ℕ → Bool → ℕ → ℕ → List ℕ → Read Stack
part_child r a low n [] = bad 0
part_child r a low n (v ∷ []) = guard 0 (nat_lt v r) (ok (part a (low + v * (n / r)) (n / r)))
part_child r a low n (v ∷ x ∷ w) = bad 0

-- the layers that a level's digits lead to
abbrev pub stack_child : ℕ → ℕ → Stack → List ℕ → Read Stack
stack_child top r all w = all_child top r w
stack_child top r (part a low n) w = part_child r a low n w

-- a level of the height: how many characters, and its radix
pub record Radix : Type 0 where
  pub characters : ℕ
  pub radix : ℕ

-- the tree of layers, of which there are `top` above ground and as many below
abbrev pub layers : ℕ → Tree
layers top =
    record {
      Level = Radix;
      Node = Stack;
      Point = ℤ;
      size = λ t. t.characters;
      digits = λ t. stack_digits top t.radix;
      child = λ t. stack_child top t.radix;
    }

-- the lower face, and how many layers
abbrev pub floor_of : ℕ → Stack → ℤ
floor_of top all = negsuc (top - 1)
floor_of top (part true low n) = pos low
floor_of top (part false low n) = negsuc (top - 1 - low)

-- how many layers a stack has
abbrev pub thickness_of : ℕ → Stack → ℕ
thickness_of top all = 2 * top
thickness_of top (part a low n) = n
