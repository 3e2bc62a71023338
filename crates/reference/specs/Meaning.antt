-- What a reference code and its offset mean, and which answer is given when: the writer's and the reader's, each with its reason,
-- in the documents' order.
-- Assumes nothing.
use Rattle.std.specs.Prelude.{◌≡◌, true, false, ◌&&◌, List, ℕ, ◌-◌, ◌≤◌, ℤ, pos, ◌+ℤ◌, ◌*ℤ◌, length}
use Rattle.grid.specs.declared.Cell.{Cell}
use Rattle.grid.specs.Units.{POLAR, index}
use Rattle.grid.specs.Answers.{Answer, accepted, refused, refusal, about, wrong_length, wrong_at}
use Rattle.grid.specs.Cells.{around}
use Rattle.grid.specs.Places.{among, Accepted, FirstBad}
use Rattle.grid.specs.Splits.{plane_lengths}
use Rattle.grid.specs.Plane.{cell_of}
use Rattle.reference.specs.Offsets.{offset_digit, offset}
use Rattle.reference.specs.Text.{fit, reference_code, aim_of}

-- ---- where an offset leads

-- the south edge of b, n heights northward
abbrev pub south_after : Cell → ℕ → ℤ
south_after b n = b.south +ℤ offset n *ℤ pos b.height

-- d is b moved by the digits m and n: so many widths eastward, longitudes a full turn apart being the same, and so many heights northward
pub record MovedBy (b d : Cell) (m n : ℕ) : Type 0 where
  pub level : d.level ≡ b.level
  pub width : d.width ≡ b.width
  pub height : d.height ≡ b.height
  pub west : around d.west ≡ around (b.west +ℤ offset m *ℤ pos b.width)
  pub south : d.south ≡ south_after b n

-- an offset that leads from b to t: M and N, each 0 to 7 or A to G, by which t is b moved
pub record OffsetTo (b t : Cell) : Type 0 where
  pub m : ℕ
  pub n : ℕ
  pub east : offset_digit m ≡ true
  pub north : offset_digit n ≡ true
  pub moves : MovedBy b t m n

-- w is a reference code, wherever it leads: an accepted plane code, which is its base's, a hyphen, and M and N, each 0 to 7 or A to G
pub record Formed (w : List ℕ) : Type 0 where
  pub base : List ℕ
  pub from : Cell
  pub m : ℕ
  pub n : ℕ
  pub form : reference_code base m n ≡ w
  pub read_base : cell_of base ≡ accepted from
  pub east : offset_digit m ≡ true
  pub north : offset_digit n ≡ true

-- the reference code w leads to the plane code goal, which is the code of the base's cell moved by M and N;
-- both are ordinary and of level 5 or finer
pub record Leads (w goal : List ℕ) : Type 0 where
  pub formed : Formed w
  pub to : Cell
  pub read_goal : cell_of goal ≡ accepted to
  pub fit_base : fit formed.from ≡ true
  pub fit_goal : fit to ≡ true
  pub moves : MovedBy formed.from to formed.m formed.n

-- ---- which answer is given when

-- base and goal are the codes of the cells b and t
pub record CodesOf (base goal : List ℕ) (b t : Cell) : Type 0 where
  pub base_is : cell_of base ≡ accepted b
  pub target_is : cell_of goal ≡ accepted t

-- the writer's answers to a base's code and a target's
pub data WhyWritten (base goal : List ℕ) : Answer (List ℕ) → Type 0 where
  -- 6, and 7 or 20, of the base: its length is no plane code's; p is the first place at which no plane code of its length goes on
  base_six : among (length base) plane_lengths ≡ false → WhyWritten base goal (refused wrong_length)
  base_wrong : {p : ℕ} → FirstBad cell_of base p → WhyWritten base goal (refused (wrong_at base p))
  -- 6, and 7 or 20, of the target, with ordinal 2: the base is accepted
  target_six : Accepted cell_of base → among (length goal) plane_lengths ≡ false → WhyWritten base goal (refused (about 2 wrong_length))
  target_wrong : {p : ℕ} → Accepted cell_of base → FirstBad cell_of goal p → WhyWritten base goal (refused (about 2 (wrong_at goal p)))
  -- 8: base or target is below level 5 or polar
  eight : {b t : Cell} → CodesOf base goal b t → (fit b && fit t) ≡ false → WhyWritten base goal (refused (refusal 8 0))
  -- 9: neither is, and their levels differ
  nine : {b t : Cell} → CodesOf base goal b t → (fit b && fit t) ≡ true → (b.level ≡ t.level → ⊥)
      → WhyWritten base goal (refused (refusal 9 0))
  -- 10: nor do they differ, and no offset leads from the base to the target
  ten : {b t : Cell} → CodesOf base goal b t → (fit b && fit t) ≡ true → b.level ≡ t.level → (OffsetTo b t → ⊥)
      → WhyWritten base goal (refused (refusal 10 0))
  -- the reference code: an offset leads there
  an_offset : {b t : Cell} → CodesOf base goal b t → (fit b && fit t) ≡ true → (o : OffsetTo b t)
      → WhyWritten base goal (accepted (reference_code base o.m o.n))

-- the reader's answers to a reference code
pub data WhyRead (w : List ℕ) : Answer (List ℕ) → Type 0 where
  -- 6: the total less 3 is no plane length
  six : among (length w - 3) plane_lengths ≡ false → WhyRead w (refused wrong_length)
  -- 7 or 20: p is the first place at which no reference code of that length, wherever it leads, goes on
  wrong : {p : ℕ} → FirstBad aim_of w p → WhyRead w (refused (wrong_at w p))
  -- 8: the base is below level 5 or polar
  not_fit : (f : Formed w) → fit f.from ≡ false → WhyRead w (refused (refusal 8 0))
  -- 12: the base is neither, and the code leads to 88° or nearer a pole
  twelve : (f : Formed w) → fit f.from ≡ true → POLAR ≤ index (south_after f.from f.n) → WhyRead w (refused (refusal 12 0))
  -- the target's plane code: the code leads there
  target : {goal : List ℕ} → Leads w goal → WhyRead w (accepted goal)
