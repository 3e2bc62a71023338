-- The box in arc-seconds: each unit count divided by 2048, exactly (document 01, "Arc-seconds").
-- Assumes nothing.
use Rattle.std.specs.Prelude.{◌≡◌, not, ◌*◌, ℤ, pos, nat_abs, T, Float, Result, Ok, Err}
use Rattle.std.specs.Float.{nan, inf, fin, binary64}
use Rattle.std.specs.Float.Ieee.{up, down, fits}
use Rattle.grid.specs.declared.Cell.{Cell}
use Rattle.grid.specs.declared.Refusal.{Refusal}
use Rattle.grid.specs.Units.{side}
use Rattle.grid.specs.Answers.{Answer, accepted, refused}
use Rattle.arcseconds.specs.declared.ArcBox.{ArcBox}

-- x is u / 2048: finite, below 0 where u is, and m * 2 ^ e * 2048 = |u|, multiplied clear of the power of two; 0 is +0.0
unfoldable pub SecondsOf : ℤ → Float → Type 0
SecondsOf u nan = ⊥
SecondsOf u (inf s) = ⊥
SecondsOf u (fin s m e) = (s ≡ not (side u)) × (m * up e * 2048 ≡ nat_abs u * down e)

-- x is an f64, and is u / 2048
pub record Exactly (u : ℤ) (x : Float) : Type 0 where
  pub value : SecondsOf u x
  pub held : T (fits binary64 x)

-- the four numbers of a cell's box, each exact
pub record BoxOf (c : Cell) (b : ArcBox) : Type 0 where
  pub west_is : Exactly c.west b.west
  pub south_is : Exactly c.south b.south
  pub width_is : Exactly (pos c.width) b.width
  pub height_is : Exactly (pos c.height) b.height

-- what a box asked for by plane code is, given what the code reads as: the cell's box, or the same refusal
unfoldable pub BoxSays : Answer Cell → Result ArcBox Refusal → Type 0
BoxSays (accepted c) (Ok b) = BoxOf c b
BoxSays (accepted c) (Err r) = ⊥
BoxSays (refused r) (Ok b) = ⊥
BoxSays (refused r) (Err s) = s ≡ r
