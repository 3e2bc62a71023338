-- `space::read` meets its contract. Assumes nothing.
use mathlib.Core.Path.{◌≡◌, sym, ◌∙◌, ap}
use mathlib.Core.List.{List}
use Prim.Native.Nat.{ℕ}
use lib.ListN.{length}
use mir.Facts.{to_z-of_z}
use Rattle.grid.specs.Answers as answers
use Rattle.grid.specs.Layers.{edition_in}
use Rattle.grid.specs.Space.{space_cell_of}
use Rattle.grid.proofs.Answers.{then_accepted}
use Rattle.layers.specs.inner.Editions.{radices_of}
use Rattle.space.proofs.Reading.{Leveled, leveled, spaced, read_none, read_joined}
use Rattle.space.proofs.read.Goals as goal
use Rattle.space.proofs.read.Goals.{In_ok-edition, In-Some}

-- the edition that was asked for decides
asked : (c : In_ok-edition) → space_cell_of (radices_of c.in_ok-edition.edition) c.args.code.now ≡ answers.and_then (edition_in c.args.edition) (λ (rs : List ℕ). space_cell_of rs c.args.code.now)
asked c = then_accepted (λ (rs : List ℕ). space_cell_of rs c.args.code.now) (sym (rw (to_z-of_z c.ranges.edition) at c.in_ok-edition.ensures))

-- the level that was found is the code's
known : (c : In-Some) → Leveled (length c.args.code.now) c.in-Some.level
known c = leveled _ c.in-Some.ensures

pub returns-in_default : goal.returns-in_default
returns-in_default c =
    ap answers.refused c.refuse.ensures
    ∙ read_none (radices_of c.in_ok-edition.edition) c.args.code.now c.in_default.ensures
    ∙ asked (goal.at.returns-in_default c).In_ok-edition

pub height_of-height-requires : goal.height_of-height-requires
height_of-height-requires c = spaced (known (goal.at.height_of-height-requires c).In-Some)

pub read_in_space-cell-requires : goal.read_in_space-cell-requires
read_in_space-cell-requires c = spaced (known (goal.at.read_in_space-cell-requires c).In-Some)

pub returns : goal.returns
returns c =
    read_joined c.in_ok-edition.edition c.args.code.now c.in-Some.level (known (goal.at.returns c).In-Some) c.joined.ensures c.read_in_space-cell.ensures c.height_of-height.ensures.reads
    ∙ asked (goal.at.returns c).In_ok-edition
