-- `hailgully::hg_space_read` meets its contract. Assumes nothing.
use Rattle.std.proofs.Common.{ℤ, ap, ◌∙◌, to_z-of_z}
use Rattle.grid.specs.Space.{space_cell_in}
use Rattle.hailgully.specs.Results.{space_cell_for}
use Rattle.hailgully.proofs.hg_space_read.Goals as goal

pub returns : goal.returns
returns c =
    c.from.ensures
    ∙ ap space_cell_for (c.read.ensures ∙ ap (λ (z : ℤ). space_cell_in z c.args.code.now) (to_z-of_z c.ranges.edition))
