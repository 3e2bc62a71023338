-- `grid::number_on` meets its contract. The negative number comes back from its index by the mirror law. Assumes nothing.
use Rattle.std.proofs.Common.{◌∙◌, arith, w32}
use mir.Facts.{to_z_pos}
use Rattle.grid.proofs.Signed.{mirrored_fits, mirrored_back}
use Rattle.grid.proofs.number_on.Goals as goal

pub overflow_sub-result : goal.overflow_sub-result
overflow_sub-result c = mirrored_fits w32 {m = c.args.n} (omega arith)

pub returns-then-up : goal.returns-then-up
returns-then-up c = to_z_pos w32 {n = c.args.n} (omega arith) ∙ simp c.if-up.true

pub returns-else-up : goal.returns-else-up
returns-else-up c = mirrored_back w32 {m = c.args.n} (omega arith) ∙ simp c.if-up.false
