-- `grid::least_on` meets its contract: the number on the far side comes back from its index. Assumes nothing.
use Rattle.std.proofs.Common.{◌+◌, ◌-◌, ◌∙◌, arith, w32}
use mir.Facts.{to_z_pos}
use Rattle.grid.proofs.Signed.{mirrored_fits, mirrored_back}
use Rattle.grid.proofs.least_on.Goals as goal

pub overflow_sub-result-else-up : goal.overflow_sub-result-else-up
overflow_sub-result-else-up c = mirrored_fits w32 {m = c.args.u + c.args.n - 1} (omega arith)

pub returns-then-up : goal.returns-then-up
returns-then-up c = to_z_pos w32 {n = c.args.u} (omega arith) ∙ simp c.if-up.true

pub returns-else-up : goal.returns-else-up
returns-else-up c = mirrored_back w32 {m = c.args.u + c.args.n - 1} (omega arith) ∙ simp c.if-up.false
