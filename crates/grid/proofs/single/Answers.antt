-- `grid::single` meets its contract. Assumes nothing.
use Rattle.std.proofs.Common.{eq-eqb, ne_eqb}
use Rattle.grid.proofs.single.Goals as goal

pub returns-then-d-eq2 : goal.returns-then-d-eq2
returns-then-d-eq2 c = simp (eq-eqb _ _ c.if-d-eq2.true)

pub returns-else-d-eq2 : goal.returns-else-d-eq2
returns-else-d-eq2 c = simp (ne_eqb _ _ c.if-d-eq2.false)
