-- `grid::outward` meets its contract. Assumes nothing.
use Rattle.std.proofs.Common.{nat_abs, ap}
use Rattle.grid.proofs.Signed.{casts, flipped_fits, flipped_back, kept}
use Rattle.grid.proofs.outward.Goals as goal

pub overflow_sub-result : goal.overflow_sub-result
overflow_sub-result c = flipped_fits c.ranges.u c.if-u-lt0.true

pub overflow_cast-result : goal.overflow_cast-result
overflow_cast-result c = casts c.ranges.u (flipped_back c.ranges.u c.if-u-lt0.true)

pub overflow_cast-result-else-u-lt0 : goal.overflow_cast-result-else-u-lt0
overflow_cast-result-else-u-lt0 c = casts c.ranges.u (kept c.ranges.u c.if-u-lt0.false)

pub returns-then-u-lt0 : goal.returns-then-u-lt0
returns-then-u-lt0 c = ap nat_abs (flipped_back c.ranges.u c.if-u-lt0.true)

pub returns-else-u-lt0 : goal.returns-else-u-lt0
returns-else-u-lt0 c = ap nat_abs (kept c.ranges.u c.if-u-lt0.false)
