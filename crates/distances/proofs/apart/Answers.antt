-- `distances::apart` meets its contract. Assumes nothing.
use mathlib.Core.Path.{◌∙◌, ap}
use Prim.Native.Nat.{◌<◌}
use native.Mathlib.Omega.{arith}
use mir.Facts.{to_z-of_z}
use Rattle.grid.specs.Cells.{around}
use Rattle.distances.proofs.Turning.{remainder_below, apart_onward, apart_back}
use Rattle.distances.proofs.apart.Goals as goal

pub overflow_sub-result-else-x-y : goal.overflow_sub-result-else-x-y
overflow_sub-result-else-x-y c = let h : c.remainder-x.result < 2654208000 = remainder_below c.args.a (c.remainder-x.ensures ∙ ap around (to_z-of_z c.ranges.a)) in omega arith

pub returns-then-x-y : goal.returns-then-x-y
returns-then-x-y c = apart_onward c.args.a c.args.b (c.remainder-x.ensures ∙ ap around (to_z-of_z c.ranges.a)) (c.remainder-y.ensures ∙ ap around (to_z-of_z c.ranges.b)) c.if-x-y.true

pub returns-else-x-y : goal.returns-else-x-y
returns-else-x-y c = apart_back c.args.a c.args.b (c.remainder-x.ensures ∙ ap around (to_z-of_z c.ranges.a)) (c.remainder-y.ensures ∙ ap around (to_z-of_z c.ranges.b)) c.if-x-y.false
