-- `reference::cells` meets its contract. Assumes nothing.
use Prim.Native.Nat.{◌-◌}
use native.Mathlib.Omega.{arith}
use Rattle.reference.proofs.Parts.{span_near, span_far, far_fits}
use Rattle.reference.proofs.cells.Goals as goal

pub returns-then-k-lt8 : goal.returns-then-k-lt8
returns-then-k-lt8 c = span_near c.args.size c.args.d c.if-k-lt8.true

pub overflow_add-result : goal.overflow_add-result
overflow_add-result c = far_fits c.args.size (2654208000 - c.args.d) (omega arith)

pub returns : goal.returns
returns c = span_far c.args.size c.args.d c.if-k-lt8.false
