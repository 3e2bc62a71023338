-- `cells::State::print_block` meets its contract. Assumes nothing.
use Rattle.std.proofs.Common.{arith}
use Rattle.cells.proofs.Bytes.{on_err}
use Rattle.cells.proofs.Blocks.{begins, goes_on, fails, ends, left_behind}
use Rattle.cells.proofs.State.print_block.Goals as goal

pub loop-rest-init : goal.loop-rest-init
loop-rest-init g c = begins _ _ _

pub returns-in_err-used-clause-failed : goal.returns-in_err-used-clause-failed
returns-in_err-used-clause-failed g c = on_err _ c.from_residual.result (fails c.loop-rest.invariant c.print_some.ensures.filled)

pub loop-rest-preserved : goal.loop-rest-preserved
loop-rest-preserved g c =
    let u = c.in_ok-used.ensures in
    goes_on c.loop-rest.invariant c.print_some.ensures.filled (left_behind c.loop-rest.rest.now u.next (rw u.next at u.some.0)) u.written

pub returns-clause-written : goal.returns-clause-written
returns-clause-written g c = ends c.loop-rest.invariant (grind arith)
