-- `cells::State::run` meets its contract. Assumes nothing.
use Rattle.std.proofs.Common.{arith}
use Rattle.cells.proofs.Turns.{first_turn, next_turn, at_end, all_printed}
use Rattle.cells.proofs.State.run.Goals as goal

pub loop-init : goal.loop-init
loop-init g c = first_turn _ _ _

pub loop-preserved : goal.loop-preserved
loop-preserved g c = let t = c.in_ok-turn.ensures in next_turn c.loop.invariant c.in_ok-turn.field-0 c.turn.new.block c.if-is_none.ensures t.read t.written

pub returns-then-is_none-clause-prints : goal.returns-then-is_none-clause-prints
returns-then-is_none-clause-prints g c h =
    let t = c.in_ok-turn.ensures in
    let o = c.in_ok-turn.field-0 in
    let n = c.if-is_none.ensures in
    let a = at_end _ o n t.ended (omega (arith, c.loop.auto.block, h)) in
    all_printed c.loop.invariant _ _ (omega arith) a.0 a.1 (at_end _ o n t.answered)
