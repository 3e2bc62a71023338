-- `lines::fill` meets its contract: at each turn what is left of the block gives what the whole of it was to give.
-- Assumes nothing.
use Rattle.lines.proofs.Filling.{Going}
use Rattle.lines.proofs.fill.Given as goal

abbrev pub invariant-loop-b : goal.invariant-loop-b
invariant-loop-b l = Going l.block l.held l.initial.line l.initial.out l.b-index l.here l.line l.out
