-- `cells::State::print_block` meets its contract. The measure is what is left of the block. Assumes nothing.
use Rattle.std.proofs.Common.{length}
use Rattle.cells.proofs.Blocks.{Came}
use Rattle.cells.proofs.State.print_block.Given as goal

abbrev pub invariant-loop-rest : goal.invariant-loop-rest
invariant-loop-rest g l = Came l.initial.self l.block (g.W.Write.contents l.initial.to) l.rest l.self (g.W.Write.contents l.to)

abbrev pub decreases-loop-rest : goal.decreases-loop-rest
decreases-loop-rest g l = length l.rest
