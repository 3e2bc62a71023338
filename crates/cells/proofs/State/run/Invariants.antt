-- `cells::State::run` meets its contract. Assumes nothing.
use Rattle.cells.proofs.Turns.{Kept}
use Rattle.cells.proofs.State.run.Given as goal

abbrev pub invariant-loop : goal.invariant-loop
invariant-loop g l =
    Kept l.initial.self (g.I.Read.remaining l.initial.input) (g.W.Write.contents l.initial.to) l.self (g.I.Read.remaining l.input) (g.W.Write.contents l.to)
