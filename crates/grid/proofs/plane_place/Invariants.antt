-- `plane_place`: the levels before level k + 1 end before the character. Assumes nothing.
use Rattle.grid.proofs.Standing.{Counting}
use Rattle.grid.proofs.plane_place.Given as goal

abbrev pub invariant-loop-k : goal.invariant-loop-k
invariant-loop-k l = Counting l.p l.k
