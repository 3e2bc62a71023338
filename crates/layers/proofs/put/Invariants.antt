-- `layers::put`: after each turn the characters of one more level are laid down. Assumes nothing.
use Prim.Native.Nat.{◌≤◌}
use Rattle.layers.proofs.Writing.{LaidAfter}
use Rattle.layers.proofs.put.Given as goal

abbrev pub invariant-loop-k : goal.invariant-loop-k
invariant-loop-k l = (1 ≤ l.k) × LaidAfter l.edition l.level l.layer.above l.layer.rise l.initial.line l.k l.n l.line
