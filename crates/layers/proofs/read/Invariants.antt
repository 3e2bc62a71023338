-- `layers::read`: after each turn one more level is read. Assumes nothing.
use Rattle.std.specs.Prelude.{Ok}
use Prim.Native.Nat.{◌≤◌}
use Rattle.layers.specs.inner.Editions.{radices_of}
use Rattle.layers.specs.inner.Steps.{standing, Upto}
use Rattle.layers.proofs.read.Given as goal

abbrev pub invariant-loop-k : goal.invariant-loop-k
invariant-loop-k l = (l.k ≤ 10) × Upto (radices_of l.edition) l.level l.k (standing l.level l.code) (Ok l.layers)
