-- The loop of `ordinary_write::put`: the code is laid down as far as level k.
use Rattle.std.proofs.Common.{not, nat_eq}
use Rattle.grid.specs.inner.Roads.{square_of}
use Rattle.grid.proofs.Levels.{LaidTo}
use Rattle.ordinary_write.proofs.put.Given as goal

abbrev pub invariant-loop-k : goal.invariant-loop-k
invariant-loop-k g l = LaidTo (not (nat_eq g.row.SPACED 0)) l.level l.k (square_of l.p) l.fn.line l.line
