-- The loop of `polar_write::put`: the code is laid down as far as level k, and the spot stands there.
use Rattle.std.proofs.Common.{not, nat_eq}
use Rattle.polar_write.proofs.Written.{Done}
use Rattle.polar_write.proofs.put.Given as goal

abbrev pub invariant-loop-k : goal.invariant-loop-k
invariant-loop-k g l = Done (not (nat_eq g.row.SPACED 0)) l.level l.k l.fn.p l.fn.line l.line l.step.rest
