-- The loop of `Cursor::later`: the levels before level k + 1 are read.
use Rattle.std.proofs.Common.{not, nat_eq}
use Rattle.ordinary_read.proofs.Levels.{Reached}
use Rattle.ordinary_read.proofs.Cursor.later.Given as goal

abbrev pub invariant-loop-k : goal.invariant-loop-k
invariant-loop-k g l = Reached (not (nat_eq g.row.SPACED 0)) l.code l.fn.self l.k l.cursor
