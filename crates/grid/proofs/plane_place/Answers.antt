-- `plane_place` meets its contract: the loop counts the levels that end before the character. Assumes nothing.
use Rattle.std.proofs.Common.{◌≡◌, arith}
use Rattle.grid.proofs.Standing.{plane_sign, plane_first, counting_next, counting_done, counting_all}
use Rattle.grid.proofs.plane_place.Goals as goal

pub returns-then-p-eq0 : goal.returns-then-p-eq0
returns-then-p-eq0 c = plane_sign _ c.if-p-eq0.true

pub returns-else-p-eq0 : goal.returns-else-p-eq0
returns-else-p-eq0 c = plane_first _ (omega (arith, c.if-p-length_of.true, c.length_of.ensures)) c.if-p-eq0.false

pub returns-then-p-length_of-2 : goal.returns-then-p-length_of-2
returns-then-p-length_of-2 c = counting_done c.loop-k.invariant c.loop-k-test.true c.length_of-in-loop-k.ensures c.if-p-length_of-2.true

pub loop-k-preserved : goal.loop-k-preserved
loop-k-preserved c = counting_next c.loop-k.invariant c.loop-k-test.true c.length_of-in-loop-k.ensures c.if-p-length_of-2.false

pub returns : goal.returns
returns c = let e : c.loop-k.k ≡ 10 = omega arith in counting_all (rw e at c.loop-k.invariant)
