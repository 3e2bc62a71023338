-- `Cursor::later` meets its contract: level 2, and then each turn of the loop adds its level. Assumes nothing.
use mathlib.Core.Path.{◌≡◌}
use native.Mathlib.Omega.{arith}
use Rattle.polar_read.proofs.Levels.{begun, more, stopped}
use Rattle.polar_read.proofs.Cursor.later.Goals as goal

pub loop-k-init : goal.loop-k-init
loop-k-init g c = begun _ _ _ c.second.ensures c.in_ok-cursor.was

pub loop-k-preserved : goal.loop-k-preserved
loop-k-preserved g c = more _ _ _ c.loop-k.auto.k c.loop-k.invariant c.level.ensures c.in_ok-cursor-2.was

pub returns : goal.returns
returns g c = let e : c.loop-k.k ≡ 10 = omega arith in rw e at c.loop-k.invariant

pub returns-in_err-cursor-2 : goal.returns-in_err-cursor-2
returns-in_err-cursor-2 g c = stopped _ _ _ _ c.loop-k.auto.k c.loop-k-test.true c.loop-k.invariant c.level.ensures c.in_err-cursor-2.was c.from_residual-in_err-cursor-2.ensures
