-- `Cursor::later` meets its contract: each turn of the loop adds its level. Assumes nothing.
use mathlib.Core.Path.{◌≡◌}
use native.Mathlib.Omega.{arith}
use Rattle.ordinary_read.proofs.Levels.{begun, more, stopped}
use Rattle.ordinary_read.proofs.Cursor.later.Goals as goal

pub loop-k-init : goal.loop-k-init
loop-k-init g c = begun _ _ _ c.requires

pub level-requires : goal.level-requires
level-requires g c = (c.loop-k.auto.k, c.loop-k-test.true, c.loop-k.invariant.next)

pub loop-k-preserved : goal.loop-k-preserved
loop-k-preserved g c = more _ _ _ c.loop-k.auto.k c.loop-k.invariant c.level.ensures c.in_ok-cursor.was

pub returns-in_err-cursor : goal.returns-in_err-cursor
returns-in_err-cursor g c = stopped _ _ _ _ c.loop-k.auto.k c.loop-k-test.true c.loop-k.invariant c.level.ensures c.in_err-cursor.was c.from_residual.ensures

pub returns : goal.returns
returns g c = let e : c.loop-k.k ≡ 10 = omega arith in (rw e at c.loop-k.invariant).read
