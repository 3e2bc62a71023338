-- `polar_write::put` meets its contract: the first two levels, and then each turn of the loop adds its level. Assumes nothing.
use Rattle.std.proofs.Common.{◌≡◌, arith}
use Rattle.grid.proofs.Levels.{laid_all}
use Rattle.polar_write.proofs.Written.{fits, onward}
use Rattle.polar_write.proofs.Starts.{room_first, second_fits, started}
use Rattle.polar_write.proofs.put.Goals as goal

pub put_first-requires : goal.put_first-requires
put_first-requires g c = room_first c.requires

pub put_level-requires : goal.put_level-requires
put_level-requires g c = (omega arith, second_fits c.requires c.put_first.ensures c.begin-step.ensures)

pub loop-k-init : goal.loop-k-init
loop-k-init g c = started c.requires c.put_first.ensures c.begin-step.ensures c.put_level.ensures

pub put_level-requires-in-loop-k : goal.put_level-requires-in-loop-k
put_level-requires-in-loop-k g c =
    (omega arith, fits c.loop-k.k c.loop-k.invariant c.loop-k.auto.k (omega arith) (rw c.split_of.ensures at c.divide-step.ensures))

pub loop-k-preserved : goal.loop-k-preserved
loop-k-preserved g c =
    onward c.loop-k.k c.loop-k.invariant c.loop-k.auto.k (omega arith) (rw c.split_of.ensures at c.divide-step.ensures) c.put_level-in-loop-k.ensures

pub returns : goal.returns
returns g c = let e : c.loop-k.k ≡ 10 = omega arith in laid_all (rw e at c.loop-k.invariant.text)
