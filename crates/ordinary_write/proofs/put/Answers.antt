-- `ordinary_write::put` meets its contract: level 1, and then each turn of the loop adds its level. Assumes nothing.
use Rattle.std.proofs.Common.{◌≡◌, arith}
use Rattle.grid.proofs.Levels.{laid_all}
use Rattle.ordinary_write.proofs.Codes.{fits, begun, still, more}
use Rattle.ordinary_write.proofs.put.Goals as goal

pub loop-k-init : goal.loop-k-init
loop-k-init g c = begun c.requires c.put_first.ensures

pub put_level-requires : goal.put_level-requires
put_level-requires g c =
    let f = fits c.loop-k.k c.loop-k.auto.k (omega arith) (still c.requires c.loop-k.k c.loop-k.invariant) in
    (omega arith, rw (c.digits-d.ensures, c.split_of.ensures) f)

pub loop-k-preserved : goal.loop-k-preserved
loop-k-preserved g c = more c.requires c.loop-k.k c.loop-k.invariant c.loop-k.auto.k (omega arith) (rw (c.digits-d.ensures, c.split_of.ensures) at c.put_level.ensures)

pub returns : goal.returns
returns g c = let e : c.loop-k.k ≡ 10 = omega arith in laid_all (rw e at c.loop-k.invariant)
