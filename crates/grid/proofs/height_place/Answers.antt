-- `height_place` meets its contract. Assumes nothing.
use Rattle.std.proofs.Common.{◌-◌, arith}
use Rattle.grid.proofs.Standing.{few, height_sign, height_tens, height_later}
use Rattle.grid.proofs.height_place.Goals as goal

pub returns-then-p-eq0 : goal.returns-then-p-eq0
returns-then-p-eq0 c = height_sign _ c.if-p-eq0.true

pub returns-then-p-eq1 : goal.returns-then-p-eq1
returns-then-p-eq1 c = height_tens _ c.if-p-eq1.true c.length_of.ensures

pub overflow_add-result-2 : goal.overflow_add-result-2
overflow_add-result-2 c = let n = few (c.args.p - 1 - 1) (omega (arith, c.requires)) in record { fits = omega (arith, n, c.length_of-2.ensures, c.requires) }

pub returns : goal.returns
returns c = height_later _ c.if-p-eq0.false c.if-p-eq1.false c.length_of-2.ensures
