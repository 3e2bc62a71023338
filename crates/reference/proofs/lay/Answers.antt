-- `reference::lay` meets its contract. Assumes nothing.
use mathlib.Core.Path.{refl}
use native.Mathlib.Omega.{arith}
use Rattle.grid.proofs.Laying.{laid_narrow_by, laid_lent}
use Rattle.reference.proofs.Lines.{reference_length}
use Rattle.reference.proofs.lay.Goals as goal

pub returns-then-room_from-n : goal.returns-then-room_from-n
returns-then-room_from-n c = let s = c.args in
    laid_narrow_by s.line.now s.at _ c.refuse.ensures refl (reference_length s.base.now s.o.m s.o.n) (omega (arith, c.if-room_from-n.true, c.room_from.ensures))

pub returns : goal.returns
returns c = let s = c.args in
    laid_lent s.line.now s.at _ refl (reference_length s.base.now s.o.m s.o.n) (omega (arith, c.if-room_from-n.false, c.room_from.ensures))
    (omega (arith, c.if-room_from-n.false, c.room_from.ensures)) c.put.ensures
