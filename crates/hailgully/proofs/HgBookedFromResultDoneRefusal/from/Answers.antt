-- An answer of the book as C has it. Assumes nothing.
use Rattle.std.proofs.Common.{refl}
use Rattle.hailgully.specs.Results.{booked_for}
use Rattle.hailgully.proofs.Filling.{no_refusal_is}
use Rattle.hailgully.proofs.HgBookedFromResultDoneRefusal.from.Goals as goal

pub returns-in-Ok : goal.returns-in-Ok
unfolding booked_for
returns-in-Ok c = rw (c.in-Ok.is, no_refusal_is c.default.ensures) refl

pub returns-in-Err : goal.returns-in-Err
unfolding booked_for
returns-in-Err c = rw (c.in-Err.is, c.from.ensures) refl
