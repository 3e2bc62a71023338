-- A writer's answer as C has it. Assumes nothing.
use Rattle.std.proofs.Common.{refl}
use Rattle.hailgully.specs.Results.{written_of}
use Rattle.hailgully.proofs.Filling.{no_refusal_is}
use Rattle.hailgully.proofs.HgWrittenFromResultUsizeRefusal.from.Goals as goal

pub returns-in-Ok : goal.returns-in-Ok
unfolding written_of
returns-in-Ok c = rw (c.in-Ok.is, no_refusal_is c.default.ensures) refl

pub returns-in-Err : goal.returns-in-Err
unfolding written_of
returns-in-Err c = rw (c.in-Err.is, c.from.ensures) refl
