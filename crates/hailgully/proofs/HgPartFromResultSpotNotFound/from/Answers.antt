-- Where an entry of a place book stands, as C has it. Assumes nothing.
use Rattle.std.proofs.Common.{refl}
use Rattle.hailgully.specs.Results.{part_for}
use Rattle.hailgully.proofs.Filling.{no_refusal_is}
use Rattle.hailgully.proofs.HgPartFromResultSpotNotFound.from.Goals as goal

pub returns-in-Ok : goal.returns-in-Ok
unfolding part_for
returns-in-Ok c = rw (c.in-Ok.is, no_refusal_is c.default.ensures) refl

pub returns-in-Err : goal.returns-in-Err
unfolding part_for
returns-in-Err c = rw (c.in-Err.is, c.from-in-Err.ensures, c.from.ensures, c.default-in-Err.ensures.1.0, c.default-in-Err.ensures.1.1.0, c.default-in-Err.ensures.1.1.1) refl
