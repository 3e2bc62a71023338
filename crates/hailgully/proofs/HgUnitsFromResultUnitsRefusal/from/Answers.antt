-- A reading's answer as C has it. Assumes nothing.
use Rattle.std.proofs.Common.{refl, rules, w32, to_z-of_z}
use Rattle.hailgully.specs.Results.{units_for}
use Rattle.hailgully.proofs.Filling.{no_refusal_is}
use Rattle.hailgully.proofs.HgUnitsFromResultUnitsRefusal.from.Goals as goal

pub returns-in-Ok : goal.returns-in-Ok
unfolding units_for
returns-in-Ok c = let u = c.in-Ok.u in rw (c.in-Ok.is, no_refusal_is c.default.ensures, to_z-of_z {w = w32} {z = u.longitude} (search rules), to_z-of_z {w = w32} {z = u.latitude} (search rules)) refl

pub returns-in-Err : goal.returns-in-Err
unfolding units_for
returns-in-Err c = rw (c.in-Err.is, c.from.ensures, c.default-in-Err.ensures.1.0, c.default-in-Err.ensures.1.1) refl
