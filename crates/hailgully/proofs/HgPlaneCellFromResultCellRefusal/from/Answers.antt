-- A plane reader's answer as C has it. Assumes nothing.
use Rattle.std.proofs.Common.{refl, rules, w32, to_z-of_z}
use Rattle.hailgully.specs.Results.{plane_cell_of}
use Rattle.hailgully.proofs.Filling.{no_refusal_is}
use Rattle.hailgully.proofs.HgPlaneCellFromResultCellRefusal.from.Goals as goal

pub returns-in-Ok : goal.returns-in-Ok
unfolding plane_cell_of
returns-in-Ok c = let p = c.in-Ok.c in rw (c.in-Ok.is, no_refusal_is c.default.ensures, to_z-of_z {w = w32} {z = p.west} (search rules), to_z-of_z {w = w32} {z = p.south} (search rules)) refl

pub returns-in-Err : goal.returns-in-Err
unfolding plane_cell_of
returns-in-Err c = let d = c.default-in-Err.ensures.1 in rw (c.in-Err.is, c.from.ensures, c.default-in-Err.ensures.1.0, c.default-in-Err.ensures.1.1.0, c.default-in-Err.ensures.1.1.1.0, c.default-in-Err.ensures.1.1.1.1.0, c.default-in-Err.ensures.1.1.1.1.1) refl
