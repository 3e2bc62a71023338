-- A space reader's answer as C has it. Assumes nothing.
use Rattle.std.proofs.Common.{refl, rules, w32, to_z-of_z}
use Rattle.hailgully.specs.Results.{space_cell_for}
use Rattle.hailgully.proofs.Filling.{no_refusal_is}
use Rattle.hailgully.proofs.HgSpaceCellFromResultSpaceCellRefusal.from.Goals as goal

pub returns-in-Ok : goal.returns-in-Ok
unfolding space_cell_for
returns-in-Ok c = let s = c.in-Ok.s in let p = s.cell in rw (c.in-Ok.is, no_refusal_is c.default.ensures, to_z-of_z {w = w32} {z = p.west} (search rules), to_z-of_z {w = w32} {z = p.south} (search rules), to_z-of_z {w = w32} {z = s.floor} (search rules)) refl

pub returns-in-Err : goal.returns-in-Err
unfolding space_cell_for
returns-in-Err c = rw (c.in-Err.is, c.from.ensures, c.default-in-Err.ensures.1.0, c.default-in-Err.ensures.1.1.0, c.default-in-Err.ensures.1.1.1.0, c.default-in-Err.ensures.1.1.1.1.0, c.default-in-Err.ensures.1.1.1.1.1.0, c.default-in-Err.ensures.1.1.1.1.1.1.0, c.default-in-Err.ensures.1.1.1.1.1.1.1) refl
