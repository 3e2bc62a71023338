-- `polar_write::to_belt` meets its contract. Assumes nothing.
use native.Mathlib.Omega.{arith}
use Rattle.polar_write.proofs.Begins.{belt_edge, belt_x, belt_y, belt_begun}
use Rattle.polar_write.proofs.to_belt.Goals as goal

pub corner_of-requires : goal.corner_of-requires
corner_of-requires c = let s = c.requires in belt_edge s.1 s.0 c.polar_cell-c.ensures

pub overflow_sub-result : goal.overflow_sub-result
overflow_sub-result c = let s = c.requires in omega (arith, belt_x s.1 s.0 c.polar_cell-c.ensures, c.corner_of.ensures)

pub nonzero_div-result-2 : goal.nonzero_div-result-2
nonzero_div-result-2 c = rw c.high.ensures (omega arith)

pub overflow_sub-result-2 : goal.overflow_sub-result-2
overflow_sub-result-2 c = let s = c.requires in omega (arith, belt_y s.1 s.0 c.polar_cell-c.ensures)

pub returns : goal.returns
returns c = let s = c.requires in
    belt_begun s.1 s.0 c.polar_cell-c.ensures c.corner_of.ensures c.high.ensures c.digits_of.ensures
