-- `polar_write::to_disc` meets its contract. Assumes nothing.
use native.Mathlib.Omega.{arith}
use Rattle.polar_write.proofs.Begins.{disc_low, disc_x, disc_y, disc_begun}
use Rattle.polar_write.proofs.to_disc.Goals as goal

pub overflow_sub-result : goal.overflow_sub-result
overflow_sub-result c = let s = c.requires in
    disc_x s.2 s.0 s.1 c.polar_cell-c.ensures c.eastward_of.ensures

pub nonzero_div-result-2 : goal.nonzero_div-result-2
nonzero_div-result-2 c = rw (c.third.ensures, c.high-h.ensures) (omega arith)

pub overflow_add-result : goal.overflow_add-result
overflow_add-result c = let s = c.requires in
    record { fits = omega (arith, disc_low s.2 s.0 s.1 c.polar_cell-c.ensures) }

pub overflow_sub-result-3 : goal.overflow_sub-result-3
overflow_sub-result-3 c = let s = c.requires in
    omega (arith, disc_y s.2 s.0 s.1 c.polar_cell-c.ensures)

pub returns : goal.returns
returns c = let s = c.requires in
    disc_begun s.2 s.0 s.1 c.polar_cell-c.ensures c.eastward_of.ensures c.third.ensures
    c.high-h.ensures c.digits_of.ensures
