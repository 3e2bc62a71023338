-- `rest` meets its contract: all the levels together come to what the rules read. Assumes nothing.
use Rattle.grid.proofs.Standing.{has_inside}
use Rattle.polar_read.proofs.Levels.{some_cell, cell_found, stopped_in, bad_found}
use Rattle.polar_read.proofs.rest.Goals as goal

pub cell-requires : goal.cell-requires
cell-requires g c = some_cell c.requires c.start.result c.start.ensures.0 c.later.result c.later.ensures c.in-Ok.is

pub wrong_in-requires : goal.wrong_in-requires
wrong_in-requires g c = has_inside (stopped_in c.requires c.start.result c.start.ensures.0 c.later.result c.later.ensures c.in-Err.is)

pub returns-in-Ok : goal.returns-in-Ok
returns-in-Ok g c = cell_found c.requires c.start.result c.start.ensures.0 c.later.result c.later.ensures c.in-Ok.is c.cell.ensures

pub returns-in-Err : goal.returns-in-Err
returns-in-Err g c = bad_found c.requires c.start.result c.start.ensures.0 c.later.result c.later.ensures c.in-Err.is c.wrong_in.ensures
