-- `grid::split_of` meets its contract: the table's lines are the list's. Assumes nothing.
use Rattle.std.proofs.Common.{refl}
use Rattle.grid.proofs.split_of.Goals as goal

pub returns : goal.returns
returns c = refl
