-- `grid::upper` meets its contract. Assumes nothing.
use Rattle.grid.proofs.Signed.{sided}
use Rattle.grid.proofs.upper.Goals as goal

pub returns : goal.returns
returns c = sided c.ranges.u
