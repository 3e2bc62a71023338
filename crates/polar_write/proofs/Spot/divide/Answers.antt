-- `polar_write::Spot::divide` meets its contract. Assumes nothing.
use Rattle.polar_write.specs.inner.Spots.{spot_step}
use Rattle.polar_write.proofs.Spot.divide.Goals as goal

pub returns-in-Cap : goal.returns-in-Cap
unfolding spot_step
returns-in-Cap c = rw c.in-Cap.is c.divide_cap.ensures

pub returns-in-Cell : goal.returns-in-Cell
unfolding spot_step
returns-in-Cell c = simp c.in-Cell.is
