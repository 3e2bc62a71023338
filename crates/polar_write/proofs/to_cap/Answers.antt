-- `polar_write::to_cap` meets its contract. Assumes nothing.
use Rattle.polar_write.proofs.Begins.{cap_begun}
use Rattle.polar_write.proofs.to_cap.Goals as goal

pub returns : goal.returns
returns c = cap_begun c.requires c.eastward_of.ensures c.digits_of.ensures
