-- `short_codes::name_in` meets its contract. Assumes nothing.
use Rattle.short_codes.specs.Text.{name_in}
use Rattle.short_codes.proofs.name_in.Goals as goal

pub returns : goal.returns
unfolding name_in
returns c = rw c.saturating_sub-end.ensures
