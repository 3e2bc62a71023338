-- `reference::write` meets its contract. Assumes nothing.
use mathlib.Core.Path.{refl}
use Rattle.reference.proofs.Exits.{handed_on}
use Rattle.reference.proofs.write.Goals as goal

pub returns-in_err-o : goal.returns-in_err-o
returns-in_err-o c = let s = c.args in
    handed_on c.from_residual.result _ s.line.now s.at c.from_residual.ensures.1 (rw (← c.offset_to.ensures, c.in_err-o.was) refl)

pub returns : goal.returns
returns c = rw (← c.offset_to.ensures, c.in_ok-o.was) c.lay.ensures
