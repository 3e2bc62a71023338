-- `reference::read_by` meets its contract. Assumes nothing.
use mathlib.Core.Path.{refl, sym, ap, ◌∙◌}
use Rattle.grid.specs.Answers.{answer_of}
use Rattle.reference.proofs.Exits.{handed_on}
use Rattle.reference.proofs.read_by.Goals as goal

pub target_of-requires : goal.target_of-requires
target_of-requires c = (c.args.base.now, sym c.read.ensures ∙ ap answer_of c.in_ok-b.was)

pub returns-in_err-b : goal.returns-in_err-b
returns-in_err-b c = let s = c.args in
    handed_on c.from_residual.result _ s.line.now s.at c.from_residual.ensures.1 (rw (← c.read.ensures, c.in_err-b.was) refl)

pub returns-in_err-target_of : goal.returns-in_err-target_of
returns-in_err-target_of c = let s = c.args in
    handed_on c.from_residual-in_err-target_of.result _ s.line.now s.at c.from_residual-in_err-target_of.ensures.1
    (rw (← c.read.ensures, c.in_ok-b.was, ← c.target_of.ensures, c.in_err-target_of.was) refl)

pub returns : goal.returns
returns c = rw (← c.read.ensures, c.in_ok-b.was, ← c.target_of.ensures, c.in_ok-target_of.was) c.lay_target.ensures
