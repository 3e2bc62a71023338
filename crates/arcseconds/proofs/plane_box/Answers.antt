-- `arcseconds::plane_box` meets its contract: the refusal handed on, or the cell's box.
-- Assumes nothing.
use mathlib.Core.Path.{sym, ap, ◌∙◌, subst}
use Rattle.std.proofs.Common.{Ok}
use Rattle.grid.specs.declared.Cell.{Cell}
use Rattle.grid.specs.Answers.{Answer, answer_of}
use Rattle.arcseconds.specs.Boxes.{BoxSays}
use Rattle.arcseconds.proofs.Exits.{handed_box}
use Rattle.arcseconds.proofs.plane_box.Goals as goal

pub returns-in_err-c : goal.returns-in_err-c
returns-in_err-c c = handed_box _ c.from_residual.result (sym c.read.ensures ∙ ap answer_of c.in_err-c.was) c.from_residual.ensures.1

pub returns : goal.returns
unfolding BoxSays
returns c = subst (λ (a : Answer Cell). BoxSays a (Ok c.box_of.result)) (ap answer_of (sym c.in_ok-c.was) ∙ c.read.ensures) c.box_of.ensures
