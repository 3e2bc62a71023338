-- `reference::put` meets its contract. The loop's invariant: the line holds the bytes passed. Assumes nothing.
use mathlib.Core.Path.{◌∙◌}
use lib.ListN.{length-set}
use Rattle.reference.proofs.Lines.{copied_more, copied_all, three_more}
use Rattle.reference.proofs.put.Goals as goal

pub loop-i-preserved : goal.loop-i-preserved
loop-i-preserved c = let s = c.args in let l = c.loop-i in
    (length-set l.line l.i _ ∙ l.invariant.0, copied_more s.base.now s.line.now l.line l.i c.loop-i-test.true l.invariant.1)

pub returns : goal.returns
returns c = let s = c.args in let l = c.loop-i in
    rw (c.character.ensures, c.character-2.ensures) (three_more s.base.now s.line.now _ 45 _ _ (copied_all s.base.now s.line.now l.line l.i c.loop-i-test.false l.invariant.1))
