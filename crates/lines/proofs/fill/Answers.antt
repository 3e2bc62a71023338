-- `lines::fill` meets its contract: at each turn what is left of the block gives what the whole of it was to give.
-- Assumes nothing.
use Rattle.std.proofs.Common.{◌∙◌, sym, arith}
use Rattle.lines.proofs.Filling.{goes_on, fill_end, fill_full}
use Rattle.lines.proofs.fill.Goals as goal

pub returns-then-out-here-lt128 : goal.returns-then-out-here-lt128
returns-then-out-here-lt128 c = let g = c.loop-b in sym (fill_full _ g.here g.line g.out (omega arith) (omega arith)) ∙ g.invariant.rest

pub loop-b-preserved : goal.loop-b-preserved
loop-b-preserved c = goes_on c.loop-b.invariant c.loop-b-test.true (omega arith) c.take_byte-here.ensures

pub returns : goal.returns
returns c = let g = c.loop-b in sym (fill_end _ g.here g.line g.out (omega arith)) ∙ g.invariant.rest
