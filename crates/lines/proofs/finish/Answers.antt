-- `lines::finish` meets its contract. Assumes nothing.
use Rattle.std.proofs.Common.{arith}
use Rattle.lines.proofs.Laying.{laid_same}
use Rattle.lines.proofs.Filling.{no_last, last_text}
use Rattle.lines.proofs.finish.Goals as goal

pub returns-then-held-eq0 : goal.returns-then-held-eq0
returns-then-held-eq0 c = no_last c.args.line.now c.args.out.now c.if-held-eq0.true

pub returns : goal.returns
returns c = laid_same (last_text c.args.line.now c.args.held c.if-held-eq0.false (omega arith)) c.answer.ensures
