-- `lines::take_byte` meets its contract. Assumes nothing.
use Rattle.lines.proofs.Filling.{on_feed, on_kept, on_past}
use Rattle.lines.proofs.take_byte.Goals as goal

pub returns-then-b-eq10 : goal.returns-then-b-eq10
returns-then-b-eq10 c = on_feed c.args.b c.args.m c.args.line.now c.args.out.now c.if-b-eq10.true c.answer-at.ensures

pub returns-then-m-lt21 : goal.returns-then-m-lt21
returns-then-m-lt21 c = on_kept c.args.b c.args.m c.args.line.now c.args.out.now c.if-b-eq10.false c.if-m-lt21.true

pub returns : goal.returns
returns c = on_past c.args.b c.args.m c.args.line.now c.args.out.now c.if-b-eq10.false c.if-m-lt21.false
