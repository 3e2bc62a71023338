-- `in_range` meets its contract: what `axis` gives, and the upper end.
-- Assumes nothing.
use mathlib.Core.Path.{sym, ap, ◌∙◌}
use mir.Syntax.{w32}
use mir.ValLaws.{to_z_pos}
use Rattle.grid.specs.Answers.{accepted}
use Rattle.arcseconds.specs.inner.Axis.{reading_answer}
use Rattle.arcseconds.proofs.Exact.{size_of}
use Rattle.arcseconds.proofs.Ends.{indexed_read, end_read, left_out}
use Rattle.arcseconds.proofs.in_range.Goals as goal

pub returns-in-None : goal.returns-in-None
returns-in-None c n =
    ap accepted (to_z_pos w32 c.args.half c.requires.2)
    ∙ sym (end_read c.args.half c.requires.1 n c.args.x c.seconds.result (size_of c.args.half c.ranges.half c.seconds.ensures).value c.if-x-seconds.true)

pub returns-in_default : goal.returns-in_default
returns-in_default c n =
    ap (reading_answer n) c.in-None.is
    ∙ sym (left_out c.args.half c.requires.1 n c.args.x c.seconds.result (size_of c.args.half c.ranges.half c.seconds.ensures).value (sym (c.axis.ensures n) ∙ ap (reading_answer n) c.in-None.is) c.if-x-seconds.false)

pub returns-in_default-2 : goal.returns-in_default-2
returns-in_default-2 c n = let below = c.in_default.enum_told-in-Some-1-given in
    let e = ap (reading_answer n) below.1 in
    e ∙ sym (indexed_read c.args.half c.requires.1 n c.args.x _ (sym (c.axis.ensures n) ∙ e))
