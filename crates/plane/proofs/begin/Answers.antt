-- `plane::begin` meets its contract. Assumes nothing.
use Rattle.std.proofs.Common.{sym, ◌∙◌, eq-eqb, ne_eqb}
use Rattle.plane.proofs.Start.{starts_neither, starts_zoned}
use Rattle.plane.proofs.begin.Goals as goal

pub returns-then-stray-ne0 : goal.returns-then-stray-ne0
returns-then-stray-ne0 c = (starts_neither c.args.spaced c.args.code.now (sym c.stray.ensures ∙ ne_eqb _ 0 c.if-stray-ne0.true), tt)

pub returns : goal.returns
returns c = (starts_zoned c.args.spaced c.args.code.now c.zone_place-at.ensures c.digit_below-b.ensures c.digit_below-c.ensures c.digit_below-d.ensures (sym c.stray.ensures ∙ eq-eqb _ 0 c.if-stray-ne0.false) c.zoned.ensures.0, c.zoned.ensures.1)
