-- `reference::moved_to` meets its contract. Assumes nothing.
use mathlib.Core.Path.{◌∙◌, ap}
use mir.Facts.{to_z-of_z}
use Rattle.grid.specs.Cells.{around}
use Rattle.reference.proofs.Parts.{moved_near, moved_far}
use Rattle.reference.proofs.moved_to.Goals as goal

pub returns-then-digit-lt8 : goal.returns-then-digit-lt8
returns-then-digit-lt8 c = (moved_near c.args.size c.args.digit c.requires.0 c.requires.1 c.requires.2 c.args.z (c.remainder-a.ensures ∙ ap around (to_z-of_z c.ranges.z)) c.if-digit-lt8.true c.on.ensures.0, c.on.ensures.1)

pub returns : goal.returns
returns c = (moved_far c.args.size c.args.digit c.requires.0 c.requires.1 c.requires.2 c.args.z (c.remainder-a.ensures ∙ ap around (to_z-of_z c.ranges.z)) c.if-digit-lt8.false c.on-2.ensures.0, c.on-2.ensures.1)
