-- `reference::span` meets its contract. Assumes nothing.
use mathlib.Core.Path.{◌∙◌, ap}
use Rattle.reference.specs.Offsets.{span_in}
use Rattle.reference.proofs.Parts.{same_span}
use Rattle.reference.proofs.span.Goals as goal

pub returns : goal.returns
returns c = same_span c.args.size c.args.a c.args.b (c.cells.ensures ∙ ap (span_in c.args.size) c.apart.ensures.0) c.ranges.a c.ranges.b
