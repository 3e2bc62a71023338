-- `layers::ask_layer` meets its contract. Assumes nothing.
use Rattle.layers.specs.inner.Editions.{radices_of}
use Rattle.layers.proofs.Sides.{asked_outside, asked_below, asked_above}
use Rattle.layers.proofs.ask_layer.Goals as goal

pub returns-then-top-n : goal.returns-then-top-n
returns-then-top-n c = asked_outside (radices_of c.args.edition) c.ranges.layer c.thickness-top.ensures c.outward-n.ensures c.refuse.ensures c.if-top-n.true

pub returns-then-layer-lt0 : goal.returns-then-layer-lt0
returns-then-layer-lt0 c = asked_below (radices_of c.args.edition) c.ranges.layer c.thickness-top.ensures c.outward-n.ensures c.below_ground.ensures c.if-top-n.false c.if-layer-lt0.true

pub returns-else-layer-lt0 : goal.returns-else-layer-lt0
returns-else-layer-lt0 c = asked_above (radices_of c.args.edition) c.ranges.layer c.thickness-top.ensures c.outward-n.ensures c.if-top-n.false c.if-layer-lt0.false
