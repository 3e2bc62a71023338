-- `layers::floor` meets its contract. Assumes nothing.
use Rattle.layers.specs.inner.Editions.{radices_of}
use Rattle.layers.proofs.Radices.{edition_fair}
use Rattle.layers.proofs.Sides.{low_below, depth_fits, floor_down}
use Rattle.layers.proofs.floor.Goals as goal

pub below_ground-requires : goal.below_ground-requires
below_ground-requires c = low_below (radices_of c.args.edition) (edition_fair c.args.edition) _ c.requires _ c.thickness.ensures

pub overflow_cast-result-else-layer : goal.overflow_cast-result-else-layer
overflow_cast-result-else-layer c = record { sfits = depth_fits (radices_of c.args.edition) (edition_fair c.args.edition) _ c.requires _ c.thickness.ensures _ c.below_ground.ensures }

pub returns-else-layer : goal.returns-else-layer
returns-else-layer c = floor_down (radices_of c.args.edition) (edition_fair c.args.edition) _ c.requires _ c.thickness.ensures _ c.below_ground.ensures _ c.if-layer.false
