-- `box_of` meets its contract, by those of its four calls.
-- Assumes nothing.
use Rattle.std.proofs.Common.{rules}
use Rattle.arcseconds.proofs.Exact.{corner, size_of}
use Rattle.arcseconds.proofs.box_of.Goals as goal

pub returns : goal.returns
returns c = record {
  west_is = corner c.args.c.west (search rules) c.seconds.ensures;
  south_is = corner c.args.c.south (search rules) c.seconds-2.ensures;
  width_is = size_of c.args.c.width (search rules) c.seconds-3.ensures;
  height_is = size_of c.args.c.height (search rules) c.seconds-4.ensures;
}
