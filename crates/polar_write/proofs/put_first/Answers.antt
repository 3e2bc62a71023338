-- `polar_write::put_first` meets its contract. Assumes nothing.
use Rattle.std.proofs.Common.{arith}
use Rattle.polar_write.proofs.Starts.{pole_stored}
use Rattle.polar_write.proofs.put_first.Goals as goal

pub returns : goal.returns
returns g c = pole_stored _ c.args.north c.args.line.now (omega (arith, c.zone_place-at.ensures, c.requires)) c.hemisphere.ensures c.zone_place-at.ensures c.copy_from_slice.ensures.after
