-- `ordinary_write::put_first` meets its contract. Assumes nothing.
use Rattle.std.proofs.Common.{◌/◌, ap}
use Rattle.ordinary_write.proofs.Stores.{first_stored}
use Rattle.ordinary_write.proofs.put_first.Goals as goal

pub returns : goal.returns
returns g c =
    first_stored _ c.args.p _ c.requires.0 c.requires.1 c.zone-z.ensures c.hemisphere.ensures (ap (λ s. c.args.p.y / s.height) c.split_of-s.ensures) c.zone_place-at.ensures
