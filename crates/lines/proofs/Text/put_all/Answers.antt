-- `lines::Text::put_all` meets its contract. Assumes nothing.
use Rattle.std.proofs.Common.{refl}
use Rattle.lines.proofs.Laying.{laid_part}
use Rattle.lines.proofs.Text.put_all.Goals as goal

pub returns : goal.returns
returns c = record { same_output = refl; laid = laid_part _ _ c.copy_from_slice.ensures.after c.requires }
