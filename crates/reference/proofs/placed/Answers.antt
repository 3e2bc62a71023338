-- `reference::placed` meets its contract. Assumes nothing.
use mathlib.Core.Path.{refl}
use Rattle.reference.proofs.Parts.{square_at}
use Rattle.reference.proofs.placed.Goals as goal

pub returns : goal.returns
returns c = square_at c.args.e c.args.n refl refl c.index_at.ensures c.index_at-2.ensures
