-- `Cursor::second` meets its contract. Assumes nothing.
use mathlib.Core.Path.{sym, ◌∙◌, ap}
use Rattle.grid.specs.Tree.{ok}
use Rattle.polar_read.specs.inner.Naming.{named_read}
use Rattle.polar_read.proofs.Levels.{second_there}
use Rattle.polar_read.proofs.Cursor.second.Goals as goal

pub returns : goal.returns
returns g c = ap ok c.polar.ensures ∙ second_there _ c.split_of-s.ensures c.level_place-at.ensures c.args.code.now c.if-code-at.false c.args.self.north (sym (ap named_read c.in_ok-k.was) ∙ c.named.ensures)
