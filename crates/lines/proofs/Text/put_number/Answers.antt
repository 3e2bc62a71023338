-- `lines::Text::put_number` meets its contract. Assumes nothing.
use Rattle.lines.proofs.Laying.{laid_then, laid_room, few_digits}
use Rattle.lines.proofs.Text.put_number.Goals as goal

pub put-requires : goal.put-requires
put-requires c = laid_room c.put_decimal-self.ensures 20 1 (few_digits 20 c.args.n) c.requires

pub returns : goal.returns
returns c = record { same_output = c.put.ensures.same_output; laid = laid_then c.put_decimal-self.ensures c.put.ensures.laid }
