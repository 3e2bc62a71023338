-- `lines::Text::put_refusal` meets its contract. Assumes nothing.
use Rattle.std.proofs.Common.{arith, rules}
use Rattle.lines.proofs.Laying.{number_length, longer_same, longer_then, longer_room}
use Rattle.lines.proofs.Text.put_refusal.Goals as goal

pub put_number-requires-2 : goal.put_number-requires-2
put_number-requires-2 c =
    longer_room c.put_number.ensures 21 21 (number_length _ _) (longer_room c.put_all.ensures 8 42 (omega arith) (omega (arith, c.requires)))

pub returns : goal.returns
returns c = longer_same (search rules) (longer_then c.put_all.ensures (longer_then c.put_number.ensures c.put_number-2.ensures))
