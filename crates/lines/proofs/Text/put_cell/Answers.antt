-- `lines::Text::put_cell` meets its contract: each part finds room behind those before it. Assumes nothing.
use Rattle.std.proofs.Common.{arith, rules}
use Rattle.lines.proofs.Laying.{number_length, signed_length, longer_same, longer_then, longer_room}
use Rattle.lines.proofs.Text.put_cell.Goals as goal

pub put_signed-requires : goal.put_signed-requires
put_signed-requires c = longer_room c.put_number.ensures 21 22 (number_length _ _) (omega (arith, c.requires))

pub put_signed-requires-2 : goal.put_signed-requires-2
put_signed-requires-2 c =
    longer_room c.put_signed.ensures 22 22 (signed_length _ _)
    (longer_room c.put_number.ensures 21 44 (number_length _ _) (omega (arith, c.requires)))

pub put_number-requires-2 : goal.put_number-requires-2
put_number-requires-2 c =
    longer_room c.put_signed-2.ensures 22 21 (signed_length _ _)
    (longer_room c.put_signed.ensures 22 43 (signed_length _ _)
    (longer_room c.put_number.ensures 21 65 (number_length _ _) (omega (arith, c.requires))))

pub put_number-requires-3 : goal.put_number-requires-3
put_number-requires-3 c =
    longer_room c.put_number-2.ensures 21 21 (number_length _ _)
    (longer_room c.put_signed-2.ensures 22 42 (signed_length _ _)
    (longer_room c.put_signed.ensures 22 64 (signed_length _ _)
    (longer_room c.put_number.ensures 21 86 (number_length _ _) (omega (arith, c.requires)))))

pub returns : goal.returns
returns c =
    longer_same (search rules)
    (longer_then c.put_number.ensures (longer_then (longer_then c.put_signed.ensures c.put_signed-2.ensures) (longer_then c.put_number-2.ensures c.put_number-3.ensures)))
