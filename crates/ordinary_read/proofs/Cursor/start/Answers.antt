-- `Cursor::start` meets its contract: in the west the columns count outward. Assumes nothing.
use Rattle.std.proofs.Common.{◌≡◌, ◌-◌, ◌≤◌, arith}
use Rattle.ordinary_read.proofs.Cursor.start.Goals as goal
use Rattle.ordinary_read.proofs.Cursor.start.Goals.{then-east, else-east}

pub returns : goal.returns
returns c =
    let west : c.args.zone ≤ 30 → c.if-east.column ≡ 30 - c.args.zone = elim c.if-east.branch [ then-east w ↦ λ h. omega (arith, h, w.if-east.true) | else-east w ↦ λ h. omega (arith, w.column-is) ] in
    record { read = grind arith; stands = search }
