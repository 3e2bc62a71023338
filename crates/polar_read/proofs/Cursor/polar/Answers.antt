-- `Cursor::polar` meets its contract: how wide a cell of the disc is, and where one of the belt begins in the west. Assumes nothing.
use Rattle.std.proofs.Common.{◌≡◌, ◌-◌, ◌/◌, ◌<◌, ◌≤◌, arith}
use Rattle.grid.specs.Units.{TURN, HALF}
use Rattle.grid.specs.Plane.{SIXTH}
use Rattle.polar_read.proofs.Cursor.polar.Goals as goal
use Rattle.polar_read.proofs.Cursor.polar.Goals.{then-east, else-east, then-disc, else-disc}

pub returns : goal.returns
returns c =
    let p = c.polar_cell-p.result in
    let width : c.args.k < 4 → c.if-disc.sector ≡ TURN / c.split_of-s.result.ring = elim c.if-disc.branch [ then-disc w ↦ λ h. w.sector-is | else-disc w ↦ λ h. omega (arith, h, w.if-disc.false) ] in
    let west : HALF ≤ p.west → c.if-east.outward ≡ TURN - p.west - SIXTH = elim c.if-east.branch [ then-east w ↦ λ h. omega (arith, h, w.if-east.true) | else-east w ↦ λ h. w.outward-is ] in
    grind arith
