-- `reference::lay_target` meets its contract. Assumes nothing.
use mathlib.Core.Path.{◌≡◌, refl, sym, ◌∙◌}
use native.Mathlib.Omega.{arith}
use lib.ListN.{length}
use Rattle.grid.specs.Plane.{code_of}
use Rattle.grid.specs.inner.Roads.{square_of}
use Rattle.grid.proofs.Laying.{laid_narrow_by, laid_lent}
use Rattle.plane.proofs.Plain.{plain}
use Rattle.plane.proofs.Reading.{four_in, place_length}
use Rattle.reference.proofs.lay_target.Goals as goal
use Rattle.reference.proofs.lay_target.Goals.{After-length_of-n}

-- the code's length
long : (c : After-length_of-n) → length (code_of c.args.t.level (square_of c.args.t.place)) ≡ c.length_of-n.result
long c = let f = c.args.t.on_the_globe in place_length _ c.args.t.place f.0 f.1 f.2 f.3 ∙ sym c.length_of-n.ensures

pub returns-then-room_from-n : goal.returns-then-room_from-n
returns-then-room_from-n c = laid_narrow_by c.args.line.now c.args.at _ c.refuse.ensures refl (long (goal.at.returns-then-room_from-n c).After-length_of-n) (omega (arith, c.if-room_from-n.true, c.room_from.ensures))

pub returns : goal.returns
returns c =
    let f = c.args.t.on_the_globe in
    let four = four_in c.args.t.level f.0 f.1 in
    laid_lent c.args.line.now c.args.at _ refl (long (goal.at.returns c).After-length_of-n)
    (omega (arith, c.if-room_from-n.false, c.room_from.ensures, c.length_of-n.ensures, four))
    (omega (arith, c.if-room_from-n.false, c.room_from.ensures)) (c.put.ensures ∙ plain (code_of c.args.t.level (square_of c.args.t.place)) _)
