-- `plane::write` meets its contract. Assumes nothing.
use Rattle.std.proofs.Common.{◌≡◌, ◌-◌, ◌<◌, ◌≤◌, false, length, take, drop, sym, ◌∙◌, arith, length-drop, length-take, rules}
use Rattle.grid.specs.Units.{HALF, QUARTER, Square}
use Rattle.grid.specs.Answers.{accepted}
use Rattle.grid.specs.Plane.{code_of}
use Rattle.grid.specs.inner.Roads.{square_of}
use Rattle.grid.proofs.Answers.{then_accepted, then_refused}
use Rattle.grid.proofs.Laying.{laid_handed, laid_narrow_by, laid_lent}
use Rattle.plane.specs.Text.{plane_text}
use Rattle.plane.specs.inner.Asking.{PlaneWritable}
use Rattle.plane.proofs.Asking.{level_known, level_given, square_given, text_level, text_refused, position_known}
use Rattle.plane.proofs.Plain.{plain}
use Rattle.plane.proofs.Reading.{four_in, place_length}
use Rattle.plane.proofs.write.Goals as goal
use Rattle.plane.proofs.write.Goals.{In_ok-p, Else-room_from-n}

-- the text is the code of the place that was asked for
text : (c : In_ok-p) → plane_text c.args.level c.args.longitude c.args.latitude ≡ accepted (code_of c.in_ok-level.level (square_of c.in_ok-p.p))
text c = sym (text_level c.args.level c.args.longitude c.args.latitude (level_given c.ranges.level c.in_ok-level.ensures))
    ∙ sym (then_accepted (λ (q : Square). accepted (code_of c.in_ok-level.level q)) (square_given 1 c.ranges.longitude c.ranges.latitude c.in_ok-p.ensures))

-- the level is one of the ten, and the place on the globe
low_high : (c : In_ok-p) → (1 ≤ c.in_ok-level.level) × (c.in_ok-level.level ≤ 10)
low_high c = level_known c.args.level (level_given c.ranges.level c.in_ok-level.ensures)

on_globe : (c : In_ok-p) → (c.in_ok-p.p.x < HALF) × (c.in_ok-p.p.y < QUARTER)
on_globe c = position_known 1 c.args.longitude c.args.latitude c.in_ok-p.p (square_given 1 c.ranges.longitude c.ranges.latitude c.in_ok-p.ensures)

pub returns-in_err-level : goal.returns-in_err-level
returns-in_err-level c = laid_handed _ c.args.line.now c.args.at c.from_residual.ensures
    (text_refused c.args.level c.args.longitude c.args.latitude (level_given c.ranges.level c.in_err-level.ensures))

pub returns-in_err-p : goal.returns-in_err-p
returns-in_err-p c = laid_handed _ c.args.line.now c.args.at c.from_residual-in_err-p.ensures
    (sym (text_level c.args.level c.args.longitude c.args.latitude (level_given c.ranges.level c.in_ok-level.ensures))
    ∙ sym (then_refused (λ (q : Square). accepted (code_of c.in_ok-level.level q)) (square_given 1 c.ranges.longitude c.ranges.latitude c.in_err-p.ensures)))

pub length_of-n-requires : goal.length_of-n-requires
length_of-n-requires c = low_high (goal.at.length_of-n-requires c).In_ok-p

pub returns-then-room_from-n : goal.returns-then-room_from-n
returns-then-room_from-n c = let d = (goal.at.returns-then-room_from-n c).In_ok-p in
    let l = low_high d in
    let f = on_globe d in
    laid_narrow_by c.args.line.now c.args.at _ c.refuse.ensures (text d) (place_length _ _ l.0 l.1 f.0 f.1 ∙ sym c.length_of-n.ensures) (omega (arith, c.if-room_from-n.true, c.room_from.ensures))

-- where there is room from the place on, the place is in the line
inside : (c : Else-room_from-n) → (1 ≤ c.in_ok-level.level) × (c.in_ok-level.level ≤ 10) → c.args.at ≤ length c.args.line.now
inside c l = omega (arith, c.if-room_from-n.false, c.room_from.ensures, c.length_of-n.ensures, four_in c.in_ok-level.level l.0 l.1)

pub slice_bounds-put-count : goal.slice_bounds-put-count
slice_bounds-put-count c = let g = goal.at.slice_bounds-put-count c in inside g.Else-room_from-n (low_high g.In_ok-p)

pub slice_bounds-put-start : goal.slice_bounds-put-start
slice_bounds-put-start c = let g = goal.at.slice_bounds-put-start c in search (rules, inside g.Else-room_from-n (low_high g.In_ok-p))

-- what is left of the line from there on has room for the code
lent : (c : Else-room_from-n) → (1 ≤ c.in_ok-level.level) × (c.in_ok-level.level ≤ 10) → (c.in_ok-p.p.x < HALF) × (c.in_ok-p.p.y < QUARTER)
    → PlaneWritable false c.in_ok-level.level c.in_ok-p.p (take (length c.args.line.now - c.args.at) (drop c.args.at c.args.line.now))
lent c l f =
    let e = c.length_of-n.ensures in
    record {
      level_low = l.0;
      level_high = l.1;
      wide = f.0;
      high = f.1;
      room = simp (length-take, length-drop) (omega (arith, e, c.if-room_from-n.false, c.room_from.ensures));
    }

pub put-requires : goal.put-requires
put-requires c = let g = goal.at.put-requires c in lent g.Else-room_from-n (low_high g.In_ok-p) (on_globe g.In_ok-p)

pub returns : goal.returns
returns c = let g = goal.at.returns c in
    let l = low_high g.In_ok-p in
    let f = on_globe g.In_ok-p in
    laid_lent c.args.line.now c.args.at _ (text g.In_ok-p) (place_length _ _ l.0 l.1 f.0 f.1 ∙ sym c.length_of-n.ensures) (inside g.Else-room_from-n l) (omega (arith, c.if-room_from-n.false, c.room_from.ensures)) (c.put.ensures ∙ plain (code_of c.in_ok-level.level (square_of c.in_ok-p.p)) _)
