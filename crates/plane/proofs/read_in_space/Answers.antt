-- `plane::read_in_space` meets its contract. Assumes nothing.
use Rattle.std.proofs.Common.{◌≡◌, true, map, length, take, sym, ap, ◌∙◌, subst, arith}
use Rattle.std.specs.Prelude.{Ok}
use Rattle.grid.specs.Characters.{digit_of}
use Rattle.grid.specs.Plane.{globe_child}
use Rattle.grid.specs.Tree.{bad}
use Rattle.grid.specs.inner.Standing.{plane_in}
use Rattle.grid.proofs.Standing.{plane_long, has_inside}
use Rattle.plane.specs.inner.Start.{first_read, Ranged}
use Rattle.plane.proofs.Start.{first_digits_law}
use Rattle.plane.proofs.Reading.{Leveled, leveled_at, read_rest, four_in, first_has, first_refused}
use Rattle.plane.proofs.read_in_space.Goals as goal
use Rattle.plane.proofs.read_in_space.Goals.{After-begin, In-Err, Start}

-- the first bad one of the four
bad_first : (c : In-Err) → bad c.in-Err.place ≡ globe_child (take 4 (map digit_of ((plane_in true c.args.level c.args.code.now))))
bad_first c = ap first_read (sym c.in-Err.is) ∙ (let it : first_read c.begin.result ≡ globe_child (take 4 (map digit_of ((plane_in true c.args.level c.args.code.now)))) = c.begin.ensures.0 ∙ ap globe_child (sym (first_digits_law true c.args.level c.args.code.now c.requires.some c.requires.most c.requires.long)) in it)

known : (c : Start) → Leveled (length ((plane_in true c.args.level c.args.code.now))) c.args.level
known c = let p = c.requires in
    leveled_at (length ((plane_in true c.args.level c.args.code.now))) c.args.level p.some p.most (plane_long c.args.level c.args.code.now p.some p.most true p.long)

-- the first four characters lead where they should
led : (c : After-begin) → first_read c.begin.result ≡ globe_child (take 4 (map digit_of ((plane_in true c.args.level c.args.code.now))))
led c = c.begin.ensures.0 ∙ ap globe_child (sym (first_digits_law true c.args.level c.args.code.now c.requires.some c.requires.most c.requires.long))

pub begin-requires : goal.begin-requires
begin-requires c = omega (arith, c.requires.long, four_in c.args.level c.requires.some c.requires.most)

pub rest-requires : goal.rest-requires
rest-requires c = let p = c.requires in
    let r = subst Ranged (c.in-Ok.is ∙ ap Ok c.in-Sheet.is) c.begin.ensures.1 in
    record { some_level = p.some; last_level = p.most; some_zone = r.0; last_zone = r.1; last_row = r.2; length_is = p.long }

pub wrong_in-requires : goal.wrong_in-requires
wrong_in-requires c = has_inside (first_has true c.args.level c.args.code.now c.requires.some c.requires.most c.requires.long (bad_first (goal.at.wrong_in-requires c).In-Err))

pub returns-in-Sheet : goal.returns-in-Sheet
returns-in-Sheet c = let s = c in
    read_rest ((plane_in true c.args.level c.args.code.now)) (known (goal.at.returns-in-Sheet c).Start) (ap first_read (sym (c.in-Ok.is ∙ ap Ok c.in-Sheet.is)) ∙ led (goal.at.returns-in-Sheet c).After-begin) c.rest.ensures

pub returns-in-Pole : goal.returns-in-Pole
returns-in-Pole c = let s = c in
    read_rest ((plane_in true c.args.level c.args.code.now)) (known (goal.at.returns-in-Pole c).Start) (ap first_read (sym (c.in-Ok.is ∙ ap Ok c.in-Pole.is)) ∙ led (goal.at.returns-in-Pole c).After-begin) c.rest-in-Pole.ensures

pub returns-in-Err : goal.returns-in-Err
returns-in-Err c = first_refused true c.args.level c.args.code.now c.requires.some c.requires.most c.requires.long (bad_first (goal.at.returns-in-Err c).In-Err) c.wrong_in.ensures
