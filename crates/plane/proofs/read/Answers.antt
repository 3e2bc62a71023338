-- `plane::read` meets its contract. Assumes nothing.
use Rattle.std.proofs.Common.{◌≡◌, false, map, length, take, sym, ap, ◌∙◌, subst}
use Rattle.std.specs.Prelude.{Ok}
use Rattle.grid.specs.Characters.{digit_of}
use Rattle.grid.specs.Tree.{bad}
use Rattle.grid.specs.Plane.{globe_child}
use Rattle.grid.specs.Answers as answers
use Rattle.plane.specs.inner.Start.{first_read, Ranged}
use Rattle.grid.proofs.Standing.{has_inside}
use Rattle.plane.proofs.Start.{first_digits_law}
use Rattle.plane.proofs.Reading.{Leveled, leveled, read_none, read_rest, length_four, first_has, first_refused}
use Rattle.plane.proofs.read.Goals as goal
use Rattle.plane.proofs.read.Goals.{After-begin, In-Some, In-Err}

-- the level that was found is the code's
known : (c : In-Some) → Leveled (length c.args.code.now) c.in-Some.level
known c = leveled _ (sym c.in-Some.is ∙ c.level_of.ensures)

-- the first bad one of the four
bad_first : (c : In-Err) → bad c.in-Err.place ≡ globe_child (take 4 (map digit_of c.args.code.now))
bad_first c = ap first_read (sym c.in-Err.is) ∙ (let it : first_read c.begin.result ≡ globe_child (take 4 (map digit_of c.args.code.now)) = let l : Leveled (length c.args.code.now) c.in-Some.level = leveled _ (sym c.in-Some.is ∙ c.level_of.ensures) in c.begin.ensures.0 ∙ ap globe_child (sym (first_digits_law false c.in-Some.level c.args.code.now l.low l.high l.long)) in it)

-- the first four characters lead where they should
led : (c : After-begin) → first_read c.begin.result ≡ globe_child (take 4 (map digit_of c.args.code.now))
led c = let l : Leveled (length c.args.code.now) c.in-Some.level = leveled _ (sym c.in-Some.is ∙ c.level_of.ensures) in
    c.begin.ensures.0 ∙ ap globe_child (sym (first_digits_law false c.in-Some.level c.args.code.now l.low l.high l.long))

pub returns-in_default : goal.returns-in_default
returns-in_default c = ap answers.refused c.refuse.ensures ∙ read_none c.args.code.now (sym c.in_default.is ∙ c.level_of.ensures)

pub begin-requires : goal.begin-requires
begin-requires c = length_four (known (goal.at.begin-requires c).In-Some)

pub rest-requires : goal.rest-requires
rest-requires c = let l = known (goal.at.rest-requires c).In-Some in
    let r = subst Ranged (c.in-Ok.is ∙ ap Ok c.in-Sheet.is) c.begin.ensures.1 in
    record { some_level = l.low; last_level = l.high; some_zone = r.0; last_zone = r.1; last_row = r.2; length_is = l.long }

pub rest-requires-in-Pole : goal.rest-requires-in-Pole
rest-requires-in-Pole c = let l = known (goal.at.rest-requires-in-Pole c).In-Some in
    record { some = l.low; most = l.high; long = l.long }

pub wrong_in-requires : goal.wrong_in-requires
wrong_in-requires c = let l = known (goal.at.wrong_in-requires c).In-Some in
    has_inside (first_has false _ c.args.code.now l.low l.high l.long (bad_first (goal.at.wrong_in-requires c).In-Err))

pub returns-in-Sheet : goal.returns-in-Sheet
returns-in-Sheet c = read_rest c.args.code.now (known (goal.at.returns-in-Sheet c).In-Some) (ap first_read (sym (c.in-Ok.is ∙ ap Ok c.in-Sheet.is)) ∙ led (goal.at.returns-in-Sheet c).After-begin) c.rest.ensures

pub returns-in-Pole : goal.returns-in-Pole
returns-in-Pole c = read_rest c.args.code.now (known (goal.at.returns-in-Pole c).In-Some) (ap first_read (sym (c.in-Ok.is ∙ ap Ok c.in-Pole.is)) ∙ led (goal.at.returns-in-Pole c).After-begin) c.rest-in-Pole.ensures

pub returns-in-Err : goal.returns-in-Err
returns-in-Err c = let l = known (goal.at.returns-in-Err c).In-Some in
    first_refused false _ c.args.code.now l.low l.high l.long (bad_first (goal.at.returns-in-Err c).In-Err) c.wrong_in.ensures
