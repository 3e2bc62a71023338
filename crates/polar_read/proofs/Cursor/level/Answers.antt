-- `Cursor::level` meets its contract. By the form: two characters; or one, of two columns or of the cap's three. Assumes nothing.
use native.Mathlib.Omega.{arith}
use mathlib.Core.Path.{◌∙◌}
use Rattle.polar_read.proofs.Step.{two_no, two_on, one_quad, one_trio, digits_of, on_level}
use Rattle.polar_read.proofs.Cursor.level.Goals as goal

pub returns-then-columns-a : goal.returns-then-columns-a
returns-then-columns-a g c = let d = digits_of _ c.split_of-s.ensures c.requires.0 c.requires.1 in
    on_level _ c.split_of-s.ensures _ c.args.code.now c.args.self c.level_place-at.ensures c.if-code-at.false
    (two_no c.args.self d c.columns-columns.ensures _ c.args.code.now c.if-code-at.false c.if-s-eq2.true c.digit_below-a.ensures c.if-columns-a.true)

pub returns-then-s-eq2 : goal.returns-then-s-eq2
returns-then-s-eq2 g c = let d = digits_of _ c.split_of-s.ensures c.requires.0 c.requires.1 in
    on_level _ c.split_of-s.ensures _ c.args.code.now c.args.self c.level_place-at.ensures c.if-code-at.false
    (c.child.ensures ∙ two_on c.args.self d c.columns-columns.ensures _ c.args.code.now c.if-code-at.false c.if-s-eq2.true c.digit_below-a.ensures c.digit_below-b.ensures c.if-columns-a.false)

pub returns-then-columns-eq2 : goal.returns-then-columns-eq2
returns-then-columns-eq2 g c = let d = digits_of _ c.split_of-s.ensures c.requires.0 c.requires.1 in
    on_level _ c.split_of-s.ensures _ c.args.code.now c.args.self c.level_place-at.ensures c.if-code-at.false
    (c.child-then-columns-eq2.ensures ∙ one_quad c.args.self d c.columns-columns.ensures _ c.args.code.now c.if-code-at.false c.if-s-eq2.false c.digit_below-a-2.ensures c.if-columns-eq2.true)

pub returns : goal.returns
returns g c = let d = digits_of _ c.split_of-s.ensures c.requires.0 c.requires.1 in
    on_level _ c.split_of-s.ensures _ c.args.code.now c.args.self c.level_place-at.ensures c.if-code-at.false
    (c.child-2.ensures ∙ one_trio c.args.self d c.columns-columns.ensures _ c.args.code.now c.if-code-at.false c.if-s-eq2.false c.digit_below-a-2.ensures c.if-columns-eq2.false (omega arith) (omega arith))
