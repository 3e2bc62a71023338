-- `Cursor::level` meets its contract. Assumes nothing.
use Rattle.ordinary_read.proofs.Steps.{onward_pair, onward_single}
use Rattle.ordinary_read.proofs.Levels.{divided, none_left, one_level, one_character}
use Rattle.ordinary_read.proofs.Cursor.level.Goals as goal

pub returns-then-code-at : goal.returns-then-code-at
returns-then-code-at g c = none_left c.split_of-s.ensures c.requires.0 c.requires.1 _ c.level_place-at.ensures c.if-code-at.true

pub child-requires : goal.child-requires
child-requires g c = divided c.split_of-s.ensures c.requires.0 c.requires.1 _ c.level_place-at.ensures c.if-code-at.false c.requires.2

pub child-requires-else-s-eq2 : goal.child-requires-else-s-eq2
child-requires-else-s-eq2 g c = divided c.split_of-s.ensures c.requires.0 c.requires.1 _ c.level_place-at.ensures c.if-code-at.false c.requires.2

pub returns-then-s-eq2 : goal.returns-then-s-eq2
returns-then-s-eq2 g c = let d = divided c.split_of-s.ensures c.requires.0 c.requires.1 _ c.level_place-at.ensures c.if-code-at.false c.requires.2 in
    one_level c.split_of-s.ensures c.requires.0 c.requires.1
    (onward_pair c.level_place-at.ensures c.args.code.now c.if-code-at.false d c.if-s-eq2.true c.digit_below-column.ensures c.digit_below-row.ensures c.child.ensures)
    c.child.ensures.reached

pub returns-else-s-eq2 : goal.returns-else-s-eq2
returns-else-s-eq2 g c = let d = divided c.split_of-s.ensures c.requires.0 c.requires.1 _ c.level_place-at.ensures c.if-code-at.false c.requires.2 in
    let o = one_character c.split_of-s.ensures c.requires.0 c.requires.1 c.if-s-eq2.false in
    one_level c.split_of-s.ensures c.requires.0 c.requires.1
    (onward_single c.level_place-at.ensures c.args.code.now c.if-code-at.false d o.one o.two_columns o.few_rows c.digit_below-both.ensures c.child-else-s-eq2.ensures)
    c.child-else-s-eq2.ensures.reached
