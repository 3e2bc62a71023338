-- `grid::wrong_character` meets its contract. Assumes nothing.
use Rattle.grid.proofs.Answers.{as_misplaced, as_garbled}
use Rattle.grid.proofs.wrong_character.Goals as goal

pub returns-then-digit-lt32 : goal.returns-then-digit-lt32
returns-then-digit-lt32 c = as_misplaced _ c.digit.ensures c.if-digit-lt32.true c.refuse.ensures c.at_place.ensures

pub returns-else-digit-lt32 : goal.returns-else-digit-lt32
returns-else-digit-lt32 c = as_garbled _ c.digit.ensures c.if-digit-lt32.false c.refuse-else-digit-lt32.ensures c.at_place-else-digit-lt32.ensures
