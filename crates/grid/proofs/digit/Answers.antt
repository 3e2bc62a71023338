-- `grid::digit` meets its contract: each return has its law. Assumes nothing.
use Rattle.grid.proofs.Characters.{near_zero, near_a, near_neither}
use Rattle.std.proofs.Common.{rules}
use Rattle.grid.proofs.digit.Goals as goal

pub returns-then-decimal-lt10 : goal.returns-then-decimal-lt10
returns-then-decimal-lt10 c = near_zero _ _ c.wrapping_sub_u32-decimal.ensures.value c.if-decimal-lt10.true

pub returns-then-letter-lt22 : goal.returns-then-letter-lt22
returns-then-letter-lt22 c = near_a _ _ c.wrapping_sub_u32-decimal.ensures.value _ c.wrapping_sub_u32-letter.ensures.value c.if-decimal-lt10.false c.if-letter-lt22.true

pub returns-else-letter-lt22 : goal.returns-else-letter-lt22
returns-else-letter-lt22 c = near_neither _ _ c.wrapping_sub_u32-decimal.ensures.value _ c.wrapping_sub_u32-letter.ensures.value c.if-decimal-lt10.false c.if-letter-lt22.false
    (search rules) (search rules) (search rules)
