-- `grid::digit_below` meets its contract: what tells a digit below 10, or below 32, tells it below a limit of at most that. Assumes nothing.
use Rattle.std.proofs.Common.{arith, rules}
use Rattle.grid.proofs.Characters.{below_ten, below_near, below_far}
use Rattle.grid.proofs.digit_below.Goals as goal

pub returns-then-limit-le10 : goal.returns-then-limit-le10
returns-then-limit-le10 c = let d = below_ten _ _ c.wrapping_sub_u32-decimal.ensures.value (search rules) in record { tells = omega (arith, d.tells) }

pub returns-then-decimal-lt10 : goal.returns-then-decimal-lt10
returns-then-decimal-lt10 c = let d = below_near _ _ c.wrapping_sub_u32-decimal.ensures.value c.if-decimal-lt10.true in record { tells = omega (arith, d.tells) }

pub returns : goal.returns
returns c =
    let d = below_far _ _ c.wrapping_sub_u32-decimal.ensures.value c.if-decimal-lt10.false (search rules) (search rules) _ c.wrapping_sub_u8.ensures.value (search rules) in
    record { tells = omega (arith, d.tells) }
