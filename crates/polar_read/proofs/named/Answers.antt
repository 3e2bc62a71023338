-- `named` meets its contract: a second digit that is not below 4 is told at its place. Assumes nothing.
use Rattle.std.proofs.Common.{arith, refl, lt-ltb, le-ltb}
use Rattle.grid.specs.Characters.{digit_of}
use Rattle.polar_read.proofs.named.Goals as goal

pub returns-then-b-ge4 : goal.returns-then-b-ge4
returns-then-b-ge4 c = rw (
  c.split_of-s.ensures,
  lt-ltb (digit_of c.args.first) 4 (omega (arith, c.digit_below-a.ensures.tells, c.if-a-ge4.false)),
  le-ltb (digit_of c.args.second) 4 (omega (arith, c.digit_below-b.ensures.tells, c.if-b-ge4.true)),
) refl
