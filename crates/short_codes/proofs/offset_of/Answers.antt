-- `short_codes::offset_of` meets its contract. Assumes nothing.
use Rattle.short_codes.proofs.Reading.{offset_short, offset_long}
use Rattle.short_codes.proofs.offset_of.Goals as goal

pub returns-then-n-lt4 : goal.returns-then-n-lt4
returns-then-n-lt4 c = offset_short c.args.code.now c.if-n-lt4.true c.refuse.ensures

pub returns : goal.returns
returns c = offset_long c.args.code.now c.if-n-lt4.false c.offset_in.ensures
