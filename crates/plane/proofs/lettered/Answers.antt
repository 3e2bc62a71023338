-- `plane::lettered` meets its contract. Assumes nothing.
use Rattle.std.proofs.Common.{◌≡◌, ap, arith}
use Rattle.grid.specs.Splits.{first}
use Rattle.plane.proofs.Start.{letter_low, letter_high, letter_row}
use Rattle.plane.proofs.lettered.Goals as goal
use Rattle.plane.proofs.lettered.Goals.{After-split_of-rows}

rows : (c : After-split_of-rows) → c.split_of-rows.result.rows ≡ first.rows
rows c = ap (λ s. s.rows) c.split_of-rows.ensures

pub returns-then-d-lt10 : goal.returns-then-d-lt10
returns-then-d-lt10 c = (letter_low _ _ _ c.if-d-lt10.true, tt)

pub returns-then-rows-d : goal.returns-then-rows-d
returns-then-rows-d c = (letter_high _ _ _ (rows (goal.at.returns-then-rows-d c).After-split_of-rows) c.if-d-lt10.false c.if-rows-d.true, tt)

pub returns : goal.returns
returns c = let e = rows (goal.at.returns c).After-split_of-rows in
    (letter_row _ _ _ e c.if-d-lt10.false c.if-rows-d.false, (c.requires.0, c.requires.1, omega arith))
