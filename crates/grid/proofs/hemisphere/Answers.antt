-- `grid::hemisphere` meets its contract. Assumes nothing.
use Rattle.grid.specs.Characters.{char_of}
use Rattle.grid.proofs.hemisphere.Goals as goal

pub returns-then-north : goal.returns-then-north
unfolding char_of
returns-then-north c = simp c.if-north.true

pub returns-else-north : goal.returns-else-north
unfolding char_of
returns-else-north c = simp c.if-north.false
