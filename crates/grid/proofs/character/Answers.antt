-- `grid::character` meets its contract. Assumes nothing.
use Rattle.std.proofs.Common.{le-ltb, lt-ltb}
use Rattle.grid.specs.Characters.{char_of}
use Rattle.grid.proofs.character.Goals as goal

pub returns-then-v-lt10 : goal.returns-then-v-lt10
unfolding char_of
returns-then-v-lt10 c = simp (lt-ltb _ _ c.if-v-lt10.true)

pub returns-else-v-lt10 : goal.returns-else-v-lt10
unfolding char_of
returns-else-v-lt10 c = simp (le-ltb _ _ c.if-v-lt10.false)
