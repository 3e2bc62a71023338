-- `layers::sign_of` meets its contract. Assumes nothing.
use Rattle.grid.specs.Characters.{char_of}
use Rattle.layers.proofs.sign_of.Goals as goal

pub returns-then-above : goal.returns-then-above
unfolding char_of
returns-then-above c = rw c.if-above.true

pub returns-else-above : goal.returns-else-above
unfolding char_of
returns-else-above c = rw c.if-above.false
