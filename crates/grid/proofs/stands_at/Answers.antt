-- `grid::stands_at` meets its contract. Assumes nothing.
use Rattle.grid.proofs.stands_at.Goals as goal

pub returns-then-spaced : goal.returns-then-spaced
returns-then-spaced c = rw c.if-spaced.true c.plane_place.ensures
