-- `seconds` meets its contract: the cast is exact, and so is the division.
-- Assumes nothing.
use Rattle.arcseconds.proofs.Exact.{exactly}
use Rattle.arcseconds.proofs.seconds.Goals as goal

pub returns : goal.returns
returns g c u small same = rw (same c.into.result c.into.ensures) (exactly u small)
