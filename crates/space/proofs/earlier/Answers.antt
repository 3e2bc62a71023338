-- `space::earlier` meets its contract. Assumes nothing.
use mathlib.Core.Path.{refl}
use borrow.Author.Tests.{lt-ltb, le-ltb}
use Rattle.space.proofs.earlier.Goals as goal

pub returns-then-r-q : goal.returns-then-r-q
returns-then-r-q c = rw (lt-ltb c.args.r.place c.args.q.place c.if-r-q.true) refl

pub returns-else-r-q : goal.returns-else-r-q
returns-else-r-q c = rw (le-ltb c.args.r.place c.args.q.place c.if-r-q.false) refl
