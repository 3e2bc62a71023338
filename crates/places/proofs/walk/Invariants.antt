-- `places::walk` meets its contract. Assumes nothing.
use Prim.Native.Nat.{◌+◌, ◌-◌, ◌*◌}
use lib.ListN.{length}
use Rattle.places.proofs.Walking.{Going}
use Rattle.places.specs.inner.Walk.{looked_in}
use Rattle.places.proofs.walk.Given as goal

abbrev pub invariant-loop-entry : goal.invariant-loop-entry
invariant-loop-entry l =
    Going l.asked l.book (looked_in l.asked l.book (length l.entries)) (length l.entries - l.entry-index) (2 + 4 * l.entry-index) l.at l.last l.seen
