-- `reference::put` meets its contract. The loop's invariant: the line holds the bytes passed. Assumes nothing.
use mathlib.Core.Path.{◌≡◌}
use lib.ListN.{length, take}
use lib.Seq.{sets}
use Rattle.reference.proofs.put.Given as goal

abbrev pub invariant-loop-i : goal.invariant-loop-i
invariant-loop-i l = (length l.line ≡ length l.initial.line) × (l.line ≡ sets l.initial.line 0 (take l.i l.base))
