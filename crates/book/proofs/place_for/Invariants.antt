-- Of `book::place_for`. Assumes nothing.
use Rattle.std.proofs.Common.{ℕ, ◌<◌}
use Rattle.book.specs.Book.{free, record_at}
use Rattle.book.proofs.Places.{FirstSoFar}
use Rattle.book.proofs.Looking.{Passed}
use Rattle.book.proofs.place_for.Given as goal

-- no record so far decides, and the first place not live among them is known
abbrev pub invariant-loop-i : goal.invariant-loop-i
invariant-loop-i l = record { passed : (k : ℕ) → k < l.i → Passed l.sought (record_at l.book k); first_free : FirstSoFar free l.book l.i l.free }
