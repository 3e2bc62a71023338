-- `Cursor::child` meets its contract: the new cap goes all round. Assumes nothing.
use Rattle.std.proofs.Common.{◌≡◌, sym, ◌∙◌, true≢false, arith}
use Rattle.polar_read.proofs.Cursor.child.Goals as goal
use Rattle.polar_read.proofs.Cursor.child.Goals.{then-inmost, else-inmost}

pub invariant_of-result-clause-round : goal.invariant_of-result-clause-round
invariant_of-result-clause-round c h =
    let w : c.if-inmost.w ≡ c.args.self.w = elim c.if-inmost.branch [ then-inmost w ↦ w.w-is | else-inmost w ↦ absurd (true≢false (sym h ∙ w.if-inmost.false)) ] in
    grind arith
