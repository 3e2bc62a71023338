-- `Cursor::allows` meets its contract: the column counts in a cap alone. Assumes nothing.
use Rattle.std.proofs.Common.{◌≡◌, cond, arith, mul_comm, le-mul_of_pos_right}
use Rattle.std.proofs.lemmas.Grind.{common_steps}
use Rattle.polar_read.proofs.Cursor.allows.Goals as goal
use Rattle.polar_read.proofs.Cursor.allows.Goals.{then-self, else-self}

pub returns : goal.returns
returns c =
    let last : c.if-self.last ≡ cond c.args.self.cap c.args.c 0 = elim c.if-self.branch [ then-self w ↦ rw w.if-self.true w.last-is | else-self w ↦ rw w.if-self.false w.last-is ] in
    grind (arith, common_steps, mul_comm, le-mul_of_pos_right)
