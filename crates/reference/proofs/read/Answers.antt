-- `reference::read` meets its contract. Assumes nothing.
use mathlib.Core.Path.{◌≡◌, refl, sym, ap, ◌∙◌}
use Prim.Native.Nat.{◌-◌}
use lib.ListN.{length, take}
use Rattle.grid.specs.Answers.{answer_of}
use Rattle.reference.proofs.Exits.{handed_on}
use Rattle.reference.proofs.Spelling.{too_short, less_three, no_three, read_at}
use Rattle.reference.proofs.read.Goals as goal
use Rattle.reference.proofs.read.Goals.{In_ok-k}

-- the base is all but the last three bytes
base_ends : (c : In_ok-k) → c.in_ok-k.k ≡ length c.args.code.now - 3
base_ends c = (less_three _ _ _ _ c.checked_sub.ensures c.ok_or.ensures.value c.in_ok-k.was).1

pub returns-in_err-k : goal.returns-in_err-k
returns-in_err-k c = let s = c.args in
    let short = no_three _ c.checked_sub.result _ _ c.checked_sub.ensures c.ok_or.ensures.value c.in_err-k.was in
    handed_on c.from_residual.result _ s.line.now s.at c.from_residual.ensures.1 (sym (too_short s.code.now short.0 (short.1 ∙ c.refuse.ensures)))

pub target_of-requires : goal.target_of-requires
target_of-requires c = (take c.in_ok-k.k c.args.code.now, sym c.read.ensures ∙ ap answer_of c.in_ok-b.was)

pub returns-in_err-b : goal.returns-in_err-b
returns-in_err-b c = let s = c.args in
    handed_on c.from_residual-in_err-b.result _ s.line.now s.at c.from_residual-in_err-b.ensures.1
    (sym (read_at s.code.now _ (base_ends (goal.at.returns-in_err-b c).In_ok-k)) ∙ rw (← c.read.ensures, c.in_err-b.was) refl)

pub returns-in_err-o : goal.returns-in_err-o
returns-in_err-o c = let s = c.args in
    handed_on c.from_residual-in_err-o.result _ s.line.now s.at c.from_residual-in_err-o.ensures.1
    (sym (read_at s.code.now _ (base_ends (goal.at.returns-in_err-o c).In_ok-k)) ∙ rw (← c.read.ensures, c.in_ok-b.was, ← c.offset_in.ensures, c.in_err-o.was) refl)

pub returns-in_err-target_of : goal.returns-in_err-target_of
returns-in_err-target_of c = let s = c.args in
    handed_on c.from_residual-in_err-target_of.result _ s.line.now s.at c.from_residual-in_err-target_of.ensures.1
    (sym (read_at s.code.now _ (base_ends (goal.at.returns-in_err-target_of c).In_ok-k))
    ∙ rw (← c.read.ensures, c.in_ok-b.was, ← c.offset_in.ensures, c.in_ok-o.was, ← c.target_of.ensures, c.in_err-target_of.was) refl)

pub returns : goal.returns
returns c = let s = c.args in
    rw (← read_at s.code.now _ (base_ends (goal.at.returns c).In_ok-k), ← c.read.ensures, c.in_ok-b.was, ← c.offset_in.ensures, c.in_ok-o.was, ← c.target_of.ensures, c.in_ok-target_of.was)
    c.lay_target.ensures
