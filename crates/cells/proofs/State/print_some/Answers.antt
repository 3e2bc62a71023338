-- `cells::State::print_some` meets its contract. Assumes nothing.
use Rattle.std.proofs.Common.{arith, rules, length}
use Rattle.lines.specs.Filling.{work, start}
use Rattle.lines.specs.inner.Buffers.{Lent}
use Rattle.lines.proofs.Filling.{Filled, lent_filled, uses_some}
use Rattle.cells.proofs.State.print_some.Given.{Over}
use Rattle.cells.proofs.State.print_some.Goals as goal
use Rattle.cells.proofs.State.print_some.Goals.{After-fill-filled}

lent : (g : Over) (c : After-fill-filled g) → let s = c.self.inside in Lent s.held s.line s.out
lent g c = search rules

-- how the block leaves the buffers
left : (g : Over) (c : After-fill-filled g) → let s = c.self.inside in let f = c.fill-filled in
    Filled (start s.held s.line s.out) (length c.args.block.now) (work f.result f.new.line f.new.out)
left g c = lent_filled c.args.block.now (lent g c) c.fill-filled.ensures

pub shared_ref_as_front-write_all : goal.shared_ref_as_front-write_all
shared_ref_as_front-write_all g c = omega (arith, (left g (goal.at.shared_ref_as_front-write_all g c).After-fill-filled).ready.inside)

pub invariant_of-self : goal.invariant_of-self
invariant_of-self g c = omega (arith, (left g (goal.at.invariant_of-self g c).After-fill-filled).ready.few)

pub invariant_of-self-2 : goal.invariant_of-self-2
invariant_of-self-2 g c = omega (arith, (left g (goal.at.invariant_of-self-2 g c).After-fill-filled).ready.few)

pub returns-clause-some : goal.returns-clause-some
returns-clause-some g c =
    let a = (goal.at.returns-clause-some g c).After-fill-filled in
    (omega (arith, (left g a).not_past), λ h. uses_some c.args.block.now (lent g a) h c.fill-filled.ensures)
