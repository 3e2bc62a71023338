-- `cells::State::print_last` meets its contract. Assumes nothing.
use Rattle.std.proofs.Common.{arith, rules, ◌≤◌, length}
use Rattle.lines.proofs.Filling.{last_inside}
use Rattle.cells.proofs.Bytes.{on_ok}
use Rattle.cells.proofs.Blocks.{laid_taken}
use Rattle.cells.proofs.State.print_last.Given.{Over}
use Rattle.cells.proofs.State.print_last.Goals as goal
use Rattle.cells.proofs.State.print_last.Goals.{After-finish-last}

-- the answer lies within the output
inside : (g : Over) (c : After-finish-last g) → c.finish-last.result ≤ length c.finish-last.new.out
inside g c = last_inside {line = c.self.inside.line} {held = c.self.inside.held} (search rules) c.finish-last.ensures

pub shared_ref_as_front-write_all : goal.shared_ref_as_front-write_all
shared_ref_as_front-write_all g c = omega (arith, inside g (goal.at.shared_ref_as_front-write_all g c).After-finish-last)

pub returns-clause-written : goal.returns-clause-written
returns-clause-written g c =
    let i = inside g (goal.at.returns-clause-written g c).After-finish-last in
    rw (← c.self.view_is) (on_ok _ c.write_all.result c.map_err.result c.map_err.ensures.variant (rw (laid_taken c.finish-last.ensures i) at c.write_all.ensures.bytes))
