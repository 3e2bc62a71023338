-- `polar_cell` meets its contract: each arm has its line of the table. Assumes nothing.
use Rattle.std.proofs.Common.{◌≡◌, ℕ, sym, ap, ◌∙◌, arith}
use Rattle.grid.specs.declared.PolarCell.{PolarCell}
use Rattle.grid.specs.Splits.{polar_cell_at}
use Rattle.grid.proofs.Lengths.{past, just}
use Rattle.grid.proofs.polar_cell.Goals as goal

named : (i : ℕ) {k : ℕ} {r : PolarCell} → r ≡ polar_cell_at i → k ≡ i → r ≡ polar_cell_at k
named i f e = f ∙ ap polar_cell_at (sym e)

pub returns-in-0 : goal.returns-in-0
returns-in-0 c = named 0 c.polar_line.ensures c.in-0.is

pub returns-in-1 : goal.returns-in-1
returns-in-1 c = named 1 c.polar_line-in-1.ensures c.in-1.is

pub returns-in-2 : goal.returns-in-2
returns-in-2 c = named 2 c.polar_line-in-2.ensures c.in-2.is

pub returns-in-3 : goal.returns-in-3
returns-in-3 c = named 3 c.polar_line-in-3.ensures c.in-3.is

pub returns-in-4 : goal.returns-in-4
returns-in-4 c = named 4 c.polar_line-in-4.ensures c.in-4.is

pub returns-in-5 : goal.returns-in-5
returns-in-5 c = named 5 c.polar_line-in-5.ensures c.in-5.is

pub returns-in-6 : goal.returns-in-6
returns-in-6 c = named 6 c.polar_line-in-6.ensures c.in-6.is

pub returns-in-7 : goal.returns-in-7
returns-in-7 c = named 7 c.polar_line-in-7.ensures c.in-7.is

pub returns-in-8 : goal.returns-in-8
returns-in-8 c = named 8 c.polar_line-in-8.ensures c.in-8.is

pub returns-in-9 : goal.returns-in-9
returns-in-9 c = named 9 c.polar_line-in-9.ensures c.in-9.is

pub returns-in-10 : goal.returns-in-10
returns-in-10 c = named 10 c.polar_line-in-10.ensures c.in-10.is

pub returns-in-11 : goal.returns-in-11
returns-in-11 c = named 11 c.polar_line-in-11.ensures c.in-11.is

pub returns-in-12 : goal.returns-in-12
returns-in-12 c = named 12 c.polar_line-in-12.ensures c.in-12.is

pub returns-in-13 : goal.returns-in-13
returns-in-13 c = named 13 c.polar_line-in-13.ensures c.in-13.is

pub returns-in-14 : goal.returns-in-14
returns-in-14 c = named 14 c.polar_line-in-14.ensures c.in-14.is

pub returns-in_default : goal.returns-in_default
returns-in_default c = named 15 c.polar_line-in_default.ensures (just 15 _ (past 14 _ (past 13 _ (past 12 _ (past 11 _ (past 10 _ (past 9 _ (past 8 _ (past 7 _ (past 6 _ (past 5 _ (past 4 _ (past 3 _ (past 2 _ (past 1 _ (past 0 _ (omega arith) c.in_default.in_default-own.rest.0.0.0.0.0.0.0.0.0.0.0.0.0.0.1) c.in_default.in_default-own.rest.0.0.0.0.0.0.0.0.0.0.0.0.0.1) c.in_default.in_default-own.rest.0.0.0.0.0.0.0.0.0.0.0.0.1) c.in_default.in_default-own.rest.0.0.0.0.0.0.0.0.0.0.0.1) c.in_default.in_default-own.rest.0.0.0.0.0.0.0.0.0.0.1) c.in_default.in_default-own.rest.0.0.0.0.0.0.0.0.0.1) c.in_default.in_default-own.rest.0.0.0.0.0.0.0.0.1) c.in_default.in_default-own.rest.0.0.0.0.0.0.0.1) c.in_default.in_default-own.rest.0.0.0.0.0.0.1) c.in_default.in_default-own.rest.0.0.0.0.0.1) c.in_default.in_default-own.rest.0.0.0.0.1) c.in_default.in_default-own.rest.0.0.0.1) c.in_default.in_default-own.rest.0.0.1) c.in_default.in_default-own.rest.0.1) c.in_default.in_default-own.rest.1) (omega (arith, c.requires)))
