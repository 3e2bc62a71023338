-- `length_of` meets its contract. Assumes nothing.
use Rattle.grid.proofs.Lengths.{length_at, past, just}
use Rattle.grid.proofs.length_of.Goals as goal

pub returns-in-1 : goal.returns-in-1
returns-in-1 c = length_at 0 _ c.split_of.ensures c.in-1.is

pub returns-in-2 : goal.returns-in-2
returns-in-2 c = length_at 1 _ c.split_of-in-2.ensures c.in-2.is

pub returns-in-3 : goal.returns-in-3
returns-in-3 c = length_at 2 _ c.split_of-in-3.ensures c.in-3.is

pub returns-in-4 : goal.returns-in-4
returns-in-4 c = length_at 3 _ c.split_of-in-4.ensures c.in-4.is

pub returns-in-5 : goal.returns-in-5
returns-in-5 c = length_at 4 _ c.split_of-in-5.ensures c.in-5.is

pub returns-in-6 : goal.returns-in-6
returns-in-6 c = length_at 5 _ c.split_of-in-6.ensures c.in-6.is

pub returns-in-7 : goal.returns-in-7
returns-in-7 c = length_at 6 _ c.split_of-in-7.ensures c.in-7.is

pub returns-in-8 : goal.returns-in-8
returns-in-8 c = length_at 7 _ c.split_of-in-8.ensures c.in-8.is

pub returns-in-9 : goal.returns-in-9
returns-in-9 c = length_at 8 _ c.split_of-in-9.ensures c.in-9.is

pub returns-in_default : goal.returns-in_default
returns-in_default c = length_at 9 c.args.level c.split_of-in_default.ensures (just 10 _ (past 9 _ (past 8 _ (past 7 _ (past 6 _ (past 5 _ (past 4 _ (past 3 _ (past 2 _ (past 1 _ c.requires.0 c.in_default.in_default-own.rest.0.0.0.0.0.0.0.0.1) c.in_default.in_default-own.rest.0.0.0.0.0.0.0.1) c.in_default.in_default-own.rest.0.0.0.0.0.0.1) c.in_default.in_default-own.rest.0.0.0.0.0.1) c.in_default.in_default-own.rest.0.0.0.0.1) c.in_default.in_default-own.rest.0.0.0.1) c.in_default.in_default-own.rest.0.0.1) c.in_default.in_default-own.rest.0.1) c.in_default.in_default-own.rest.1) c.requires.1)
