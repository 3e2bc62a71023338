-- `space::level_of` meets its contract. Assumes nothing.
use Rattle.std.proofs.Common.{◌≡◌, ◌<◌, ◌≤◌, get_or, arith, inl, inr}
use Rattle.std.proofs.lemmas.Grind.{common_steps}
use Rattle.space.proofs.Tables.{levels, level_at, level_none}
use Rattle.space.proofs.level_of.Goals as goal

pub returns-in-Some : goal.returns-in-Some
returns-in-Some c =
    let h : c.args.n < 33 = grind (arith, common_steps) in
    let e : c.in-Some.level.now ≡ get_or levels c.args.n 0 = grind (arith, common_steps) in
    rw e (level_at c.args.n h (rw e at c.if-level-gt0.true))

pub returns-in_default : goal.returns-in_default
returns-in_default c =
    let h : c.args.n < 33 = grind (arith, common_steps) in
    let e : c.in-Some.level.now ≡ get_or levels c.args.n 0 = grind (arith, common_steps) in
    level_none c.args.n (inr (h, omega arith))

pub returns-in_default-2 : goal.returns-in_default-2
returns-in_default-2 c =
    let h : 33 ≤ c.args.n = grind (arith, common_steps) in
    level_none c.args.n (inl h)
