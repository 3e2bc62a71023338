-- `plane::ask_level` meets its contract. Assumes nothing.
use Rattle.std.proofs.Common.{◌≡◌, ℕ, ◌≤◌, pos, ap, ◌∙◌, arith, to_z-of_z, w64, to_z, of_z}
use Rattle.grid.specs.Answers.{accepted, refused}
use Rattle.plane.specs.Text.{level_in}
use Rattle.plane.proofs.Asking.{level_low, level_high, level_within}
use Rattle.plane.proofs.ask_level.Goals as goal
use Rattle.plane.proofs.ask_level.Goals.{Else-level-gt10}

-- the level that is neither below 1 nor above 10, as it is held
held : (c : Else-level-gt10) → (l : ℕ) × (to_z w64 (of_z w64 c.args.level) ≡ pos l) × (l ≤ 10) × (accepted l ≡ level_in c.args.level)
held c = let e = to_z-of_z c.ranges.level in
    let w = level_within c.args.level (rw e at c.if-level-lt1.false) (rw e at c.if-level-gt10.false) in
    (w.0, e ∙ w.1, w.2, w.3)

pub returns-then-level-lt1 : goal.returns-then-level-lt1
returns-then-level-lt1 c = ap refused c.refuse.ensures ∙ level_low c.args.level (rw (to_z-of_z c.ranges.level) at c.if-level-lt1.true)

pub returns-then-level-gt10 : goal.returns-then-level-gt10
returns-then-level-gt10 c = ap refused c.refuse-then-level-gt10.ensures ∙ level_high c.args.level (rw (to_z-of_z c.ranges.level) at c.if-level-gt10.true)

pub overflow_cast-result : goal.overflow_cast-result
overflow_cast-result c = let h = held (goal.at.overflow_cast-result c).Else-level-gt10 in
    rw h.1 (tt, record { fits = omega (arith, h.2) })

pub returns : goal.returns
returns c = let h = held (goal.at.returns c).Else-level-gt10 in rw h.1 h.3
