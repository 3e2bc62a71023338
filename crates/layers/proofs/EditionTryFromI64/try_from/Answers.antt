-- `Edition::try_from` meets its contract. Assumes nothing.
use mathlib.Core.Path.{◌≡◌, ◌∙◌, ap}
use native.Mathlib.Omega.{arith}
use mir.Syntax.{w64}
use mir.Val.{of_z}
use Rattle.grid.specs.Answers.{refused}
use Rattle.layers.proofs.Editions.{is_one, is_two, is_neither}
use Rattle.layers.proofs.EditionTryFromI64.try_from.Goals as goal

pub returns-in-1 : goal.returns-in-1
returns-in-1 c = is_one c.args.edition c.ranges.edition (omega arith)

pub returns-in-2 : goal.returns-in-2
returns-in-2 c = is_two c.args.edition c.ranges.edition (omega arith)

pub returns-in_default : goal.returns-in_default
returns-in_default c =
    ap refused c.refuse.ensures
    ∙ is_neither c.args.edition (λ (e : of_z w64 c.args.edition ≡ 1). omega arith) (λ (e : of_z w64 c.args.edition ≡ 2). omega arith)
