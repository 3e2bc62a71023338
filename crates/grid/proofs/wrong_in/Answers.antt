-- `grid::wrong_in` meets its contract. Assumes nothing.
use Rattle.std.proofs.Common.{ℕ, get_or, ap, ◌∙◌}
use Rattle.grid.specs.Answers.{wrong_character}
use Rattle.grid.proofs.wrong_in.Goals as goal

pub bounds-code-stands_at : goal.bounds-code-stands_at
bounds-code-stands_at c = rw c.stands_at.ensures c.requires

pub returns : goal.returns
returns c = c.wrong_character.ensures ∙ ap (λ (at : ℕ). wrong_character c.args.p (get_or c.args.code.now at 0)) c.stands_at.ensures
