-- `places::unhyphened` meets its contract. Assumes nothing.
use mathlib.Core.Path.{ap, ◌∙◌}
use mathlib.Core.Bool.{not}
use Rattle.places.proofs.Names.{hyphen_found}
use Rattle.places.proofs.unhyphened.Goals as goal

pub returns : goal.returns
returns c = ap not c.contains.ensures.value ∙ hyphen_found c.args.name.now
