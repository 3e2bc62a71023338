-- `space::height_of` meets its contract. Assumes nothing.
use Rattle.std.proofs.lemmas.Result.{err_from_is_err_and}
use Rattle.space.proofs.Reading.{lying, few_stand}
use Rattle.space.proofs.height_of.Goals as goal

pub returns-in_err-layers-clause-within : goal.returns-in_err-layers-clause-within
returns-in_err-layers-clause-within c =
    let p = err_from_is_err_and c.from_residual.result c.from_residual.ensures.1 in
    rw (p.1, p.2) (few_stand c.args.edition c.args.level c.args.code.now c.requires c.in_err-layers.ensures)

pub floor-requires : goal.floor-requires
floor-requires c = lying c.args.edition c.args.level _ c.in_ok-layers.ensures
