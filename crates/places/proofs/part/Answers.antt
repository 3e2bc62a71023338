-- `places::part` meets its contract. Assumes nothing.
use native.Mathlib.Omega.{arith}
use mathlib.Core.Path.{sym, ◌∙◌, ap}
use Prim.Native.Nat.{◌+◌, ◌≤◌}
use lib.ListN.{length}
use Rattle.places.specs.Finding.{place_found}
use Rattle.places.proofs.Finding.{found_inside, part_at, part_none}
use Rattle.places.proofs.part.Goals as goal
use Rattle.places.proofs.part.Goals.{In-Ok}

-- what was found lies in the book
inside : (c : In-Ok) → c.in-Ok.s.start + c.in-Ok.s.name + c.in-Ok.s.code ≤ length c.args.places.now
inside c = found_inside c.args.name.now c.args.places.now (λ i. omega (arith, c.type_inv.places i)) c.in-Ok.s
    (sym c.find.ensures ∙ ap place_found c.in-Ok.is)

pub overflow_add-end : goal.overflow_add-end
overflow_add-end c = omega (arith, inside (goal.at.overflow_add-end c).In-Ok, c.well_formed)

pub overflow_add-end-in-Ok : goal.overflow_add-end-in-Ok
overflow_add-end-in-Ok c = omega (arith, inside (goal.at.overflow_add-end-in-Ok c).In-Ok, c.well_formed)

pub slice_bounds-result-end : goal.slice_bounds-result-end
slice_bounds-result-end c = omega (arith, inside (goal.at.slice_bounds-result-end c).In-Ok)

pub returns-in-Ok : goal.returns-in-Ok
returns-in-Ok c = let s = c.args in
    part_at s.name.now s.places.now c.in-Ok.s (sym c.find.ensures ∙ ap place_found c.in-Ok.is)

pub returns-in-Err : goal.returns-in-Err
returns-in-Err c = let s = c.args in part_none s.name.now s.places.now _ (sym c.find.ensures ∙ ap place_found c.in-Err.is)
