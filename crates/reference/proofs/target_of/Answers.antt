-- `reference::target_of` meets its contract. Assumes nothing.
use mathlib.Core.Path.{◌≡◌, sym, ◌∙◌}
use mathlib.Core.Bool.{true}
use Rattle.reference.specs.Text.{fit}
use Rattle.reference.proofs.Parts.{known_steps, target_unfit, target_at, target_polar, target_fitting}
use Rattle.reference.proofs.target_of.Goals as goal
use Rattle.reference.proofs.target_of.Goals.{Else-not-fits}

-- the base fits
base_fits : (c : Else-not-fits) → true ≡ fit c.args.b
base_fits c = sym c.if-not-fits.false ∙ c.fits.ensures

pub returns-then-not-fits : goal.returns-then-not-fits
returns-then-not-fits c = target_unfit _ _ _ (sym c.if-not-fits.true ∙ c.fits.ensures) c.refuse.ensures

pub landed-place-requires : goal.landed-place-requires
landed-place-requires c = known_steps _ c.requires (base_fits (goal.at.landed-place-requires c).Else-not-fits)

pub returns-then-place-ge-POLAR : goal.returns-then-place-ge-POLAR
returns-then-place-ge-POLAR c = target_polar _ _ _ c.landed-place.result c.landed-place.ensures (base_fits (goal.at.returns-then-place-ge-POLAR c).Else-not-fits) c.if-place-ge-POLAR.true c.refuse-then-place-ge-POLAR.ensures

pub invariant_of-result : goal.invariant_of-result
invariant_of-result c = record {
  on_the_globe = target_fitting _ _ _ c.landed-place.result c.landed-place.ensures (base_fits (goal.at.invariant_of-result c).Else-not-fits) c.requires c.if-place-ge-POLAR.false;
}

pub returns : goal.returns
returns c = target_at _ _ _ c.landed-place.result c.landed-place.ensures (base_fits (goal.at.returns c).Else-not-fits) c.if-place-ge-POLAR.false
