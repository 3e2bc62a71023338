-- What a space writer writes, once refusals 1 to 4 are decided.
-- Assumes nothing.
use Rattle.std.specs.Prelude.{ℕ, ◌≤◌, ◌<◌}
use Rattle.grid.specs.declared.Place.{Place}
use Rattle.grid.specs.Units.{HALF, QUARTER}
use Rattle.grid.specs.Layers.{product}
use Rattle.layers.specs.declared.Edition.{Edition}
use Rattle.layers.specs.inner.Editions.{radices_of}

-- a level 1 to 10, a place on the globe, and a rise in the edition's range
pub record SpaceFits (edition : Edition) (l : ℕ) (p : Place) (rise : ℕ) : Type 0 where
  pub level_low : 1 ≤ l
  pub level_high : l ≤ 10
  pub wide : p.x < HALF
  pub high : p.y < QUARTER
  pub rise_in : rise < product (radices_of edition)
