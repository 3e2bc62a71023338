-- What the table of splits says of a level below the second near a pole, each by one test that computes.
-- Assumes nothing.
use mathlib.Core.Path.{◌≡◌, refl}
use mathlib.Core.Bool.{Bool, true}
use Prim.Native.Nat.{ℕ, suc, ◌*◌, ◌/◌, ◌<◌}
use lib.Dec.{ltb, eqb}
use borrow.Author.Tests.{ltb-true, eqb-true}
use Rattle.grid.specs.declared.Split.{Split}
use Rattle.grid.specs.Splits.{split_at}
use Rattle.grid.proofs.Cut.{all_below, below}
use Rattle.polar_write.specs.inner.Spots.{ring_width, SpotDivides}

-- a split that divides cells h high: as many rows as columns; a ring's columns are whole multiples of its rows' height
pub record Told (h : ℕ) (t : Split) : Type 0 where
  pub high : 0 < h
  pub wide : t.columns * t.width ≡ h
  pub even : t.inward ≡ t.columns
  pub parts : ring_width t / t.width * t.width ≡ ring_width t
  pub some_columns : 0 < t.columns
  pub divides : SpotDivides t

module _ (i : ℕ) (h : i < 8) where
  -- a test that each level from the third on passes beside the level before it
  each : (f : Split → Split → Bool) → all_below (λ i. f (split_at (suc i)) (split_at (suc (suc i)))) 8 ≡ true → f (split_at (suc i)) (split_at (suc (suc i))) ≡ true
  each f e = below (λ i. f (split_at (suc i)) (split_at (suc (suc i)))) 8 i e h

  pub told : Told (split_at (suc i)).width (split_at (suc (suc i)))
  told =
      record {
        high = ltb-true _ _ (each (λ u t. ltb 0 u.width) refl);
        wide = eqb-true _ _ (each (λ u t. eqb (t.columns * t.width) u.width) refl);
        even = eqb-true _ _ (each (λ u t. eqb t.inward t.columns) refl);
        parts = eqb-true _ _ (each (λ u t. eqb (ring_width t / t.width * t.width) (ring_width t)) refl);
        some_columns = ltb-true _ _ (each (λ u t. ltb 0 t.columns) refl);
        divides =
            record {
              wide = ltb-true _ _ (each (λ u t. ltb 0 t.width) refl);
              round = ltb-true _ _ (each (λ u t. ltb 0 t.ring) refl);
              parts = ltb-true _ _ (each (λ u t. ltb 0 (ring_width t / t.width)) refl);
            };
      }
