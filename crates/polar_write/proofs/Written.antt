-- What is written of a polar place's code, and where it stands, after some levels.
-- Assumes nothing.
use mathlib.Core.Path.{◌≡◌, refl}
use mathlib.Core.Bool.{Bool}
use mathlib.Core.List.{List}
use Prim.Native.Nat.{ℕ, suc, ◌+◌, ◌≤◌, ◌<◌}
use native.Mathlib.Omega.{arith}
use lib.Seq.{sets}
use Rattle.grid.specs.declared.Place.{Place}
use Rattle.grid.specs.Units.{POLAR, index, Square, OnGlobe}
use Rattle.grid.specs.Splits.{split_at}
use Rattle.grid.specs.inner.Roads.{square_of, digits_in, level_chars, LevelFits}
use Rattle.grid.specs.inner.Standing.{level_place}
use Rattle.grid.specs.Plane.{digits_of}
use Rattle.grid.proofs.PlaneLaws.{index_unit, on_globe}
use Rattle.grid.proofs.Arriving.{node_at, node_suc}
use Rattle.grid.proofs.Levels.{LaidTo, laid_fits, laid_more}
use Rattle.polar_write.specs.declared.Spot.{Spot}
use Rattle.polar_write.specs.declared.Step.{Step}
use Rattle.polar_write.specs.inner.Spots.{spot_in, spot_step, Polar}
use Rattle.polar_write.proofs.Moves.{Moved}
use Rattle.polar_write.proofs.Reached.{goes}

pub polar_on : (p : Place) → Polar p → OnGlobe (square_of p) × (POLAR ≤ index (square_of p).latitude)
polar_on p h = (on_globe p h.x_inside h.y_inside, rw (index_unit p.north p.y) h.near)

-- after k levels: the place, the line, and the spot
pub record Done (spaced : Bool) (level k : ℕ) (p : Place) (before line : List ℕ) (r : Spot) : Type 0 where
  pub polar : Polar p
  pub text : LaidTo spaced level k (square_of p) before line
  pub spot : r ≡ spot_in (node_at k (square_of p)) (square_of p)

-- one level more
module _ (k : ℕ) {spaced : Bool} {level : ℕ} {p : Place} {before line : List ℕ} {q : Spot} (D : Done spaced level k p before line q) (a : 2 ≤ k) (h : k < 10) where
  abbrev s : Square
  s = square_of p

  M : Moved (split_at k) (node_at k s) s
  M = goes s (polar_on p D.polar).0 (polar_on p D.polar).1 k a h

  digits : digits_of (split_at k) (node_at k s) s ≡ digits_in (split_at k) (spot_step (split_at k) q).digits
  digits = rw D.spot M.digits

  pub fits : {r : Step} → r ≡ spot_step (split_at k) q → LevelFits level k (split_at k) r.digits line (level_place spaced k (split_at k))
  fits e = rw e (laid_fits D.text (omega (arith, a)) h refl _ digits)

  pub onward : {after : List ℕ} {r : Step} → r ≡ spot_step (split_at k) q → after ≡ sets line (level_place spaced k (split_at k)) (level_chars level k (split_at k) r.digits)
      → Done spaced level (k + 1) p before after r.rest
  onward {after} {r} e f =
      let z : suc k ≡ k + 1 = omega arith in
      let d : Done spaced level (suc k) p before after r.rest =
      record {
        polar = D.polar;
        text = laid_more D.text (omega (arith, a)) h refl _ digits (rw e at f);
        spot = rw e (cc (M.rest, node_suc k s h M.child));
      } in
      rw z at d
