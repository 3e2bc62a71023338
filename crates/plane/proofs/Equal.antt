-- Two results that the contracts of `plane::ask_level` and `plane::ask_position` allow are equal: the level, both sides and both indices, or the refusal.
-- Assumes nothing.
use Rattle.std.proofs.Common.{◌≡◌, sym, ap, ◌∙◌}
use Rattle.std.specs.Prelude.{ℕ, Result, Ok, Err}
use Rattle.grid.specs.declared.Place.{Place}
use Rattle.grid.specs.declared.Refusal.{Refusal}
use Rattle.grid.specs.Answers.{answer_of}
use Rattle.grid.specs.Units.{side, index}
use Rattle.grid.specs.inner.Roads.{square_of}
use Rattle.grid.proofs.Cut.{clash}
use Rattle.grid.proofs.Laying.{answer_one}
use Rattle.grid.proofs.PlaneLaws.{index_unit, side_unit}
use Rattle.plane.specs.inner.Asking.{position_asked}

pub level_one : (a b : Result ℕ Refusal) → answer_of a ≡ answer_of b → a ≡ b
level_one = answer_one

-- a square has one place
one_place : (p q : Place) → square_of p ≡ square_of q → p ≡ q
one_place p q e =
    λ j. record {
      east = (sym (side_unit p.east p.x) ∙ ap (λ s. side s.longitude) e ∙ side_unit q.east q.x) j;
      north = (sym (side_unit p.north p.y) ∙ ap (λ s. side s.latitude) e ∙ side_unit q.north q.y) j;
      x = (sym (index_unit p.east p.x) ∙ ap (λ s. index s.longitude) e ∙ index_unit q.east q.x) j;
      y = (sym (index_unit p.north p.y) ∙ ap (λ s. index s.latitude) e ∙ index_unit q.north q.y) j;
    }

pub position_one : (a b : Result Place Refusal) → position_asked a ≡ position_asked b → a ≡ b
position_one (Ok p) (Ok q) e = λ j. Ok (one_place p q (cc) j)
position_one (Ok p) (Err r) e = clash (cc)
position_one (Err r) (Ok q) e = clash (cc)
position_one (Err r) (Err q) e = cc
