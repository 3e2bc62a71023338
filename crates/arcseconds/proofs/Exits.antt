-- What a `?` hands on: the refusal that it found.
-- Assumes nothing.
use mathlib.Core.Path.{◌≡◌}
use Rattle.std.proofs.Common.{Result, Ok, Err, IsErrAnd}
use Rattle.grid.specs.declared.Cell.{Cell}
use Rattle.grid.specs.declared.Refusal.{Refusal}
use Rattle.grid.specs.Answers.{Answer, refused, answer_of}
use Rattle.arcseconds.specs.declared.ArcBox.{ArcBox}
use Rattle.arcseconds.specs.Boxes.{BoxSays}

pub handed_on : {C : Type 0} (r : Result C Refusal) {q : Refusal} → IsErrAnd r (λ (s : Refusal). s ≡ q) → answer_of r ≡ refused q
handed_on (Ok x) h = absurd h
handed_on (Err s) h = cc

-- for a box
pub handed_box : (a : Answer Cell) (r : Result ArcBox Refusal) {q : Refusal} → a ≡ refused q → IsErrAnd r (λ (s : Refusal). s ≡ q) → BoxSays a r
unfolding BoxSays
handed_box a (Ok x) e h = absurd h
handed_box a (Err s) e h = rw e h
