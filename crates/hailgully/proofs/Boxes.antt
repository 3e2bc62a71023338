-- The box of a code, as the C interface hands it back. Assumes nothing.
use mathlib.Core.Path.{◌≡◌, sym, subst}
use Rattle.std.specs.Prelude.{Result, Ok, Err}
use Rattle.grid.specs.declared.Cell.{Cell}
use Rattle.grid.specs.declared.Refusal.{Refusal}
use Rattle.grid.specs.Answers.{Answer, accepted, refused}
use Rattle.arcseconds.specs.declared.ArcBox.{ArcBox}
use Rattle.arcseconds.specs.Boxes.{BoxOf, BoxSays}
use Rattle.hailgully.specs.declared.HgRefusal.{HgRefusal}
use Rattle.hailgully.specs.declared.HgBox.{HgBox}
use Rattle.hailgully.specs.Results.{no_refusal, refusal_of, box_with, zero_cell, BoxIs, BoxFor}

-- a refusal and a cell's box side by side
pub box_is : {r : HgBox} {p q : HgRefusal} {b : ArcBox} {c : Cell} → r ≡ box_with p b → p ≡ q → BoxOf c b → BoxIs q c r
box_is {r} {p} {q} {b} {c} e f o =
    subst (BoxIs q c) (sym e) (record { refusal_is = f; west_is = o.west_is; south_is = o.south_is; width_is = o.width_is; height_is = o.height_is })

-- a box that was found is that of the code's cell
pub box_found : (a : Answer Cell) {x : Result ArcBox Refusal} {b : ArcBox} {r : HgBox} → x ≡ Ok b → BoxSays a x → ((c : Cell) → BoxOf c b → BoxIs no_refusal c r) → BoxFor a r
unfolding BoxSays BoxFor
box_found (accepted c) e s f = f c (subst (BoxSays (accepted c)) e s)
box_found (refused q) e s f = absurd (subst (BoxSays (refused q)) e s)

-- and a refusal is the code's
pub box_refused_as : (a : Answer Cell) {x : Result ArcBox Refusal} {q : Refusal} {r : HgBox} → x ≡ Err q → BoxSays a x → BoxIs (refusal_of q) zero_cell r → BoxFor a r
unfolding BoxSays BoxFor
box_refused_as (accepted c) e s i = absurd (subst (BoxSays (accepted c)) e s)
box_refused_as (refused p) {r = r} e s i = subst (λ (z : Refusal). BoxIs (refusal_of z) zero_cell r) (subst (BoxSays (refused p)) e s) i
