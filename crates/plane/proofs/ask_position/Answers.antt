-- `plane::ask_position` meets its contract, case by case. Assumes nothing.
use Rattle.std.proofs.Common.{◌≡◌, ◌<◌, Bool, true, false, ℕ, ℤ, ◌^◌, sym, ap, ap₂, ◌∙◌, lit<, to_z-of_z, w64, to_z, of_z, Fits, w32, SFits, arith, rules}
use Rattle.std.specs.Prelude.{Option}
use Rattle.grid.specs.declared.Refusal.{Refusal}
use Rattle.grid.specs.Units.{HALF, QUARTER, index, unit}
use Rattle.grid.specs.Answers.{accepted, refused, refusal, about}
use Rattle.grid.specs.Ends.{unit_in}
use Rattle.grid.proofs.Answers.{then_accepted, then_refused}
use Rattle.grid.proofs.Ends.{unit_known}
use Rattle.plane.proofs.Asking.{unit_of}
use Rattle.plane.specs.Text.{square_in}
use Rattle.plane.specs.inner.Asking.{standing_answer}
use Rattle.plane.proofs.ask_position.Goals as goal

-- what a number comes to, once it is known whether it lies in its range
module _ (r : Refusal) (half : ℕ) (up : Bool) {u : ℤ} {o p : Option ℤ} (f : SFits w64 u) (e : standing_answer r o ≡ unit_in r half up (to_z w64 (of_z w64 u))) (is : o ≡ p) where
  came : unit_in r half up u ≡ standing_answer r p
  came = sym (e ∙ ap (unit_in r half up) (to_z-of_z f)) ∙ ap (standing_answer r) is

abbrev two : ℕ → Refusal
two k = about k (refusal 2 0)

abbrev three : ℕ → Refusal
three k = about k (refusal 3 0)

pub returns-in_default : goal.returns-in_default
unfolding square_in
returns-in_default c = let k = c.args.ordinal in
    ap refused (c.about.ensures ∙ ap (about k) c.refuse.ensures)
    ∙ then_refused _ (came (two k) HALF false c.ranges.longitude (c.stands_for.ensures (two k)) c.in_default.is)

pub returns-in_default-stands_for : goal.returns-in_default-stands_for
unfolding square_in
returns-in_default-stands_for c = let k = c.args.ordinal in
    ap refused (c.about-in_default-stands_for.ensures ∙ ap (about k) c.refuse-in_default-stands_for.ensures)
    ∙ then_refused _ (came (three k) QUARTER true c.ranges.latitude (c.stands_for-2.ensures (three k)) c.in_default-stands_for.is)
    ∙ then_accepted _ (came (two k) HALF false c.ranges.longitude (c.stands_for.ensures (two k)) c.in-Some.is)

-- a number that was found is on the globe
fits : (r : Refusal) (half : ℕ) (up : Bool) (u v : ℤ) (n : ℕ) → 0 < half → half < 2 ^ 32 → SFits w64 v → n ≡ index (to_z w64 (of_z w64 v)) → unit_in r half up u ≡ accepted v → Fits w32 n
fits r half up u v n p l f e k = let h : index v < half = unit_known r half up p u v k in let q : n ≡ index v = e ∙ ap index (to_z-of_z f) in record { fits = omega (arith, h, q, l) }

pub overflow_cast-result : goal.overflow_cast-result
overflow_cast-result c = let k = two c.args.ordinal in
    fits k HALF false _ _ _ (lit< tt) (lit< tt) (search rules) c.outward.ensures (came k HALF false c.ranges.longitude (c.stands_for.ensures k) c.in-Some.is)

pub overflow_cast-result-2 : goal.overflow_cast-result-2
overflow_cast-result-2 c = let k = three c.args.ordinal in
    fits k QUARTER true _ _ _ (lit< tt) (lit< tt) (search rules) c.outward-2.ensures (came k QUARTER true c.ranges.latitude (c.stands_for-2.ensures k) c.in-Some-stands_for.is)

pub returns : goal.returns
unfolding square_in
returns c = let k = c.args.ordinal in
    let f : SFits w64 c.in-Some.u = search rules in
    let g : SFits w64 c.in-Some-stands_for.v = search rules in
    let x : unit c.upper.result c.outward.result ≡ c.in-Some.u = rw (c.upper.ensures, c.outward.ensures, to_z-of_z f) (unit_of c.in-Some.u) in
    let y : unit c.upper-2.result c.outward-2.result ≡ c.in-Some-stands_for.v = rw (c.upper-2.ensures, c.outward-2.ensures, to_z-of_z g) (unit_of c.in-Some-stands_for.v) in
    ap₂ (λ (a b : ℤ). accepted (record { longitude = a; latitude = b })) x y
    ∙ then_accepted _ (came (three k) QUARTER true c.ranges.latitude (c.stands_for-2.ensures (three k)) c.in-Some-stands_for.is)
    ∙ then_accepted _ (came (two k) HALF false c.ranges.longitude (c.stands_for.ensures (two k)) c.in-Some.is)
