-- `places::find` meets its contract. Assumes nothing.
use mathlib.Core.Path.{◌≡◌, sym, ap, ◌∙◌}
use native.Mathlib.Omega.{arith}
use Rattle.std.proofs.Common.{rules, Err}
use Rattle.places.specs.Finding.{place_found}
use Rattle.places.proofs.Finding.{find_badly, find_holds, find_refused}
use Rattle.places.proofs.find.Goals as goal

pub returns-in_ok-walk-in-Some : goal.returns-in_ok-walk-in-Some
returns-in_ok-walk-in-Some c = let s = c.args in
    let e = c.in-Some.ensures in
    c.settled.ensures
    ∙ find_holds s.name.now s.places.now (λ i. omega (arith, c.type_inv.places i)) e.0 e.1.count (sym c.walk.ensures ∙ c.in_ok-walk-in-Some.was)

pub returns-in_err-walk-in-Some : goal.returns-in_err-walk-in-Some
returns-in_err-walk-in-Some c = let s = c.args in
    let e = c.in-Some.ensures in
    let r : c.from_residual.result ≡ Err c.in_err-walk-in-Some.field-0.0 = search rules in
    ap place_found r
    ∙ find_refused s.name.now s.places.now (λ i. omega (arith, c.type_inv.places i)) e.0 e.1.count (sym c.walk.ensures ∙ c.in_err-walk-in-Some.was)

pub returns-in-None : goal.returns-in-None
returns-in-None c = find_badly c.args.name.now c.args.places.now c.in-None.ensures
