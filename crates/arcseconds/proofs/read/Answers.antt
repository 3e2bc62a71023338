-- `read` meets its contract: 11 first, then what the two readings come to.
-- Assumes nothing.
use mathlib.Core.Path.{refl, sym, ap, ap₂, ◌∙◌}
use mathlib.Core.Bool.{◌||◌}
use lib.IntN.{ℤ}
use mir.Syntax.{w32}
use mir.Val.{SFits}
use mir.Facts.{to_z-of_z}
use Rattle.std.proofs.Common.{rules}
use Rattle.grid.specs.Answers.{accepted, refused}
use Rattle.arcseconds.specs.Readings.{units, units_at}
use Rattle.arcseconds.proofs.Exits.{handed_on}
use Rattle.arcseconds.proofs.Number.{no_nan, decided, first_nan, second_nan, found, outside}
use Rattle.arcseconds.proofs.Meaning.{both_whole}
use Rattle.arcseconds.proofs.read.Goals as goal
use Rattle.arcseconds.proofs.read.Goals.{then-is_nan-via-then-is_nan, then-is_nan-via-else-is_nan+then-is_nan-2}

pub returns-then-is_nan : goal.returns-then-is_nan
returns-then-is_nan c = let s = c.args in
    ap refused c.refuse.ensures ∙ sym (elim c.then-is_nan.branch [
      | then-is_nan-via-then-is_nan w ↦ first_nan s.longitude s.latitude (sym c.is_nan.ensures.value ∙ w.if-is_nan.true)
      | then-is_nan-via-else-is_nan+then-is_nan-2 w ↦ second_nan s.longitude s.latitude (sym w.is_nan-else-is_nan.ensures.value ∙ w.if-is_nan-2.true)
    ])

pub in_range-requires : goal.in_range-requires
in_range-requires c = (no_nan c.args.longitude c.is_nan.ensures.value c.if-is_nan.false, search rules, search rules)

pub in_range-requires-2 : goal.in_range-requires-2
in_range-requires-2 c = (no_nan c.args.latitude c.is_nan-else-is_nan.ensures.value c.if-is_nan-2.false, search rules, search rules)

pub returns-in_err-u : goal.returns-in_err-u
unfolding units_at
returns-in_err-u c = let s = c.args in
    let o = outside 2 c.in_range.result _ _ c.ok_or.ensures.value c.in_err-u.was c.refuse-2.ensures in
    let numbers = ap₂ ◌||◌ (sym c.is_nan.ensures.value ∙ c.if-is_nan.false) (sym c.is_nan-else-is_nan.ensures.value ∙ c.if-is_nan-2.false) in
    handed_on c.from_residual.result c.from_residual.ensures.1 ∙ ap refused o.1
    ∙ sym (decided s.longitude s.latitude _ _ _ numbers (sym (c.in_range.ensures 2) ∙ o.0) refl)

pub returns-in_err-v : goal.returns-in_err-v
unfolding units_at
returns-in_err-v c = let s = c.args in
    let u = found 2 c.in_range.result _ _ c.ok_or.ensures.value c.in_ok-u.was in
    let o = outside 3 c.in_range-2.result _ _ c.ok_or-2.ensures.value c.in_err-v.was c.refuse-3.ensures in
    let numbers = ap₂ ◌||◌ (sym c.is_nan.ensures.value ∙ c.if-is_nan.false) (sym c.is_nan-else-is_nan.ensures.value ∙ c.if-is_nan-2.false) in
    handed_on c.from_residual-in_err-v.result c.from_residual-in_err-v.ensures.1 ∙ ap refused o.1
    ∙ sym (decided s.longitude s.latitude _ _ _ numbers (sym (c.in_range.ensures 2) ∙ u) (sym (c.in_range-2.ensures 3) ∙ o.0))

pub returns : goal.returns
returns c = let s = c.args in
    let east : SFits w32 c.in_ok-u.u = search rules in
    let north : SFits w32 c.in_ok-v.v = search rules in
    let u = found 2 c.in_range.result _ _ c.ok_or.ensures.value c.in_ok-u.was in
    let v = found 3 c.in_range-2.result _ _ c.ok_or-2.ensures.value c.in_ok-v.was in
    ap₂ (λ (x y : ℤ). accepted (units x y)) (to_z-of_z east) (to_z-of_z north)
    ∙ sym (both_whole s.longitude s.latitude _ _ (sym (c.in_range.ensures 2) ∙ u) (sym (c.in_range-2.ensures 3) ∙ v))
