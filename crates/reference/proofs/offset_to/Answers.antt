-- `reference::offset_to` meets its contract. Assumes nothing.
use mathlib.Core.Path.{◌≡◌, refl, sym, ap, ◌∙◌, subst}
use mathlib.Core.Bool.{true, false, ◌&&◌, false≢true}
use mathlib.Core.Logic.{inl, inr}
use Prim.Native.Nat.{ℕ, ◌<◌, ◌≤◌}
use Rattle.std.proofs.Common.{rules}
use Rattle.grid.proofs.Cut.{and_true}
use Rattle.grid.specs.Answers.{accepted, about, answer_of}
use Rattle.grid.specs.Plane.{cell_of}
use Rattle.reference.specs.Offsets.{offset_digit}
use Rattle.reference.specs.Text.{fit, east_span, north_span, spanned, reference_text}
use Rattle.reference.specs.Meaning.{OffsetTo}
use Rattle.reference.proofs.Exits.{handed_text, target_refused, mapped_ok, mapped_err}
use Rattle.reference.proofs.Leading.{related_read, found_offset}
use Rattle.reference.proofs.Parts.{same_span, too_far_east, too_far_north, near_both, not_fit, levels_differ, levels_same, known_sizes}
use Rattle.reference.proofs.offset_to.Goals as goal
use Rattle.reference.proofs.offset_to.Goals.{In_ok-t, Else-not-fits, After-span-n, Else-n-gt16, then-fits, else-fits}

-- both codes are those of the cells that were read
base_is : (c : In_ok-t) → cell_of c.args.base.now ≡ accepted c.in_ok-b.b
base_is c = sym c.read.ensures ∙ ap answer_of c.in_ok-b.was

target_is : (c : In_ok-t) → cell_of c.args.target.now ≡ accepted c.in_ok-t.t
target_is c = sym c.read-t.ensures ∙ ap answer_of (mapped_ok c.read-t.result c.map_err.result _ _ c.map_err.ensures.cases c.in_ok-t.was)

spans : (c : In_ok-t) → spanned c.args.base.now c.in_ok-b.b c.in_ok-t.t ≡ reference_text c.args.base.now c.args.target.now
unfolding reference_text
spans c = sym (related_read c.args.base.now _ _ _ _ (base_is c) (target_is c))

pub returns-in_err-b : goal.returns-in_err-b
unfolding reference_text
returns-in_err-b c = handed_text c.from_residual.result _ c.from_residual.ensures.1 ∙ rw (← c.read.ensures, c.in_err-b.was) refl

pub returns-in_err-t : goal.returns-in_err-t
unfolding reference_text
returns-in_err-t c =
    let p = mapped_err c.read-t.result c.map_err.result _ _ c.map_err.ensures.cases c.in_err-t.was in
    let second : c.in_err-t.field-0.0 ≡ about 2 p.0 = search (rules, p.2) in
    handed_text c.from_residual-in_err-t.result _ c.from_residual-in_err-t.ensures.1
    ∙ target_refused c.args.base.now _ _ (sym c.read.ensures ∙ ap answer_of c.in_ok-b.was) (sym c.read-t.ensures ∙ ap answer_of p.1) second

-- one of them does not fit
pub returns-then-not-fits : goal.returns-then-not-fits
returns-then-not-fits c = let b = c.in_ok-b.b in let t = c.in_ok-t.t in
    let none : false ≡ (fit b && fit t) = elim c.if-fits.branch [
      | then-fits w ↦ sym c.if-not-fits.true ∙ w.value-is ∙ w.fits-then-fits.ensures ∙ rw (← c.fits.ensures, w.if-fits.true) refl
      | else-fits w ↦ rw (← c.fits.ensures, w.if-fits.false) refl
    ] in
    not_fit b t none c.refuse.ensures c.args.base.now ∙ spans (goal.at.returns-then-not-fits c).In_ok-t

-- both fit
they_fit : (c : Else-not-fits) → true ≡ (fit c.in_ok-b.b && fit c.in_ok-t.t)
they_fit c = elim c.if-fits.branch [
  | then-fits w ↦ sym c.if-not-fits.false ∙ w.value-is ∙ w.fits-then-fits.ensures ∙ rw (← c.fits.ensures, w.if-fits.true) refl
  | else-fits w ↦ absurd (false≢true (sym w.if-fits.false ∙ sym w.value-is ∙ c.if-not-fits.false))
]

sizes : (c : Else-not-fits) → (0 < c.in_ok-b.b.width) × (0 < c.in_ok-b.b.height)
sizes c = known_sizes c.in_ok-b.b c.in_ok-t.t (c.args.base.now, sym c.read.ensures ∙ ap answer_of c.in_ok-b.was) (they_fit c)

pub returns-then-b-t : goal.returns-then-b-t
returns-then-b-t c = let d = goal.at.returns-then-b-t c in
    levels_differ _ _ (they_fit d.Else-not-fits) c.if-b-t.true c.refuse-then-b-t.ensures c.args.base.now ∙ spans d.In_ok-t

pub span-m-requires : goal.span-m-requires
span-m-requires c = (sizes (goal.at.span-m-requires c).Else-not-fits).0

pub span-n-requires : goal.span-n-requires
span-n-requires c = (sizes (goal.at.span-n-requires c).Else-not-fits).1

-- M and N
east : (c : After-span-n) → c.span-m.result ≡ east_span c.in_ok-b.b c.in_ok-t.t
east c = same_span c.in_ok-b.b.width c.in_ok-b.b.west c.in_ok-t.t.west c.span-m.ensures (search rules) (search rules)

north : (c : After-span-n) → c.span-n.result ≡ north_span c.in_ok-b.b c.in_ok-t.t
north c = same_span c.in_ok-b.b.height c.in_ok-b.b.south c.in_ok-t.t.south c.span-n.ensures (search rules) (search rules)

-- beyond 7 cells either way
pub returns-then-m-gt16 : goal.returns-then-m-gt16
returns-then-m-gt16 c = let d = goal.at.returns-then-m-gt16 c in
    let w = c.args.base.now in
    let e = c.refuse-then-m-gt16.ensures in
    levels_same _ _ w (they_fit d.Else-not-fits) c.if-b-t.false (elim c.then-m-gt16.either [
      | inl m ↦ too_far_east _ _ (east d.After-span-n) m e w
      | inr n ↦ too_far_north _ _ (east d.After-span-n) n.0 (north d.After-span-n) n.1 e w
    ]) ∙ spans d.In_ok-t

-- an offset leads from the one to the other
abbrev leads : (c : Else-n-gt16) → OffsetTo c.in_ok-b.b c.in_ok-t.t
leads c = let d = goal.at.invariant_of-result c in
    let f = and_true (fit c.in_ok-b.b) (fit c.in_ok-t.t) (sym (they_fit d.Else-not-fits)) in
    found_offset c.args.base.now c.args.target.now _ _ (base_is d.In_ok-t) (target_is d.In_ok-t) f.0 f.1 c.if-b-t.false
    (subst (λ (k : ℕ). k ≤ 16) (east d.After-span-n) c.if-m-gt16.false)
    (subst (λ (k : ℕ). k ≤ 16) (north d.After-span-n) c.if-n-gt16.false)

pub invariant_of-result : goal.invariant_of-result
invariant_of-result c = let d = goal.at.invariant_of-result c in
    record {
      digits = (
        subst (λ (k : ℕ). offset_digit k ≡ true) (sym (east d.After-span-n)) (leads c).east,
        subst (λ (k : ℕ). offset_digit k ≡ true) (sym (north d.After-span-n)) (leads c).north,
      );
    }

pub returns : goal.returns
returns c = let d = goal.at.returns c in
    let w = c.args.base.now in
    levels_same _ _ w (they_fit d.Else-not-fits) c.if-b-t.false
    (near_both _ _ (east d.After-span-n) c.if-m-gt16.false (north d.After-span-n) c.if-n-gt16.false w) ∙ spans d.In_ok-t
