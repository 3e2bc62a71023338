-- `places::alike` meets its contract. Assumes nothing.
use mathlib.Core.Path.{sym, ◌∙◌}
use native.Mathlib.Omega.{arith}
use Rattle.places.proofs.Names.{alike_begins, alike_four}
use Rattle.places.proofs.alike.Goals as goal

pub loop-i-init : goal.loop-i-init
loop-i-init c = let s = c.args in (c.min-n.ensures, alike_begins s.a.now s.b.now)

pub four-requires : goal.four-requires
four-requires c = let s = c.args in
    omega (arith, c.loop-i-test.true, c.loop-i.invariant.0)

pub four-requires-in-loop-i : goal.four-requires-in-loop-i
four-requires-in-loop-i c = let s = c.args in
    omega (arith, c.loop-i-test.true, c.loop-i.invariant.0)

pub returns-then-four : goal.returns-then-four
returns-then-four c = record {
  to = c.loop-i.invariant.1;
  apart = λ h k e. c.if-four.true (c.four.ensures ∙ e ∙ sym c.four-in-loop-i.ensures);
}

pub loop-i-preserved : goal.loop-i-preserved
loop-i-preserved c = let s = c.args in
    let l = c.loop-i in
    let t = c.loop-i-test.true in (
      l.invariant.0,
      alike_four s.a.now s.b.now l.i
          (λ j. omega (arith, c.type_inv.a j))
          (λ j. omega (arith, c.type_inv.b j))
          (omega (arith, t, l.invariant.0)) (omega (arith, t, l.invariant.0))
          (sym c.four.ensures ∙ c.if-four.false ∙ c.four-in-loop-i.ensures) l.invariant.1,
    )

pub returns : goal.returns
returns c = let s = c.args in
    let l = c.loop-i in
    record {
      to = l.invariant.1;
      apart = λ h k e. absurd (omega (arith, h, k, c.loop-i-test.false, l.invariant.0));
    }
