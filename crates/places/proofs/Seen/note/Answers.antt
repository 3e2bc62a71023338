-- `places::Seen::note` meets its contract. Assumes nothing.
use mathlib.Core.Path.{sym, ◌∙◌, ap}
use lib.ListN.{length}
use borrow.Author.Tests.{eqb-true, eqb-false}
use Rattle.places.specs.inner.Walk.{closed}
use Rattle.places.proofs.Ordering.{is_less, is_same}
use Rattle.places.proofs.Testing.{note_met, note_below, note_close}
use Rattle.places.proofs.Seen.note.Goals as goal

pub returns-then-is_some : goal.returns-then-is_some
returns-then-is_some c = let s = c.args in note_met s.asked.now s.self s.name.now s.code (sym c.is_some.ensures ∙ c.if-is_some.true)

pub returns-then-is_lt : goal.returns-then-is_lt
returns-then-is_lt c = let s = c.args in
    let o = sym (is_less c.order-order.result) ∙ sym c.is_lt.ensures ∙ c.if-is_lt.true in
    note_below s.asked.now s.self s.name.now s.code (sym c.is_some.ensures ∙ c.if-is_some.false) c.order-order.ensures (eqb-true _ _ o)

pub returns : goal.returns
returns c = let s = c.args in
    let o = sym (is_less c.order-order.result) ∙ sym c.is_lt.ensures ∙ c.if-is_lt.false in
    ap (λ q. closed s.self.below s.self.start q (length s.name.now) s.code) (c.is_eq.ensures ∙ is_same c.order-order.result)
    ∙ note_close s.asked.now s.self s.name.now s.code (sym c.is_some.ensures ∙ c.if-is_some.false) c.order-order.ensures (eqb-false _ _ o)
