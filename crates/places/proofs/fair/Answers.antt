-- `places::fair` meets its contract. Assumes nothing.
use mathlib.Core.Path.{sym, ◌∙◌}
use mathlib.Core.Logic.{⊎_elim}
use Rattle.places.proofs.Ordering.{not_below, is_below}
use Rattle.places.proofs.Testing.{fair_order, fair_long, fair_hyphenless, fair_hyphened}
use Rattle.places.proofs.fair.Goals as goal

pub returns-then-is_ge : goal.returns-then-is_ge
returns-then-is_ge c = let s = c.args in
    let o = c.order_from.result in
    ⊎_elim (λ g. fair_order s.last.now s.name.now s.code.now c.order_from.ensures (not_below o (sym c.is_ge.ensures ∙ g)))
    (λ p. fair_long s.last.now s.name.now s.code.now c.order_from.ensures (is_below o (sym c.is_ge.ensures ∙ p.0)) p.1) c.then-is_ge.either

pub returns-then-unhyphened : goal.returns-then-unhyphened
returns-then-unhyphened c = fair_hyphenless c.args.last.now c.args.name.now c.args.code.now c.order_from.ensures (is_below c.order_from.result (sym c.is_ge.ensures ∙ c.if-is_ge.false))
    c.if-name-gt64.false c.requires c.alike-d.ensures.to c.unhyphened.ensures c.if-unhyphened.true c.is_accepted.ensures

pub returns-else-unhyphened : goal.returns-else-unhyphened
returns-else-unhyphened c = c.if-unhyphened.false ∙ fair_hyphened c.args.last.now c.args.name.now c.args.code.now c.order_from.ensures (is_below c.order_from.result (sym c.is_ge.ensures ∙ c.if-is_ge.false))
    c.if-name-gt64.false c.requires c.alike-d.ensures.to c.unhyphened.ensures c.if-unhyphened.false
