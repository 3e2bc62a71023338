-- `book::decide` meets its contract. Assumes nothing.
use Rattle.std.proofs.Common.{rules, ◌≡◌, sym, ◌∙◌, ap}
use Rattle.std.specs.Prelude.{Ok, Err}
use Rattle.grid.specs.Answers.{answer_of}
use Rattle.book.proofs.Looking.{says_release}
use Rattle.book.proofs.decide.Goals as goal

pub returns-in_err-at-in-Release-clause-answered : goal.returns-in_err-at-in-Release-clause-answered
returns-in_err-at-in-Release-clause-answered c =
    let s = says_release c.in-Release.flight c.args.book.now c.place_of.result c.place_of.ensures c.refuse.ensures in
    let w : c.ok_or.result ≡ Err c.in_err-at-in-Release.field-0.0 = c.in_err-at-in-Release.was in
    let r : c.from_residual-in_err-at-in-Release.result ≡ Err c.in_err-at-in-Release.field-0.0 = search rules in
    rw (r, c.in-Release.is) (ap answer_of (sym w ∙ c.ok_or.ensures.value) ∙ s)

pub returns-in_ok-at-in-Release-clause-answered : goal.returns-in_ok-at-in-Release-clause-answered
returns-in_ok-at-in-Release-clause-answered c =
    let s = says_release c.in-Release.flight c.args.book.now c.place_of.result c.place_of.ensures c.refuse.ensures in
    let w : c.ok_or.result ≡ Ok c.in_ok-at-in-Release.at = c.in_ok-at-in-Release.was in
    rw c.in-Release.is (ap answer_of (sym w ∙ c.ok_or.ensures.value) ∙ s)
