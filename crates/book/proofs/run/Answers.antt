-- `book::run` meets its contract. Assumes nothing.
use Rattle.std.proofs.Common.{rules, ◌≡◌, ◌<◌, length, sym, ◌∙◌, ap}
use Rattle.std.specs.Prelude.{Ok, Err}
use Rattle.grid.specs.Answers.{refused}
use Rattle.book.specs.Book.{record_at, becomes}
use Rattle.book.specs.Asking.{Ask}
use Rattle.book.proofs.Ways.{answer_long}
use Rattle.book.proofs.Carrying.{asked_inside, carried_refused, carried_used, answer_refused, answer_asked}
use Rattle.book.proofs.run.Goals as goal

pub returns-then-book-gt-MOST : goal.returns-then-book-gt-MOST
returns-then-book-gt-MOST c = carried_refused c.args.q c.args.book.now c.refuse.result (answer_long c.args.q c.args.book.now c.if-book-gt-MOST.true ∙ ap refused (sym c.refuse.ensures))

pub returns-in_err-q : goal.returns-in_err-q
returns-in_err-q c =
    let q = c.args.q in
    let book = c.args.book.now in
    let e = c.in_err-q.field-0.0 in
    let r : c.from_residual.result ≡ Err e = search rules in
    rw r (carried_refused q book e (answer_refused q book c.if-book-gt-MOST.false e c.in_err-q.was))

pub returns-in_err-done : goal.returns-in_err-done
returns-in_err-done c =
    let q = c.args.q in
    let book = c.args.book.now in
    let e = c.in_err-done.field-0.0 in
    let r : c.from_residual-in_err-done.result ≡ Err e = search rules in
    rw r (carried_refused q book e (answer_asked q book c.if-book-gt-MOST.false c.in_ok-q.field-0 c.in_ok-q.was c.in_err-done.ensures.answered))

pub bounds-book-done : goal.bounds-book-done
bounds-book-done c = asked_inside c.in_ok-q.field-0 c.args.book.now c.in_ok-done.done.at c.if-book-gt-MOST.false (sym c.in_ok-done.ensures.answered)

pub offset_bounds-book-done : goal.offset_bounds-book-done
offset_bounds-book-done c =
    let h : c.in_ok-done.done.at < length c.args.book.now = asked_inside c.in_ok-q.field-0 c.args.book.now c.in_ok-done.done.at c.if-book-gt-MOST.false (sym c.in_ok-done.ensures.answered) in
    search rules

pub returns : goal.returns
returns c =
    let q = c.args.q in
    let book = c.args.book.now in
    let d = c.in_ok-done.done in
    let w : q ≡ Ok c.in_ok-q.field-0 = c.in_ok-q.was in
    let a = c.in_ok-done.ensures.answered in
    carried_used q book d.at (answer_asked q book c.if-book-gt-MOST.false c.in_ok-q.field-0 w a) (asked_inside c.in_ok-q.field-0 book d.at c.if-book-gt-MOST.false (sym a)) d.used
    (c.in_ok-done.ensures.used ∙ ap (λ (z : Ask). becomes z (record_at book d.at)) (sym w))
