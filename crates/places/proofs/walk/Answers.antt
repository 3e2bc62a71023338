-- `places::walk` meets its contract. Assumes nothing.
use mathlib.Core.Path.{◌≡◌, refl, sym, ◌∙◌}
use mathlib.Core.Bool.{false}
use mathlib.Core.Logic.{⊎_elim}
use Prim.Native.Nat.{◌+◌, ◌-◌, ◌*◌}
use native.Mathlib.Omega.{arith}
use lib.ListN.{length}
use Rattle.places.specs.Reading.{fair_at}
use Rattle.places.proofs.Testing.{fair_elsewhere, fair_past, fair_within}
use Rattle.places.proofs.Walking.{begins, word_is, name_is, code_is, stops, goes, going_on, ends, overruns}
use Rattle.places.proofs.walk.Goals as goal

pub loop-entry-init : goal.loop-entry-init
loop-entry-init c = let u : length c.args.entries.now - 0 ≡ length c.args.entries.now = omega arith in
    going_on (begins c.args.asked.now c.args.book.now c.requires) u refl

pub returns-then-from-at : goal.returns-then-from-at
returns-then-from-at c = let l = c.loop-entry in
    let t = c.loop-entry-test.true in
    let s = c.args.book.now in
    let w = word_is c.requires l.entry-index t (c.from-in-loop-entry.ensures ∙ c.from_be_bytes.ensures) in
    let n = name_is c.requires l.entry-index t c.from.ensures in
    let m = code_is c.requires l.entry-index t c.from-code.ensures in
    let i = 2 + 4 * l.entry-index in
    let f : false ≡ fair_at s i l.at l.last.now = ⊎_elim (λ e. fair_elsewhere s i l.at l.last.now w e) (λ p. fair_past s i l.at l.last.now w n m p.0 p.1) c.then-from-at.either in
    stops l.invariant (omega arith) f

pub returns-then-not-fair : goal.returns-then-not-fair
returns-then-not-fair c = let l = c.loop-entry in
    let t = c.loop-entry-test.true in
    let w = word_is c.requires l.entry-index t (c.from-in-loop-entry.ensures ∙ c.from_be_bytes.ensures) in
    let n = name_is c.requires l.entry-index t c.from.ensures in
    let m = code_is c.requires l.entry-index t c.from-code.ensures in
    let f = fair_within c.args.book.now (2 + 4 * l.entry-index) l.at l.last.now w n m c.if-from-at.false c.if-book-end.false c.fair.ensures in
    stops l.invariant (omega arith) (sym c.if-not-fair.true ∙ f)

pub loop-entry-preserved : goal.loop-entry-preserved
loop-entry-preserved c = let l = c.loop-entry in
    let t = c.loop-entry-test.true in
    let s = c.args.book.now in
    let w = word_is c.requires l.entry-index t (c.from-in-loop-entry.ensures ∙ c.from_be_bytes.ensures) in
    let n = name_is c.requires l.entry-index t c.from.ensures in
    let m = code_is c.requires l.entry-index t c.from-code.ensures in
    let f = fair_within s (2 + 4 * l.entry-index) l.at l.last.now w n m c.if-from-at.false c.if-book-end.false c.fair.ensures in
    let left : length c.args.entries.now - (l.entry-index + 1) ≡ length c.args.entries.now - l.entry-index - 1 = omega arith in
    let i : 2 + 4 * (l.entry-index + 1) ≡ 2 + 4 * l.entry-index + 4 = omega arith in
    going_on (goes l.invariant (omega arith) (sym c.if-not-fair.false ∙ f) n m c.note-seen.ensures) left i

pub returns-then-at-book : goal.returns-then-at-book
returns-then-at-book c = ends c.loop-entry.invariant (omega arith) c.if-at-book.true

pub returns-else-at-book : goal.returns-else-at-book
returns-else-at-book c = overruns c.loop-entry.invariant (omega arith) c.if-at-book.false
