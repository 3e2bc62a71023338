-- `book::place_for` meets its contract. Assumes nothing.
use Rattle.std.proofs.Common.{◌≡◌, false, ℕ, ◌+◌, ◌-◌, ◌<◌, length, drop, sym, ◌∙◌, ap, arith, below_more, position, get_or}
use Rattle.std.proofs.lemmas.List.{get_or-drop, length-drop}
use Rattle.std.specs.Prelude.{not}
use Rattle.grid.proofs.Cut.{and_make}
use Rattle.book.specs.Asking.{blank}
use Rattle.book.specs.Book.{live, flies, record_at}
use Rattle.book.proofs.Places.{none_passes, some_passes, rest_is, one_passes, one_fails}
use Rattle.book.proofs.Looking.{dead_passed, live_passed, flown, says_15, says_16, says_used, says_17}
use Rattle.book.proofs.place_for.Goals as goal
use Rattle.book.proofs.place_for.Goals.{then-not-is_live, else-not-is_live+else-sought-r+else-conflicts}

pub returns-then-sought-r : goal.returns-then-sought-r
returns-then-sought-r c =
    says_15 c.args.sought c.args.book.now c.loop-i.i c.loop-i-test.true
    (flown c.args.sought (record_at c.args.book.now c.loop-i.i) (sym c.is_live.ensures ∙ c.if-not-is_live.false) c.if-sought-r.true)
    c.refuse.ensures

pub returns-in-Some : goal.returns-in-Some
returns-in-Some c =
    let book = c.args.book.now in
    let i = c.loop-i.i in
    let k = c.in-Some.field-0 in
    let f = some_passes (flies c.args.sought.flight) (drop i book) k (ap (position (flies c.args.sought.flight)) (rest_is book i) ∙ sym c.place_of.ensures ∙ c.in-Some.is) in
    let l : i + k < length book = omega (arith, f.0, length-drop i book) in
    says_15 c.args.sought book (i + k) l
    (rw get_or-drop at f.1)
    c.refuse-in-Some.ensures

pub returns-in-None : goal.returns-in-None
returns-in-None c =
    let book = c.args.book.now in
    let i = c.loop-i.i in
    let a = c.args.sought in
    says_16 a book i c.loop-i.invariant.passed c.loop-i-test.true
    (and_make _ _ (sym c.is_live.ensures ∙ c.if-not-is_live.false) (sym c.conflicts.ensures ∙ c.if-conflicts.true))
    (λ k ge l.
    let e : i + (k - i) ≡ k = omega arith in
    let g : get_or (drop i book) (k - i) blank ≡ record_at book k = get_or-drop i book (k - i) blank ∙ ap (λ (m : ℕ). record_at book m) e in
    ap (flies a.flight) (sym g) ∙ none_passes (flies a.flight) (drop i book) (ap (position (flies a.flight)) (rest_is book i) ∙ sym c.place_of.ensures ∙ c.in-None.is) (k - i) (omega (arith, length-drop i book)))
    (rw c.refuse-in-None.ensures at c.at_place.ensures)

pub loop-i-preserved : goal.loop-i-preserved
loop-i-preserved c =
    let i = c.loop-i.i in
    let v = c.loop-i.invariant in
    let a = c.args.sought in
    let r = record_at c.args.book.now i in
    elim c.if-not-is_live.branch [
      | then-not-is_live w ↦ let d : live r ≡ false = sym c.is_live.ensures ∙ w.if-not-is_live.true in record { passed = below_more _ _ v.passed (dead_passed a r d); first_free = one_passes v.first_free c.loop-i-test.true (ap not d) (omega arith) }
      | else-not-is_live+else-sought-r+else-conflicts w ↦ record { passed = below_more _ _ v.passed (live_passed a r w.if-sought-r.false (sym w.conflicts.ensures ∙ w.if-conflicts.false)); first_free = one_fails v.first_free (ap not (sym c.is_live.ensures ∙ w.if-not-is_live.false)) w.free-is }
    ]

pub returns-then-free-book : goal.returns-then-free-book
returns-then-free-book c = says_used c.args.sought c.args.book.now c.loop-i.i c.loop-i.invariant.passed (omega arith) c.loop-i.free c.loop-i.invariant.first_free c.if-free-book.true

pub returns-else-free-book : goal.returns-else-free-book
returns-else-free-book c =
    says_17 c.args.sought c.args.book.now c.loop-i.i c.loop-i.invariant.passed (omega arith) c.loop-i.free c.loop-i.invariant.first_free (omega arith) c.refuse-else-free-book.ensures
