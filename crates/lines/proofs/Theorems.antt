-- Whatever pieces the input comes in and however much is filled at a time, a run of the program prints the answers of the whole input's lines.
-- Assumes nothing.
use mathlib.Core.Path.{◌≡◌, refl, sym, ap, subst⁻¹, ◌∙◌}
use mathlib.Core.Bool.{Bool, true, false, cond}
use mathlib.Core.List.{List, [], ◌∷◌, ◌++◌, append-nil, append_assoc}
use Prim.Native.Nat.{ℕ, suc, ◌+◌, ◌-◌, ◌≤◌}
use native.Mathlib.Omega.{arith}
use native.Mathlib.Numerals.{add-one}
use native.Mathlib.Nat.{sub_self}
use lib.Dec.{eqb, ltb, leb}
use lib.ListN.{length, take, drop, length-append}
use lib.Seq.{sets, sets-eq, take_at, take-suc-set, length-take-le}
use borrow.Author.Tests.{ltb-true, ltb-false, leb-true}
use Rattle.grid.specs.Plane.{cell_of}
use Rattle.lines.specs.declared.Marks.{Marks}
use Rattle.lines.specs.Text.{FEED, answer_text}
use Rattle.lines.specs.Lines.{last_line, lines_after, line_text, lines_text, output_of}
use Rattle.lines.specs.Filling.{KEPT, ROOM, Work, work, start, line_in, answered, longer, passed, on_byte, fill}
use Rattle.lines.specs.Run.{Run, ended, more, emptied, finish_text, Printing, none, part, Through, Turns, begun, turn, Ran}
use Rattle.lines.specs.inner.Buffers.{Laid, MarksWithin}
use Rattle.lines.proofs.Filling.{answer_length, stays, fill_more, filled}
use Rattle.lines.proofs.Long.{long_refused}

-- ---- of a line that is longer the first 21 bytes say all

long_text : (u v : List ℕ) → KEPT ≤ length u → KEPT ≤ length v → line_text u ≡ line_text v
long_text u v h k = ap answer_text (long_refused u h ∙ sym (long_refused v k))

last_long : (u v : List ℕ) → KEPT ≤ length u → KEPT ≤ length v → lines_text (last_line u) ≡ lines_text (last_line v)
unfolding lines_text
last_long [] v h k = absurd (omega arith)
last_long (a ∷ u) [] h k = absurd (omega arith)
last_long (a ∷ u) (b ∷ v) h k = rw (long_text (a ∷ u) (b ∷ v) h k)

-- what is printed from a line on that has begun
abbrev after : List ℕ → List ℕ → List ℕ
after line w = lines_text (lines_after line w)

long_same : (u v w : List ℕ) → KEPT ≤ length u → KEPT ≤ length v → after u w ≡ after v w
unfolding lines_after lines_text
long_same u v [] h k = last_long u v h k
long_same u v (b ∷ w) h k =
    by (eqb b FEED) (long_same (u ++ (b ∷ [])) (v ++ (b ∷ [])) w (simp length-append (omega arith)) (simp length-append (omega arith)))
  where
    by : (q : Bool) → after (u ++ (b ∷ [])) w ≡ after (v ++ (b ∷ [])) w
        → lines_text (cond q (u ∷ lines_after [] w) (lines_after (u ++ (b ∷ [])) w)) ≡ lines_text (cond q (v ∷ lines_after [] w) (lines_after (v ++ (b ∷ [])) w))
    by true e = rw (long_text u v h k)
    by false e = e

-- ---- one byte

-- what has been filled in, and what is printed after it
abbrev printed : Work → List ℕ → List ℕ
printed w i = take w.marked.at w.out ++ after (line_in w) i

pub take_sets : (l : List ℕ) (at : ℕ) (v : List ℕ) → at + length v ≤ length l → take (at + length v) (sets l at v) ≡ take at l ++ v
take_sets l at v h =
    ap (take (at + length v)) (sets-eq v l at h)
    ∙ take_at (take at l ++ v) (drop (at + length v) l) (at + length v) (rw (length-append, length-take-le at l (omega arith)))

byte_printed : (b : ℕ) (w : Work) (i : List ℕ) → MarksWithin w.marked w.line w.out → w.marked.at + ROOM ≤ length w.out
    → printed (on_byte b w) i ≡ printed w (b ∷ i)
unfolding on_byte lines_after lines_text
byte_printed b w i r h = byte (eqb b FEED)
  where
    keeps : (q : Bool) → ltb w.marked.held KEPT ≡ q → printed (cond q (longer b w) (passed w)) i
        ≡ take w.marked.at w.out ++ after (line_in w ++ (b ∷ [])) i
    keeps true e =
        rw (add-one w.marked.held, take-suc-set w.line w.marked.held b (omega (arith, ltb-true w.marked.held KEPT e, r.long)))
    keeps false e =
        let l : KEPT ≤ length (line_in w) = rw (length-take-le w.marked.held w.line (omega (arith, r.few, r.long))) (ltb-false w.marked.held KEPT e) in
        rw (long_same (line_in w) (line_in w ++ (b ∷ [])) i l (simp length-append (omega arith)))

    byte : (q : Bool) → printed (cond q (answered w) (cond (ltb w.marked.held KEPT) (longer b w) (passed w))) i
        ≡ take w.marked.at w.out ++ lines_text (cond q (line_in w ∷ lines_after [] i) (lines_after (line_in w ++ (b ∷ [])) i))
    byte true =
        rw (take_sets w.out w.marked.at (line_text (line_in w)) (omega (arith, answer_length (cell_of (line_in w)))))
        (append_assoc (take w.marked.at w.out) (line_text (line_in w)) (after [] i))
    byte false = keeps (ltb w.marked.held KEPT) refl

-- ---- a block

fill_printed : (w : Work) (piece rest : List ℕ) → MarksWithin w.marked w.line w.out
    → printed (fill w piece) (drop ((fill w piece).marked.next - w.marked.next) piece ++ rest) ≡ printed w (piece ++ rest)
unfolding fill
fill_printed w [] rest r = rw sub_self
fill_printed w (b ∷ bs) rest r = by (leb (w.marked.at + ROOM) (length w.out)) refl (λ k. fill_printed (on_byte b w) bs rest k)
  where
    -- a byte less, and one byte less of them
    dropped : (v : Work) → w.marked.next + 1 ≤ v.marked.next → drop (v.marked.next - w.marked.next) (b ∷ bs) ≡ drop (v.marked.next - (w.marked.next + 1)) bs
    dropped v h =
        let e : v.marked.next - w.marked.next ≡ suc (v.marked.next - (w.marked.next + 1)) = omega arith in
        rw e

    by : (q : Bool) → leb (w.marked.at + ROOM) (length w.out) ≡ q
        → (MarksWithin (on_byte b w).marked (on_byte b w).line (on_byte b w).out
        → printed (fill (on_byte b w) bs) (drop ((fill (on_byte b w) bs).marked.next - (on_byte b w).marked.next) bs ++ rest) ≡ printed (on_byte b w) (bs ++ rest))
        → printed (cond q (fill (on_byte b w) bs) w) (drop ((cond q (fill (on_byte b w) bs) w).marked.next - w.marked.next) (b ∷ bs) ++ rest) ≡ printed w (b ∷ (bs ++ rest))
    by true e f =
        let h = leb-true _ _ e in
        let s = stays b w r h in
        let v = fill (on_byte b w) bs in
        let g = filled (on_byte b w) bs s.ready in
        rw (dropped v (omega (arith, g.forth, s.one_on)), ← s.one_on) (f s.ready) ∙ byte_printed b w (bs ++ rest) r h
    by false e f = rw sub_self

-- ---- a run

run_prints : {w : Work} {input output : List ℕ} → w.marked.next ≡ 0 → w.marked.at ≡ 0 → MarksWithin w.marked w.line w.out
    → Run w input output → output ≡ after (line_in w) input
unfolding lines_after
run_prints n a r ended = refl
run_prints {w} n a r (more piece rest {output} next) =
    let v = fill w piece in
    let f = filled w piece r in
    let k : v.marked.next - w.marked.next ≡ v.marked.next = omega arith in
    let e : output ≡ after (line_in v) (drop v.marked.next piece ++ rest) =
    run_prints refl refl (record { few = f.ready.few; long = f.ready.long; inside = omega arith }) next in
    rw e ((rw k at (fill_printed w piece rest r)) ∙ ap (λ (j : ℕ). take j w.out ++ after (line_in w) (piece ++ rest)) a)

-- from the start on a run prints just what document 01 says
pub prints : (line out : List ℕ) {input output : List ℕ} → KEPT ≤ length line → Run (start 0 line out) input output → output ≡ output_of input
unfolding output_of
prints line out h run = run_prints refl refl (record { few = omega arith; long = h; inside = omega arith }) run

-- there is a run for every input: one in which it comes byte by byte
one_byte : (b : ℕ) (w : Work) → w.marked.at + ROOM ≤ length w.out → fill w (b ∷ []) ≡ on_byte b w
unfolding fill
one_byte b w h = fill_more b [] w h

run_of : (input : List ℕ) (w : Work) → w.marked.next ≡ 0 → w.marked.at ≡ 0 → MarksWithin w.marked w.line w.out → ROOM ≤ length w.out
    → (output : List ℕ) × Run w input output
run_of [] w n a r h = (_, ended)
run_of (b ∷ i) w n a r h =
    let k : w.marked.at + ROOM ≤ length w.out = omega arith in
    let s = stays b w r k in
    let v = fill w (b ∷ []) in
    let o : v ≡ on_byte b w = one_byte b w k in
    let e : v.marked.next ≡ 1 = rw o (omega (arith, s.one_on)) in
    let l : length v.out ≡ length w.out = rw o s.same_out in
    let rest = run_of i (emptied v) refl refl (record { few = rw o s.ready.few; long = rw o s.ready.long; inside = omega arith }) (omega arith) in
    (_, more (b ∷ []) i (subst⁻¹ (λ (j : ℕ). Run (emptied v) (drop j (b ∷ []) ++ i) rest.0) e rest.1))

pub runs : (line out input : List ℕ) → KEPT ≤ length line → ROOM ≤ length out → (output : List ℕ) × Run (start 0 line out) input output
runs line out input h k = run_of input (start 0 line out) refl refl (record { few = omega arith; long = h; inside = omega arith }) k

-- ---- the program's turns make a run

-- what was handed over part by part, and a run from there on, are a run from the start on
printing_runs : {w : Work} {block : List ℕ} {v : Work} {left output : List ℕ} → Printing w block v left output
    → (rest : List ℕ) {after : List ℕ} → Run v (left ++ rest) after → Run w (block ++ rest) (output ++ after)
printing_runs none rest run = run
printing_runs {w} {block = block} (part {v} {left} {output} p) rest {after} run =
    let text = take (fill v left).marked.at (fill v left).out in
    subst⁻¹ (λ (o : List ℕ). Run w (block ++ rest) o) (append_assoc output text after) (printing_runs p rest (more left rest run))

-- a block that was printed whole, and a run from there on
pub through_runs : {w v : Work} {block : List ℕ} (t : Through w block v true) (rest : List ℕ) {after : List ℕ}
    → Run v rest after → Run w (block ++ rest) (t.output ++ after)
through_runs {v = v} t rest {after} run = printing_runs t.printing rest (subst⁻¹ (λ (l : List ℕ). Run v (l ++ rest) after) (t.whole refl) run)

-- some turns, and a run from there on
turns_run : {w v : Work} {input output : List ℕ} → Turns w v input output
    → (rest : List ℕ) {after : List ℕ} → Run v rest after → Run w (input ++ rest) (output ++ after)
turns_run begun rest run = run
turns_run {w} (turn {block = block} {input} {output} p t) rest {after} run =
    subst⁻¹ (λ (i : List ℕ). Run w i ((output ++ t.output) ++ after)) (append_assoc input block rest)
    (subst⁻¹ (λ (o : List ℕ). Run w (input ++ (block ++ rest)) o) (append_assoc output t.output after)
    (turns_run p (block ++ rest) (through_runs t rest run)))

-- what the program has handed over when it says that all was read and written: just what document 01 says of the input
pub ran_prints : {line out after : List ℕ} → KEPT ≤ length line → (r : Ran (start 0 line out) after) → r.output ++ finish_text r.last ≡ output_of r.input
ran_prints {line} {out} h r = prints line out h (turns_run r.turns [] ended) ∙ ap output_of (append-nil r.input)

-- ---- two results that one contract allows are equal

pub fill_one : {w : Work} (m n : Marks) (line line₁ out out₁ : List ℕ) → work m line out ≡ w → work n line₁ out₁ ≡ w → (m ≡ n) × (line ≡ line₁) × (out ≡ out₁)
fill_one m n line line₁ out out₁ e f =
    let z : work m line out ≡ work n line₁ out₁ = e ∙ sym f in
    (ap (λ (w : Work). w.marked) z, ap (λ (w : Work). w.line) z, ap (λ (w : Work). w.out) z)

pub finish_one : {before text : List ℕ} {at : ℕ} (m n : ℕ) (out out₁ : List ℕ) → Laid before at text m out → Laid before at text n out₁ → (m ≡ n) × (out ≡ out₁)
finish_one m n out out₁ p q = (p.ends ∙ sym q.ends, p.stands ∙ sym q.stands)
