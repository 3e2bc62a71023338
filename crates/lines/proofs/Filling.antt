-- One byte more, and a block of them: what the functions' returns need.
-- Assumes nothing.
use mathlib.Core.Path.{◌≡◌, refl, sym, ◌∙◌}
use mathlib.Core.Bool.{Bool, true, false, cond}
use mathlib.Core.List.{List, [], ◌∷◌, ◌++◌, append-nil}
use Prim.Native.Nat.{ℕ, zero, suc, ◌+◌, ◌≤◌, ◌<◌}
use native.Mathlib.Omega.{arith}
use native.Mathlib.Numerals.{add-one}
use lib.Dec.{ltb, leb, eqb}
use lib.ListN.{length, take, drop, set, get_or, length-append, length-set, drop_of_length-le}
use lib.Seq.{drop-cons, length-sets}
use borrow.Author.Tests.{ltb-true, leb-true, eq-eqb, ne_eqb, lt-ltb, le-ltb, le-leb, lt-leb}
use Rattle.grid.specs.declared.Cell.{Cell}
use Rattle.grid.specs.Answers.{Answer, accepted, refused}
use Rattle.grid.specs.Plane.{cell_of}
use Rattle.lines.specs.declared.Marks.{Marks}
use Rattle.lines.specs.Text.{FEED, number_text, corner_text, two_text, answer_text}
use Rattle.lines.specs.Lines.{line_text, last_line, lines_text}
use Rattle.lines.specs.Filling.{KEPT, ROOM, marks, Work, work, start, line_in, answered, longer, passed, on_byte, fill}
use Rattle.lines.specs.inner.Buffers.{Laid, MarksWithin, Lent}
use Rattle.lines.proofs.Laying.{laid_length, number_length, corner_length}

-- ---- the room that an answer takes

two_length : (a b : ℕ) → length (two_text a b) ≤ 42
two_length a b = rw length-append (omega (arith, number_length a 32, number_length b 10))

pub answer_length : (a : Answer Cell) → length (answer_text a) ≤ ROOM
unfolding answer_text
answer_length (accepted c) =
    let corner = corner_text c.west c.south in
    let size = two_text c.width c.height in
    omega (
      arith,
      length-append (number_text c.level 32) (corner ++ size),
      length-append corner size,
      number_length c.level 32,
      corner_length c.west c.south,
      two_length c.width c.height,
    )
answer_length (refused r) = omega (arith, two_length r.number r.place)

-- ---- one byte

module _ (b : ℕ) (m : Marks) (line out : List ℕ) where
  pub on_feed : {next : ℕ} {after : List ℕ} → b ≡ FEED → Laid out m.at (line_text (take m.held line)) next after
      → work (marks (m.next + 1) 0 next) line after ≡ on_byte b (work m line out)
  unfolding on_byte
  on_feed e p = rw (eq-eqb b FEED e, p.ends, p.stands)

  pub on_kept : (b ≡ FEED → ⊥) → m.held < KEPT → work (marks (m.next + 1) (m.held + 1) m.at) (set line m.held b) out ≡ on_byte b (work m line out)
  unfolding on_byte
  on_kept e h = rw (ne_eqb b FEED e, lt-ltb m.held KEPT h)

  pub on_past : (b ≡ FEED → ⊥) → KEPT ≤ m.held → work (marks (m.next + 1) m.held m.at) line out ≡ on_byte b (work m line out)
  unfolding on_byte
  on_past e h = rw (ne_eqb b FEED e, le-ltb m.held KEPT h)

-- a byte leaves the buffers as long as they were and ready for the next
pub record Stays (w v : Work) : Type 0 where
  pub ready : MarksWithin v.marked v.line v.out
  pub same_line : length v.line ≡ length w.line
  pub same_out : length v.out ≡ length w.out
  pub one_on : v.marked.next ≡ w.marked.next + 1

pub stays : (b : ℕ) (w : Work) → MarksWithin w.marked w.line w.out → w.marked.at + ROOM ≤ length w.out → Stays w (on_byte b w)
unfolding on_byte
stays b w r h = byte (eqb b FEED)
  where
    keeps : (q : Bool) → ltb w.marked.held KEPT ≡ q → Stays w (cond q (longer b w) (passed w))
    keeps true e =
        let l = length-set w.line w.marked.held b in
        record {
          ready = record { few = omega (arith, ltb-true w.marked.held KEPT e); long = omega (arith, r.long); inside = r.inside };
          same_line = l;
          same_out = refl;
          one_on = refl;
        }
    keeps false e = record { ready = record { few = r.few; long = r.long; inside = r.inside }; same_line = refl; same_out = refl; one_on = refl }

    byte : (q : Bool) → Stays w (cond q (answered w) (cond (ltb w.marked.held KEPT) (longer b w) (passed w)))
    byte true =
        let t = line_text (line_in w) in
        let l = length-sets w.out w.marked.at t in
        record {
          ready = record { few = omega arith; long = r.long; inside = omega (arith, answer_length (cell_of (line_in w))) };
          same_line = refl;
          same_out = l;
          one_on = refl;
        }
    byte false = keeps (ltb w.marked.held KEPT) refl

-- ---- a block

pub fill_more : (b : ℕ) (more : List ℕ) (w : Work) → w.marked.at + ROOM ≤ length w.out → fill w (b ∷ more) ≡ fill (on_byte b w) more
unfolding fill
fill_more b more w h = rw (le-leb (w.marked.at + ROOM) (length w.out) h)

module _ (block : List ℕ) (m : Marks) (line out : List ℕ) where
  pub fill_end : length block ≤ m.next → fill (work m line out) (drop m.next block) ≡ work m line out
  unfolding fill
  fill_end h = rw (drop_of_length-le block h)

  pub fill_full : m.next < length block → length out < m.at + ROOM → fill (work m line out) (drop m.next block) ≡ work m line out
  unfolding fill
  fill_full h r = rw (drop-cons block m.next 0 h, lt-leb (m.at + ROOM) (length out) r)

  pub fill_byte : m.next < length block → m.at + ROOM ≤ length out
      → fill (work m line out) (drop m.next block) ≡ fill (on_byte (get_or block m.next 0) (work m line out)) (drop (m.next + 1) block)
  fill_byte h r = rw (drop-cons block m.next 0 h, fill_more (get_or block m.next 0) (drop (suc m.next) block) (work m line out) r, add-one m.next)

-- how a block of n bytes leaves the work
pub record Filled (w : Work) (n : ℕ) (v : Work) : Type 0 where
  pub ready : MarksWithin v.marked v.line v.out
  pub same_line : length v.line ≡ length w.line
  pub same_out : length v.out ≡ length w.out
  pub forth : w.marked.next ≤ v.marked.next
  pub not_past : v.marked.next ≤ w.marked.next + n

pub filled : (w : Work) (bs : List ℕ) → MarksWithin w.marked w.line w.out → Filled w (length bs) (fill w bs)
unfolding fill
filled w [] r = record { ready = r; same_line = refl; same_out = refl; forth = omega arith; not_past = omega arith }
filled w (b ∷ bs) r = by (leb (w.marked.at + ROOM) (length w.out)) refl (λ k. filled (on_byte b w) bs k)
  where
    by : (q : Bool) → leb (w.marked.at + ROOM) (length w.out) ≡ q
        → (MarksWithin (on_byte b w).marked (on_byte b w).line (on_byte b w).out → Filled (on_byte b w) (length bs) (fill (on_byte b w) bs))
        → Filled w (suc (length bs)) (cond q (fill (on_byte b w) bs) w)
    by true e f =
        let s = stays b w r (leb-true _ _ e) in
        let g = f s.ready in
        record {
          ready = g.ready;
          same_line = g.same_line ∙ s.same_line;
          same_out = g.same_out ∙ s.same_out;
          forth = omega (arith, g.forth, s.one_on);
          not_past = omega (arith, g.not_past, s.one_on);
        }
    by false e f = record { ready = r; same_line = refl; same_out = refl; forth = omega arith; not_past = omega arith }

-- where a block has come to: i bytes are used up, and what is left gives what the whole of it was to give
pub record Going (block : List ℕ) (held : ℕ) (line₀ out₀ : List ℕ) (i : ℕ) (m : Marks) (line out : List ℕ) : Type 0 where
  pub used : m.next ≡ i
  pub ready : MarksWithin m line out
  pub rest : fill (work m line out) (drop m.next block) ≡ fill (start held line₀ out₀) block

pub ready_lent : {held : ℕ} {line out : List ℕ} → Lent held line out → MarksWithin (marks 0 held 0) line out
ready_lent l = record { few = l.few; long = l.long; inside = omega arith }

pub goes_on : {block : List ℕ} {held i : ℕ} {m n : Marks} {line₀ out₀ line out line₁ out₁ : List ℕ} → Going block held line₀ out₀ i m line out
    → i < length block → m.at + ROOM ≤ length out → work n line₁ out₁ ≡ on_byte (get_or block i 0) (work m line out)
    → Going block held line₀ out₀ (i + 1) n line₁ out₁
goes_on {block} {i = i} {m} {n} {line = line} {out} {line₁} {out₁} g h r e =
    let e' : work n line₁ out₁ ≡ on_byte (get_or block m.next 0) (work m line out) = rw (← g.used) at e in
    let s : Stays (work m line out) (work n line₁ out₁) = rw e' (stays (get_or block m.next 0) (work m line out) g.ready r) in
    record { used = omega (arith, s.one_on, g.used); ready = s.ready; rest = rw (e', s.one_on) (sym (fill_byte block m line out (omega (arith, g.used)) r)) ∙ g.rest }

-- how a call of `fill` leaves the buffers that it was lent
pub lent_filled : (block : List ℕ) {held : ℕ} {line out : List ℕ} → Lent held line out
    → {n : Marks} {line₁ out₁ : List ℕ} → work n line₁ out₁ ≡ fill (start held line out) block → Filled (start held line out) (length block) (work n line₁ out₁)
lent_filled block {held} {line} {out} l e = rw e (filled (start held line out) block (ready_lent l))

-- it uses up at least one byte of a block
pub uses_some : (block : List ℕ) {held : ℕ} {line out : List ℕ} → Lent held line out → 0 < length block
    → {n : Marks} {line₁ out₁ : List ℕ} → work n line₁ out₁ ≡ fill (start held line out) block → 0 < n.next
uses_some [] l h e = absurd (omega arith)
uses_some (b ∷ more) {held} {line} {out} l h {n} {line₁} {out₁} e =
    let w = start held line out in
    let k : 0 + ROOM ≤ length out = omega (arith, l.room) in
    let s = stays b w (ready_lent l) k in
    let f : Filled (on_byte b w) (length more) (work n line₁ out₁) = rw (e, fill_more b more w k) (filled (on_byte b w) more s.ready) in
    omega (arith, f.forth, s.one_on)

-- ---- the input's end

pub no_last : (line out : List ℕ) {held : ℕ} → held ≡ 0 → Laid out 0 (lines_text (last_line (take held line))) 0 out
unfolding lines_text
no_last line out e = rw e (record { ends = refl; stands = refl })

pub last_text : (line : List ℕ) (held : ℕ) → (held ≡ 0 → ⊥) → held ≤ length line → line_text (take held line) ≡ lines_text (last_line (take held line))
unfolding lines_text
last_text line zero n h = absurd (n refl)
last_text [] (suc k) n h = absurd (omega arith)
last_text (b ∷ w) (suc k) n h = sym (append-nil (line_text (b ∷ take k w)))

last_length : (w : List ℕ) → length (lines_text (last_line w)) ≤ ROOM
unfolding lines_text
last_length [] = omega arith
last_length (b ∷ w) = rw append-nil (answer_length (cell_of (b ∷ w)))

-- the last answer lies within the output
pub last_inside : {line out after : List ℕ} {held next : ℕ} → Lent held line out → Laid out 0 (lines_text (last_line (take held line))) next after → next ≤ length after
last_inside {line} {held = held} l p = rw (laid_length p) (omega (arith, p.ends, l.room, last_length (take held line)))
