-- The walk over the entries: at each turn what is left gives what the whole was to give.
-- Assumes nothing.
use mathlib.Core.Path.{◌≡◌, refl, sym, ◌∙◌, ap}
use mathlib.Core.Bool.{Bool, true, false, cond}
use mathlib.Core.List.{List, []}
use mathlib.Core.Option as math
use mathlib.Core.Option.{some, none}
use Prim.Native.Nat.{ℕ, zero, suc, ◌+◌, ◌-◌, ◌*◌, ◌≤◌, ◌<◌}
use native.Mathlib.Omega.{arith}
use lib.Dec.{leb, eqb}
use lib.ListN.{length, get_or, take, drop, length-drop}
use lib.Seq.{length-take-le, drop-drop, get_or-drop}
use borrow.Author.Tests.{leb-true, eq-eqb, ne_eqb, eqb-true}
use Rattle.std.proofs.lemmas.List.{get_or-take}
use Rattle.std.specs.Option.{is_some}
use Rattle.std.specs.Prelude.{Result, Ok, Err}
use Rattle.std.specs.Simd.{first_chunks}
use Rattle.grid.proofs.Cut.{and_true}
use Rattle.places.specs.Book.{Entry, first_body, order, below, unhyphened}
use Rattle.places.specs.Reading.{word_at, entry_at, next_body, fair, fair_at, entry_then, entries_from}
use Rattle.places.specs.inner.Walk.{Contents, opened, closed, note, noted, looked_in}
use Rattle.places.specs.declared.Seen.{Seen}
use Rattle.places.specs.declared.NotFound.{NotFound}
use Rattle.places.specs.declared.NotFound.TheVariants.{BadlyFormed}

-- what is known of a fair entry
pub record Fair (s : List ℕ) (i at : ℕ) (last : List ℕ) : Type 0 where
  pub here : word_at s i ≡ at
  pub inside : next_body s i at ≤ length s
  pub entry : fair last (entry_at s i at).name (entry_at s i at).code ≡ true

pub fair_known : (s : List ℕ) (i at : ℕ) (last : List ℕ) → fair_at s i at last ≡ true → Fair s i at last
unfolding fair_at
fair_known s i at last e =
    let a = and_true _ _ e in
    let b = and_true _ _ a.1 in
    record { here = eqb-true _ _ a.0; inside = leb-true _ _ b.0; entry = b.1 }

-- its name has no hyphen
fair_clear : (last name code : List ℕ) → fair last name code ≡ true → unhyphened name ≡ true
unfolding fair
fair_clear last name code e = (and_true (unhyphened name) _ (and_true (leb (length name) 64) _ (and_true (below last name) _ e).1).1).0

-- a part inside has the length that is asked for
pub part_length : (s : List ℕ) (at n : ℕ) → at + n ≤ length s → length (take n (drop at s)) ≡ n
part_length s at n h = length-take-le n (drop at s) (simp length-drop (omega arith))

-- the contents of the entry i, as they stand in the book
chunk_at : (k i : ℕ) (xs : List ℕ) → i < k → get_or (first_chunks 4 k xs) i [] ≡ take 4 (drop (4 * i) xs)
chunk_at zero i xs h = absurd (omega arith)
chunk_at (suc k) zero xs h = refl
chunk_at (suc k) (suc i) xs h =
    let u : 4 * suc i ≡ 4 + 4 * i = omega arith in
    chunk_at k i (drop 4 xs) (omega arith) ∙ ap (take 4) (drop-drop (4 * i) 4 xs ∙ ap (λ n. drop n xs) (sym u))

module _ {s : List ℕ} {c : List (List ℕ)} (is : Contents s c) (i : ℕ) (h : i < length c) where
  byte_at : (j : ℕ) → j < 4 → get_or (get_or c i []) j 0 ≡ get_or s (2 + 4 * i + j) 0
  byte_at j k =
      ap (λ (w : List (List ℕ)). get_or (get_or w i []) j 0) is.are
      ∙ ap (λ (w : List ℕ). get_or w j 0) (chunk_at (length c) i (drop 2 s) h ∙ ap (take 4) (drop-drop (4 * i) 2 s))
      ∙ get_or-take 4 (drop (2 + 4 * i) s) j 0 k ∙ get_or-drop (2 + 4 * i) s j 0

  pub word_is : {w : ℕ} → w ≡ get_or (get_or c i []) 0 0 * 256 + get_or (get_or c i []) 1 0 → w ≡ word_at s (2 + 4 * i)
  word_is e =
      let z : 2 + 4 * i + 0 ≡ 2 + 4 * i = omega arith in
      let y = rw z at (byte_at 0 (omega arith)) in
      omega (arith, e, y, byte_at 1 (omega arith))

  pub name_is : {n : ℕ} → n ≡ get_or (get_or c i []) 2 0 → n ≡ get_or s (2 + 4 * i + 2) 0
  name_is e = e ∙ byte_at 2 (omega arith)

  pub code_is : {m : ℕ} → m ≡ get_or (get_or c i []) 3 0 → m ≡ get_or s (2 + 4 * i + 3) 0
  code_is e = e ∙ byte_at 3 (omega arith)

-- what is seen stays behind the walk
pub note_behind : (asked : List ℕ) (v : Seen) (name : List ℕ) (m at : ℕ) → v.start ≤ at → (note asked v name m).start ≤ at + length name + m
unfolding note
note_behind asked v name m at h = go (is_some v.met) (below name asked)
  where
    go : (p q : Bool)
        → (cond p v (cond q (opened (v.below + 1) (v.start + length name + m)) (closed v.below v.start (eqb (order name asked) 1) (length name) m))).start ≤ at + length name + m
    go true q = omega arith
    go false true = omega arith
    go false false = omega arith

pub note_few : (asked : List ℕ) (v : Seen) (name : List ℕ) (m : ℕ) → (note asked v name m).below ≤ v.below + 1
unfolding note
note_few asked v name m = go (is_some v.met) (below name asked)
  where
    go : (p q : Bool)
        → (cond p v (cond q (opened (v.below + 1) (v.start + length name + m)) (closed v.below v.start (eqb (order name asked) 1) (length name) m))).below ≤ v.below + 1
    go true q = omega arith
    go false true = omega arith
    go false false = omega arith

-- where the walk has come to
pub record Going (asked s : List ℕ) (whole : Result Seen NotFound) (left i here : ℕ) (last : List ℕ) (seen : Seen) : Type 0 where
  pub room : i + 4 * left ≤ length s
  pub inside : here ≤ length s
  pub behind : seen.start ≤ here
  pub clear : unhyphened last ≡ true
  pub few : seen.below + left ≤ 1000
  pub short : length s ≤ 65535
  pub rest : noted asked seen (entries_from s left i here last) ≡ whole

module _ (asked s : List ℕ) where
  walk_unfair : (left i here : ℕ) (last : List ℕ) (seen : Seen) → 0 < left → fair_at s i here last ≡ false
      → noted asked seen (entries_from s left i here last) ≡ Err BadlyFormed
  unfolding entries_from
  walk_unfair zero i here last seen h e = absurd (omega arith)
  walk_unfair (suc k) i here last seen h e = rw e

  walk_fair : (left i here : ℕ) (last : List ℕ) (seen : Seen) {n m : ℕ} {name : List ℕ} → 0 < left → fair_at s i here last ≡ true
      → n ≡ get_or s (i + 2) 0 → m ≡ get_or s (i + 3) 0 → name ≡ take n (drop here s)
      → noted asked seen (entries_from s left i here last) ≡ noted asked (note asked seen name m) (entries_from s (left - 1) (i + 4) (here + n + m) name)
  unfolding entries_from
  walk_fair zero i here last seen h e is-n is_m is_name = absurd (omega arith)
  walk_fair (suc k) i here last seen {n} {m} {name} h e is-n is_m is_name =
      rw (e, ← is-n, ← is_m, ← is_name, one) (go (entries_from s k (i + 4) (here + n + m) name))
    where
      one : suc k - 1 ≡ k
      one = omega arith

      f : Fair s i here last
      f = fair_known s i here last e

      code : length (take m (drop (here + n) s)) ≡ m
      code = part_length s (here + n) m (omega (arith, f.inside))

      go : (o : math.Option (List Entry)) → noted asked seen (entry_then (record { name = name; code = take m (drop (here + n) s) }) o)
          ≡ noted asked (note asked seen name m) o
      go none = refl
      go (some es) = rw code

  walk_ended : (left i here : ℕ) (last : List ℕ) (seen : Seen) → left ≤ 0 → here ≡ length s → noted asked seen (entries_from s left i here last) ≡ Ok seen
  unfolding entries_from
  walk_ended zero i here last seen h e = rw (eq-eqb here (length s) e)
  walk_ended (suc k) i here last seen h e = absurd (omega arith)

  walk_longer : (left i here : ℕ) (last : List ℕ) (seen : Seen) → left ≤ 0 → (here ≡ length s → ⊥) → noted asked seen (entries_from s left i here last) ≡ Err BadlyFormed
  unfolding entries_from
  walk_longer zero i here last seen h e = rw (ne_eqb here (length s) e)
  walk_longer (suc k) i here last seen h e = absurd (omega arith)

  pub begins : {c : List (List ℕ)} → Contents s c
      → Going asked s (looked_in asked s (length c)) (length c) 2 (first_body (length c)) [] (opened 0 (first_body (length c)))
  begins w = record { room = w.room; inside = w.room; behind = omega arith; clear = refl; few = omega (arith, w.few); short = w.short; rest = refl }

module _ {asked s : List ℕ} {whole : Result Seen NotFound} {left i here : ℕ} {last : List ℕ} {seen : Seen} (g : Going asked s whole left i here last seen) where
  pub stops : 0 < left → false ≡ fair_at s i here last → Err BadlyFormed ≡ whole
  stops h e = sym (walk_unfair asked s left i here last seen h (sym e)) ∙ g.rest

  pub goes : {n m : ℕ} → 0 < left → true ≡ fair_at s i here last → n ≡ get_or s (i + 2) 0 → m ≡ get_or s (i + 3) 0
      → {next : Seen} → next ≡ note asked seen (take (here + n - here) (drop here s)) m
      → Going asked s whole (left - 1) (i + 4) (here + n + m) (take (here + n - here) (drop here s)) next
  goes {n} {m} h e is-n is_m {next} is-next =
      let t = sym e in
      let k = fair_known s i here last t in
      let u : here + n - here ≡ n = omega arith in
      let name = take (here + n - here) (drop here s) in
      let l : length name ≡ n = ap (λ x. length (take x (drop here s))) u ∙ part_length s here n (omega (arith, k.inside)) in
      record {
        room = omega (arith, g.room);
        inside = omega (arith, k.inside);
        behind = rw is-next (omega (arith, note_behind asked seen name m here g.behind));
        clear = ap (λ x. unhyphened (take x (drop here s))) u ∙ ap (λ x. unhyphened (take x (drop here s))) is-n ∙ fair_clear last _ _ k.entry;
        few = rw is-next (omega (arith, g.few, note_few asked seen name m));
        short = g.short;
        rest = rw is-next (sym (walk_fair asked s left i here last seen h t is-n is_m (ap (λ x. take x (drop here s)) u)) ∙ g.rest);
      }

  pub ends : left ≤ 0 → here ≡ length s → Ok seen ≡ whole
  ends h e = sym (walk_ended asked s left i here last seen h e) ∙ g.rest

  pub overruns : left ≤ 0 → (here ≡ length s → ⊥) → Err BadlyFormed ≡ whole
  overruns h e = sym (walk_longer asked s left i here last seen h e) ∙ g.rest

-- the same place, said in other words
pub going_on : {asked s : List ℕ} {whole : Result Seen NotFound} {left i here : ℕ} {last : List ℕ} {seen : Seen} → Going asked s whole left i here last seen
    → {left' i' : ℕ} → left' ≡ left → i' ≡ i → Going asked s whole left' i' here last seen
going_on g a b = rw (a, b) g
