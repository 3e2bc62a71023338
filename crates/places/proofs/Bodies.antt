-- The entries that are read from a book are those that it was made of, and no others.
-- Assumes nothing.
use mathlib.Core.Path.{◌≡◌, refl, sym, ◌∙◌, ap, subst}
use mathlib.Core.Bool.{Bool, true, false, cond}
use mathlib.Core.List.{List, [], ◌∷◌, ◌++◌}
use mathlib.Core.Option.{Option, some, none}
use Prim.Native.Nat.{ℕ, zero, suc, ◌+◌, ◌*◌, ◌/◌, ◌%◌, ◌≤◌, ◌<◌}
use native.Mathlib.Numerals.{add-one}
use native.Mathlib.Omega.{arith}
use lib.Dec.{eqb}
use lib.ListN.{length, get_or, take, drop, length-drop, length-append, take-append-drop, drop_of_length-le}
use lib.Seq.{drop-cons, drop-drop, get_or-drop, take-append_seam, drop-append_seam}
use borrow.Author.Tests.{le-leb, eq-eqb, eqb-true}
use Rattle.grid.proofs.Cut.{and_true, and_make}
use Rattle.places.specs.Book.{Entry, contents, bodies}
use Rattle.places.specs.Reading.{word_at, entry_at, next_body, fair, fair_at, entry_then, entries_from, Bytes}
use Rattle.places.proofs.Rising.{rises_from}
use Rattle.places.proofs.Walking.{Fair, fair_known, part_length}

pub drop_next : (s : List ℕ) (i j : ℕ) → j ≡ i + 1 → i < length s → drop i s ≡ get_or s i 0 ∷ drop j s
drop_next s i j e h = rw (e, add-one i) (drop-cons s i 0 h)

pub four : (s : List ℕ) (i : ℕ) → i + 4 ≤ length s → drop i s ≡ get_or s i 0 ∷ get_or s (i + 1) 0 ∷ get_or s (i + 2) 0 ∷ get_or s (i + 3) 0 ∷ drop (i + 4) s
four s i h =
    rw (
      drop_next s i (i + 1) refl (omega arith),
      drop_next s (i + 1) (i + 2) (omega arith) (omega arith),
      drop_next s (i + 2) (i + 3) (omega arith) (omega arith),
      drop_next s (i + 3) (i + 4) (omega arith) (omega arith),
    )

pub body : (s : List ℕ) (at n m : ℕ) → drop at s ≡ take n (drop at s) ++ (take m (drop (at + n) s) ++ drop (at + n + m) s)
body s at n m =
    sym (
    ap (λ x. take n (drop at s) ++ (take m (drop (at + n) s) ++ x)) (sym (drop-drop m (at + n) s))
    ∙ ap (λ x. take n (drop at s) ++ x) (take-append-drop m (drop (at + n) s) ∙ sym (drop-drop n at s))
    ∙ take-append-drop n (drop at s)
    )

-- ---- what is read is what the book was made of

pub record Walked (s : List ℕ) (k i at : ℕ) (last : List ℕ) (es : List Entry) : Type 0 where
  pub count : length es ≡ k
  pub rises : rises_from last es ≡ true
  pub top : drop i s ≡ contents at es ++ drop (i + 4 * k) s
  pub below : drop at s ≡ bodies es

pub nothing : {es : List Entry} → none ≡ some es → ⊥
nothing e = let z : ◌≡◌ {A = ℕ} 0 1 = cc in omega arith

module _ (s : List ℕ) (bytes : Bytes s) where
  ended : (i at : ℕ) (last : List ℕ) → at ≡ length s → Walked s zero i at last []
  ended i at last e =
      record {
        count = refl;
        rises = refl;
        top = (let u : i ≡ i + 4 * zero = omega arith in ap (λ n. drop n s) u);
        below = drop_of_length-le s {i = at} (omega arith);
      }

  added : (k i at : ℕ) (last : List ℕ) (es : List Entry) → i + 4 * suc k ≤ length s → Fair s i at last
      → Walked s k (i + 4) (next_body s i at) (entry_at s i at).name es → Walked s (suc k) i at last (entry_at s i at ∷ es)
  added k i at last es room f w =
      let n = part_length s at (get_or s (i + 2) 0) (omega (arith, f.inside)) in
      let m = part_length s (at + get_or s (i + 2) 0) (get_or s (i + 3) 0) (omega (arith, f.inside)) in
      let high : get_or s i 0 ≡ at / 256 = omega (arith, f.here, bytes (i + 1)) in
      let low : get_or s (i + 1) 0 ≡ at % 256 = omega (arith, f.here, bytes (i + 1)) in
      let to : i + 4 * suc k ≡ i + 4 + 4 * k = omega arith in
      record {
        count = ap suc w.count;
        rises = and_make _ _ f.entry w.rises;
        top = rw (four s i (omega arith), high, low, n, m, to, w.top);
        below = body s at (get_or s (i + 2) 0) (get_or s (i + 3) 0) ∙ rw w.below;
      }

  pub walk_sound : (k i at : ℕ) (last : List ℕ) (es : List Entry) → i + 4 * k ≤ length s → entries_from s k i at last ≡ some es → Walked s k i at last es
  unfolding entries_from
  walk_sound zero i at last es room e = go (eqb at (length s)) refl e
    where
      go : (q : Bool) → eqb at (length s) ≡ q → cond q (some []) none ≡ some es → Walked s zero i at last es
      go true t u = let v : [] ≡ es = cc in subst (Walked s zero i at last) v (ended i at last (eqb-true _ _ t))
      go false t u = absurd (nothing u)
  walk_sound (suc k) i at last es room e = go (λ fs w. walk_sound k (i + 4) (next_body s i at) (entry_at s i at).name fs (omega arith) w) (fair_at s i at last) refl e
    where
      Then : Type 0
      Then = (fs : List Entry) → entries_from s k (i + 4) (next_body s i at) (entry_at s i at).name ≡ some fs → Walked s k (i + 4) (next_body s i at) (entry_at s i at).name fs

      on : Then → Fair s i at last → (o : Option (List Entry)) → entries_from s k (i + 4) (next_body s i at) (entry_at s i at).name ≡ o
          → entry_then (entry_at s i at) o ≡ some es → Walked s (suc k) i at last es
      on then f none w u = absurd (nothing u)
      on then f (some fs) w u =
          let v : entry_at s i at ∷ fs ≡ es = cc in
          subst (Walked s (suc k) i at last) v (added k i at last fs room f (then fs w))

      go : Then → (q : Bool) → fair_at s i at last ≡ q
          → cond q (entry_then (entry_at s i at) (entries_from s k (i + 4) (next_body s i at) (entry_at s i at).name)) none ≡ some es → Walked s (suc k) i at last es
      go then true t u = on then (fair_known s i at last t) _ refl u
      go then false t u = absurd (nothing u)

-- ---- what the book was made of is read

module _ (s : List ℕ) (i at : ℕ) (last : List ℕ) (e : Entry) (es : List Entry) (rest : List ℕ) where
  -- the next entry of a book is read as it stands
  pub record Next : Type 0 where
    pub high : get_or s i 0 ≡ at / 256
    pub low : get_or s (i + 1) 0 ≡ at % 256
    pub names : get_or s (i + 2) 0 ≡ length e.name
    pub codes : get_or s (i + 3) 0 ≡ length e.code
    pub name_is : take (length e.name) (drop at s) ≡ e.name
    pub code_is : take (length e.code) (drop (at + length e.name) s) ≡ e.code
    pub top : drop (i + 4) s ≡ contents (at + length e.name + length e.code) es ++ rest
    pub below : drop (at + length e.name + length e.code) s ≡ bodies es
    pub inside : at + length e.name + length e.code ≤ length s

  nth : (j : ℕ) {x : ℕ} {l : List ℕ} → drop i s ≡ l → get_or l j 0 ≡ x → get_or s (i + j) 0 ≡ x
  nth j e f = sym (get_or-drop i s j 0) ∙ ap (λ l. get_or l j 0) e ∙ f

  pub next : drop i s ≡ contents at (e ∷ es) ++ rest → drop at s ≡ bodies (e ∷ es) → at ≤ length s → Next
  next t b h =
      let n = length e.name in
      let m = length e.code in
      let z : i ≡ i + 0 = omega arith in
      let high : get_or s i 0 ≡ at / 256 = ap (λ x. get_or s x 0) z ∙ nth 0 t refl in
      let names : get_or s (i + 2) 0 ≡ n = nth 2 t refl in
      let codes : get_or s (i + 3) 0 ≡ m = nth 3 t refl in
      let mid : drop (at + n) s ≡ e.code ++ bodies es = sym (drop-drop n at s) ∙ ap (drop n) b ∙ drop-append_seam e.name (e.code ++ bodies es) in
      let end : drop (at + n + m) s ≡ bodies es = sym (drop-drop m (at + n) s) ∙ ap (drop m) mid ∙ drop-append_seam e.code (bodies es) in
      record {
        high = high;
        low = nth 1 t refl;
        names = names;
        codes = codes;
        name_is = ap (take n) b ∙ take-append_seam e.name (e.code ++ bodies es);
        code_is = ap (take m) mid ∙ take-append_seam e.code (bodies es);
        top = sym (drop-drop 4 i s) ∙ ap (drop 4) t;
        below = end;
        inside = omega (arith, length-drop at s, ap length b, length-append e.name (e.code ++ bodies es), length-append e.code (bodies es));
      }

fair_is : (s : List ℕ) (i at : ℕ) (last : List ℕ) (e : Entry) (es : List Entry) (rest : List ℕ) → Next s i at last e es rest → fair last e.name e.code ≡ true
    → fair_at s i at last ≡ true
unfolding fair_at
fair_is s i at last e es rest x f =
    and_make _ _ (eq-eqb (word_at s i) at (omega arith))
    (and_make _ _ (le-leb (next_body s i at) (length s) (omega arith)) (rw (x.names, x.codes, x.name_is, x.code_is) f))

pub walk_complete : (s : List ℕ) (es : List Entry) (i at : ℕ) (last rest : List ℕ) → rises_from last es ≡ true → drop i s ≡ contents at es ++ rest
    → drop at s ≡ bodies es → at ≤ length s → entries_from s (length es) i at last ≡ some es
unfolding entries_from
walk_complete s [] i at last rest r t b h = rw (eq-eqb at (length s) (omega (arith, length-drop at s, ap length b)))
walk_complete s (e ∷ es) i at last rest r t b h =
    let x = next s i at last e es rest t b h in
    let a = and_true _ _ r in
    let w = walk_complete s es (i + 4) (at + length e.name + length e.code) e.name rest a.1 x.top x.below x.inside in
    let f : fair_at s i at last ≡ true = fair_is s i at last e es rest x a.0 in
    rw (f, x.names, x.codes, x.name_is, x.code_is, w) refl
