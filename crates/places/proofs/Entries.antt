-- A book is well formed exactly when entries are read from it, and then they are its only ones.
-- Assumes nothing.
use mathlib.Core.Path.{◌≡◌, refl, sym, ◌∙◌, ap, subst}
use mathlib.Core.Bool.{Bool, true, false, cond}
use mathlib.Core.List.{List, [], ◌∷◌, ◌++◌}
use mathlib.Core.Option.{some, none}
use Prim.Native.Nat.{ℕ, ◌+◌, ◌*◌, ◌/◌, ◌%◌, ◌≤◌}
use native.Mathlib.Omega.{arith}
use lib.ListN.{length, get_or, drop, length-append}
use lib.Seq.{drop_at, drop-drop}
use borrow.Author.Tests.{leb-true, le-leb}
use Rattle.grid.proofs.Cut.{and_true, and_make}
use Rattle.places.specs.Book.{Entry, contents, bodies, first_body, book_of, BookWith}
use Rattle.places.specs.Reading.{word_at, entries_from, sized, entries_of, Bytes}
use Rattle.places.proofs.Rising.{good_rises, rises_good}
use Rattle.places.proofs.Bodies.{drop_next, Walked, walk_sound, walk_complete, nothing}

pub record Sized (s : List ℕ) : Type 0 where
  pub head : 2 ≤ length s
  pub short : length s ≤ 65535
  pub few : word_at s 0 ≤ 1000
  pub room : first_body (word_at s 0) ≤ length s

pub sized_known : (s : List ℕ) → sized s ≡ true → Sized s
unfolding sized
sized_known s e =
    let a = and_true _ _ e in
    let b = and_true _ _ a.1 in
    let d = and_true _ _ b.1 in
    record { head = leb-true _ _ a.0; short = leb-true _ _ b.0; few = leb-true _ _ d.0; room = leb-true _ _ d.1 }

pub sized_is : (s : List ℕ) → Sized s → sized s ≡ true
unfolding sized
sized_is s z =
    and_make _ _ (le-leb 2 (length s) z.head)
    (and_make _ _ (le-leb (length s) 65535 z.short)
    (and_make _ _ (le-leb (word_at s 0) 1000 z.few) (le-leb (first_body (word_at s 0)) (length s) z.room)))

-- a book from which entries are read is theirs
book_is : (s : List ℕ) → Bytes s → Sized s → (es : List Entry) → Walked s (word_at s 0) 2 (first_body (word_at s 0)) [] es → book_of es ≡ s
unfolding book_of
book_is s bytes z es w =
    let n = w.count in
    let high : length es / 256 ≡ get_or s 0 0 = omega (arith, bytes 1) in
    let low : length es % 256 ≡ get_or s 1 0 = omega (arith, bytes 1) in
    sym (
    drop_next s 0 1 refl (omega (arith, z.head))
    ∙ ap (λ x. get_or s 0 0 ∷ x) (drop_next s 1 2 refl (omega (arith, z.head)))
    ∙ rw (w.top, w.below, high, low, n)
    )

pub entries_sound : (s : List ℕ) → Bytes s → (es : List Entry) → entries_of s ≡ some es → BookWith s es
unfolding entries_of
entries_sound s bytes es e = go (sized s) refl e
  where
    go : (q : Bool) → sized s ≡ q → cond q (entries_from s (word_at s 0) 2 (first_body (word_at s 0)) []) none ≡ some es → BookWith s es
    go false t u = absurd (nothing u)
    go true t u =
        let z = sized_known s t in
        let w = walk_sound s bytes (word_at s 0) 2 (first_body (word_at s 0)) [] es z.room u in
        let b = book_is s bytes z es w in
        record {
          good = rises_good es (omega (arith, w.count, z.few)) w.rises (omega (arith, ap length b, z.short));
          same = b;
        }

pub length_contents : (at : ℕ) (es : List Entry) → length (contents at es) ≡ 4 * length es
length_contents at [] = refl
length_contents at (e ∷ es) = omega (arith, length_contents (at + length e.name + length e.code) es)

-- what a list's book looks like to a reader
pub record Made (es : List Entry) (s : List ℕ) : Type 0 where
  pub count : word_at s 0 ≡ length es
  pub top : drop 2 s ≡ contents (first_body (length es)) es ++ bodies es
  pub below : drop (first_body (length es)) s ≡ bodies es
  pub long : length s ≡ 2 + 4 * length es + length (bodies es)

pub made : (es : List Entry) → Made es (book_of es)
unfolding book_of
made es =
    let c = length_contents (first_body (length es)) es in
    record {
      count = omega arith;
      top = refl;
      below = sym (drop-drop (4 * length es) 2 (book_of es)) ∙ drop_at (contents (first_body (length es)) es) (bodies es) (4 * length es) c;
      long = omega (arith, length-append (contents (first_body (length es)) es) (bodies es));
    }

pub made_of : {s : List ℕ} {es : List Entry} → BookWith s es → Made es s
made_of {es = es} h = subst (Made es) h.same (made es)

pub entries_complete : (s : List ℕ) (es : List Entry) → BookWith s es → entries_of s ≡ some es
unfolding entries_of
entries_complete s es h =
    let m = made_of h in
    let l : length s ≤ 65535 = omega (arith, ap length h.same, h.good.short) in
    let z : Sized s = record { head = omega (arith, m.long); short = l; few = omega (arith, m.count, h.good.few); room = omega (arith, m.count, m.long) } in
    rw (sized_is s z, m.count) (walk_complete s es 2 (first_body (length es)) [] (bodies es) (good_rises h.good) m.top m.below (omega (arith, m.long)))
