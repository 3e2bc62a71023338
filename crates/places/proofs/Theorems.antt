-- What is asked of the place book: a list and its bytes belong together one to one, a book is badly formed exactly when no list has its bytes,
-- and a name leads exactly to the entry that has it.
-- Assumes nothing.
use mathlib.Core.Path.{◌≡◌, refl, sym, ◌∙◌, ap, subst}
use mathlib.Core.Bool.{Bool, true, false, ◌&&◌}
use mathlib.Core.List.{List, [], ◌∷◌, ◌++◌}
use mathlib.Core.Option.{Option, some, none}
use mathlib.Core.Logic.{◌↔◌, ◌⊎◌, inl, inr, ⊎_elim}
use Prim.Native.Nat.{ℕ, ◌+◌, ◌*◌, ◌/◌, ◌%◌}
use native.Mathlib.Omega.{arith}
use lib.Dec.{leb}
use lib.ListN.{length, get_or, take, drop}
use lib.Seq.{take_at, drop_at}
use Rattle.grid.specs.Answers.{Answer, accepted, refused, refusal}
use Rattle.grid.proofs.Cut.{clash, and_true, and_make}
use Rattle.places.specs.Book.{Entry, contents, bodies, first_body, book_of, unhyphened, is_entry, all_entries, Good, BookWith, WellFormed}
use Rattle.places.specs.Reading.{entries_of, Bytes}
use Rattle.places.specs.Finding.{found_among, found_in, part_at, part_in}
use Rattle.places.specs.Meaning.{Named, WhyFound, badly_formed, not_in_book, in_book}
use Rattle.places.specs.declared.Spot.{Spot}
use Rattle.places.proofs.Entries.{entries_sound, entries_complete, length_contents, made}
use Rattle.places.proofs.Finding.{found_or_not, found_named, found_none, found_at, part_bytes}

-- ---- 1: lists and books

-- a well-formed book has exactly one list
pub one_list : (s : List ℕ) (es fs : List Entry) → BookWith s es → BookWith s fs → es ≡ fs
one_list s es fs h k = let a = entries_complete s es h in let b = entries_complete s fs k in cc

-- a list has exactly one book
pub one_book : (s t : List ℕ) (es : List Entry) → BookWith s es → BookWith t es → s ≡ t
one_book s t es h k = sym h.same ∙ k.same

-- lists of one length with the same contents and the same bodies are the same
same_entries : (at : ℕ) (es fs : List Entry) → contents at es ≡ contents at fs → bodies es ≡ bodies fs → es ≡ fs
same_entries at [] [] c b = refl
same_entries at [] (f ∷ fs) c b = clash (let z = ap length c in omega (arith, z))
same_entries at (e ∷ es) [] c b = clash (let z = ap length c in omega (arith, z))
same_entries at (e ∷ es) (f ∷ fs) c b =
    let n : length e.name ≡ length f.name = ap (λ (w : List ℕ). get_or w 2 0) c in
    let m : length e.code ≡ length f.code = ap (λ (w : List ℕ). get_or w 3 0) c in
    let name : e.name ≡ f.name = sym (take_at e.name _ (length e.name) refl) ∙ ap (take (length e.name)) b ∙ take_at f.name _ (length e.name) (sym n) in
    let rest : e.code ++ bodies es ≡ f.code ++ bodies fs = sym (drop_at e.name _ (length e.name) refl) ∙ ap (drop (length e.name)) b ∙ drop_at f.name _ (length e.name) (sym n) in
    let code : e.code ≡ f.code = sym (take_at e.code _ (length e.code) refl) ∙ ap (take (length e.code)) rest ∙ take_at f.code _ (length e.code) (sym m) in
    let others : bodies es ≡ bodies fs = sym (drop_at e.code _ (length e.code) refl) ∙ ap (drop (length e.code)) rest ∙ drop_at f.code _ (length e.code) (sym m) in
    let next : contents (at + length e.name + length e.code) es ≡ contents (at + length e.name + length e.code) fs =
    ap (drop 4) c ∙ rw (n, m) refl in
    let tail : es ≡ fs = same_entries (at + length e.name + length e.code) es fs next others in
    λ j. record { name = name j; code = code j } ∷ tail j

-- different lists have different bytes, good or not
pub one_list_each : (es fs : List Entry) → book_of es ≡ book_of fs → es ≡ fs
unfolding book_of
one_list_each es fs e =
    let high : length es / 256 ≡ length fs / 256 = ap (λ (w : List ℕ). get_or w 0 0) e in
    let low : length es % 256 ≡ length fs % 256 = ap (λ (w : List ℕ). get_or w 1 0) e in
    let n : length es ≡ length fs = omega (arith, high, low) in
    let at = first_body (length es) in
    let rest : contents at es ++ bodies es ≡ contents at fs ++ bodies fs = ap (drop 2) e ∙ rw n refl in
    let k : length (contents at fs) ≡ length (contents at es) = length_contents at fs ∙ ap (λ (x : ℕ). 4 * x) (sym n) ∙ sym (length_contents at es) in
    let top : contents at es ≡ contents at fs = sym (take_at (contents at es) _ (length (contents at es)) refl) ∙ ap (take (length (contents at es))) rest ∙ take_at (contents at fs) _ _ k in
    let below : bodies es ≡ bodies fs = sym (drop_at (contents at es) _ (length (contents at es)) refl) ∙ ap (drop (length (contents at es))) rest ∙ drop_at (contents at fs) _ _ k in
    same_entries at es fs top below

-- a list's book is well formed exactly when the list is good
pub good_exactly_when : (es : List Entry) → WellFormed (book_of es) ↔ Good es
good_exactly_when es = (
  λ w. subst Good (one_list_each w.0 es w.1.same) w.1.good,
  λ g. (es, record { good = g; same = refl }),
)

-- ---- 2: the check decides it

-- these entries are read from a book exactly when they are its
pub entries_exactly_when : (s : List ℕ) → Bytes s → (es : List Entry) → (entries_of s ≡ some es) ↔ BookWith s es
entries_exactly_when s bytes es = (entries_sound s bytes es, entries_complete s es)

-- ---- 3: each answer to a name exactly when its reason holds

module _ (asked s : List ℕ) (bytes : Bytes s) where
  no_list : entries_of s ≡ none → WellFormed s → ⊥
  no_list e w = clash (let z = sym e ∙ entries_complete s w.0 w.1 in cc)

  -- a book is well formed or not
  well_formed_or_not : WellFormed s ⊎ (entries_of s ≡ none)
  well_formed_or_not = go (entries_of s) refl
    where
      go : (o : Option (List Entry)) → entries_of s ≡ o → WellFormed s ⊎ (entries_of s ≡ none)
      go none e = inr e
      go (some es) e = inl (es, entries_sound s bytes es e)

  found_21 : entries_of s ≡ none → found_in asked s ≡ refused (refusal 21 0)
  unfolding found_in
  found_21 e = rw e

  found_in_law : (es : List Entry) → BookWith s es → found_in asked s ≡ found_among asked es
  unfolding found_in
  found_in_law es h = rw (entries_complete s es h)

  because : {a : Answer Spot} → found_in asked s ≡ a → WhyFound asked s a → WhyFound asked s (found_in asked s)
  because e y = subst (WhyFound asked s) (sym e) y

  named_found : (p : Spot) → found_in asked s ≡ accepted p → WhyFound asked s (found_in asked s)
  named_found p e = let f = found_at asked s bytes p e in because (found_named f.is) (in_book f.is)

  why : WhyFound asked s (found_in asked s)
  why = ⊎_elim formed (λ e. because (found_21 e) (badly_formed (no_list e))) well_formed_or_not
    where
      formed : WellFormed s → WhyFound asked s (found_in asked s)
      formed w =
          let f = found_in_law w.0 w.1 in
          ⊎_elim (λ x. named_found x.0 (f ∙ x.1))
          (λ e. because (f ∙ e) (not_in_book w (λ x. clash (let z = sym (found_named x) ∙ f ∙ e in cc)))) (found_or_not asked w.0)

  reason : (a : Answer Spot) → WhyFound asked s a → found_in asked s ≡ a
  reason a (badly_formed n) = ⊎_elim (λ w. absurd (n w)) found_21 well_formed_or_not
  reason a (not_in_book w n) = found_none asked s w.0 w.1 n
  reason a (in_book x) = found_named x

  pub found_exactly_when : (a : Answer Spot) → (found_in asked s ≡ a) ↔ WhyFound asked s a
  found_exactly_when a = (λ e. subst (WhyFound asked s) e why, reason a)

-- ---- 4: the part is the name and the code; it is empty where there are none

pub part_named : {asked s : List ℕ} (x : Named asked s) → part_in asked s ≡ x.entry.name ++ x.entry.code
unfolding part_in
part_named x = rw (found_named x) (part_bytes x)

pub part_empty : (asked s : List ℕ) → Bytes s → (Named asked s → ⊥) → part_in asked s ≡ []
unfolding part_in
part_empty asked s bytes n = go (found_in asked s) refl
  where
    go : (a : Answer Spot) → found_in asked s ≡ a → part_at s a ≡ []
    go (accepted p) e = absurd (n (found_at asked s bytes p e).is)
    go (refused r) e = refl

-- ---- 5: an empty name, one of more than 64 bytes and one with a hyphen are in no book

all_of : (fs : List Entry) (e : Entry) (bs : List Entry) → all_entries (fs ++ (e ∷ bs)) ≡ true → is_entry e ≡ true
all_of [] e bs a = (and_true (is_entry e) (all_entries bs) a).0
all_of (d ∷ fs) e bs a = all_of fs e bs (and_true (is_entry d) (all_entries (fs ++ (e ∷ bs))) a).1

-- a name that a book may have
abbrev fit_name : List ℕ → Bool
fit_name w = leb 1 (length w) && (leb (length w) 64 && unhyphened w)

named_fit : {asked s : List ℕ} → Named asked s → fit_name asked ≡ true
unfolding is_entry
named_fit x =
    let a = and_true (leb 1 (length x.entry.name)) _ (all_of x.before x.entry x.behind x.book.good.fit_each) in
    let b = and_true (leb (length x.entry.name) 64) _ a.1 in
    let c = and_true (unhyphened x.entry.name) _ b.1 in
    subst (λ (w : List ℕ). fit_name w ≡ true) x.named (and_make _ _ a.0 (and_make _ _ b.0 c.0))

pub odd_name : (asked s : List ℕ) → WellFormed s → (leb 1 (length asked) && (leb (length asked) 64 && unhyphened asked)) ≡ false
    → found_in asked s ≡ refused (refusal 22 0)
odd_name asked s w odd = found_none asked s w.0 w.1 (λ x. clash (let z = sym (named_fit x) ∙ odd in cc))

-- ---- 6: how long a book is: 2, and for each entry 4 and both lengths

pub book_length : (es : List Entry) → length (book_of es) ≡ first_body (length es) + length (bodies es)
book_length es = (made es).long
