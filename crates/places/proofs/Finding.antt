-- A name leads to the one entry that has it: what the walk keeps is the answer, and the answer is where the entry stands.
-- Assumes nothing.
use mathlib.Core.Path.{◌≡◌, refl, sym, ◌∙◌, ap, subst}
use mathlib.Core.Bool.{Bool, true, false, cond}
use mathlib.Core.List.{List, [], ◌∷◌, ◌++◌, append_assoc}
use mathlib.Core.Option as math
use mathlib.Core.Option.{some, none}
use mathlib.Core.Logic.{◌⊎◌, inl, inr, ⊎_elim}
use Prim.Native.Nat.{ℕ, suc, ◌+◌, ◌-◌, ◌≤◌}
use native.Mathlib.Omega.{arith}
use lib.Dec.{eqb}
use lib.ListN.{length, take, drop, length-append}
use lib.Seq.{drop_at, take_at, drop-drop}
use borrow.Author.Tests.{ne_eqb, eqb-true}
use Rattle.std.specs.Prelude.{Ok, Err}
use Rattle.grid.specs.declared.Refusal.{Refusal}
use Rattle.grid.specs.Answers.{Answer, accepted, refused, refusal, and_then}
use Rattle.grid.proofs.Cut.{clash, and_true}
use Rattle.places.specs.Book.{Entry, bodies, first_body, order, below, BookWith}
use Rattle.places.specs.Reading.{word_at, fair, sized, entries_of, Bytes}
use Rattle.places.specs.Finding.{front, back, spot_at, found_here, found_among, well_formed, found_in, part_in, place_refusal}
use Rattle.places.specs.Meaning.{Named, spot_of}
use Rattle.places.specs.inner.Walk.{opened, closed, headed, note, notes, noted, looked_in, settled, looked_answer}
use Rattle.places.specs.declared.NotFound.{NotFound}
use Rattle.places.specs.declared.Spot.{Spot}
use Rattle.places.specs.declared.Seen.{Seen}
use Rattle.places.proofs.Ordering.{order_refl, order_same_is, order_trans}
use Rattle.places.proofs.Rising.{rises_from, good_rises}
use Rattle.places.proofs.Entries.{Made, made_of, entries_sound, entries_complete}

-- ---- the entries below a name, and the rest

pub front_back : (asked : List ℕ) (es : List Entry) → front asked es ++ back asked es ≡ es
front_back asked [] = refl
front_back asked (e ∷ es) = go (below e.name asked) (front_back asked es)
  where
    go : (q : Bool) → front asked es ++ back asked es ≡ es → cond q (e ∷ front asked es) [] ++ cond q (back asked es) (e ∷ es) ≡ e ∷ es
    go true u = ap (λ x. e ∷ x) u
    go false u = refl

-- every name of a rising list is above the name before it
pub rising_below : (last : List ℕ) (fs : List Entry) (e : Entry) (bs : List Entry) → rises_from last (fs ++ (e ∷ bs)) ≡ true → order last e.name ≡ 0
unfolding fair
rising_below last [] e bs r =
    eqb-true (order last e.name) 0 (and_true _ _ (and_true (fair last e.name e.code) (rises_from e.name bs) r).0).0
rising_below last (d ∷ fs) e bs r =
    let a = and_true (fair last d.name d.code) (rises_from d.name (fs ++ (e ∷ bs))) r in
    order_trans last d.name e.name (eqb-true (order last d.name) 0 (and_true _ _ a.0).0) (rising_below d.name fs e bs a.1)

-- so the entries below an entry's name are those before it
pub front_is : (last : List ℕ) (fs : List Entry) (e : Entry) (bs : List Entry) → rises_from last (fs ++ (e ∷ bs)) ≡ true
    → (front e.name (fs ++ (e ∷ bs)) ≡ fs) × (back e.name (fs ++ (e ∷ bs)) ≡ e ∷ bs)
front_is last [] e bs r = (rw (order_refl e.name), rw (order_refl e.name))
front_is last (d ∷ fs) e bs r =
    let a = (and_true (fair last d.name d.code) (rises_from d.name (fs ++ (e ∷ bs))) r).1 in
    let i = front_is d.name fs e bs a in
    let o = rising_below d.name fs e bs a in
    (rw (o, i.0), rw (o, i.1))

-- ---- what the walk keeps

notes_closed : (asked : List ℕ) (b at : ℕ) (q : Bool) (n m : ℕ) (es : List Entry) → notes asked (closed b at q n m) es ≡ closed b at q n m
unfolding note
notes_closed asked b at q n m [] = refl
notes_closed asked b at q n m (e ∷ es) = notes_closed asked b at q n m es

pub notes_opened : (asked : List ℕ) (b at : ℕ) (es : List Entry)
    → notes asked (opened b at) es ≡ headed asked (b + length (front asked es)) (at + length (bodies (front asked es))) (back asked es)
unfolding note
notes_opened asked b at [] =
    let u : b ≡ b + 0 = omega arith in
    let v : at ≡ at + 0 = omega arith in
    ap (λ x. opened x at) u ∙ ap (λ x. opened (b + 0) x) v
notes_opened asked b at (e ∷ es) = go (below e.name asked) (notes_opened asked (b + 1) (at + length e.name + length e.code) es)
  where
    n : ℕ
    n = length e.name

    m : ℕ
    m = length e.code

    f : List Entry
    f = front asked es

    go : (q : Bool) → notes asked (opened (b + 1) (at + n + m)) es ≡ headed asked (b + 1 + length f) (at + n + m + length (bodies f)) (back asked es)
        → notes asked (cond q (opened (b + 1) (at + n + m)) (closed b at (eqb (order e.name asked) 1) n m)) es
        ≡ headed asked (b + length (cond q (e ∷ f) [])) (at + length (bodies (cond q (e ∷ f) []))) (cond q (back asked es) (e ∷ es))
    go true i =
        let u : b + 1 + length f ≡ b + suc (length f) = omega arith in
        let v : at + n + m + length (bodies f) ≡ at + length (e.name ++ (e.code ++ bodies f)) = simp length-append (omega arith) in
        i ∙ ap (λ x. headed asked x (at + n + m + length (bodies f)) (back asked es)) u ∙ ap (λ x. headed asked (b + suc (length f)) x (back asked es)) v
    go false i =
        let u : b ≡ b + 0 = omega arith in
        let v : at ≡ at + 0 = omega arith in
        let q = eqb (order e.name asked) 1 in
        notes_closed asked b at q n m es ∙ ap (λ x. closed x at q n m) u ∙ ap (λ x. closed (b + 0) x q n m) v

settled_headed : (asked : List ℕ) (b at : ℕ) (es : List Entry) → settled (headed asked b at es) ≡ found_here asked at es
settled_headed asked b at [] = refl
settled_headed asked b at (e ∷ es) = refl

-- what the walk keeps is the answer
pub looked_found : (asked s : List ℕ) → Bytes s → looked_answer (noted asked (opened 0 (first_body (word_at s 0))) (entries_of s)) ≡ found_in asked s
unfolding found_in
looked_found asked s bytes = go (entries_of s) refl
  where
    go : (o : math.Option (List Entry)) → entries_of s ≡ o
        → looked_answer (noted asked (opened 0 (first_body (word_at s 0))) o) ≡ and_then (well_formed o) (found_among asked)
    go none e = refl
    go (some es) e =
        let m = made_of (entries_sound s bytes es e) in
        ap settled (notes_opened asked 0 (first_body (word_at s 0)) es)
        ∙ rw m.count (settled_headed asked (0 + length (front asked es)) (first_body (length es) + length (bodies (front asked es))) (back asked es))

-- ---- what a name leads to

-- among entries it is found or not: 21 is the book's alone
pub found_or_not : (asked : List ℕ) (es : List Entry) → ((p : Spot) × (found_among asked es ≡ accepted p)) ⊎ (found_among asked es ≡ refused (refusal 22 0))
found_or_not asked es = here (first_body (length es) + length (bodies (front asked es))) (back asked es)
  where
    here : (at : ℕ) (bs : List Entry) → ((p : Spot) × (found_here asked at bs ≡ accepted p)) ⊎ (found_here asked at bs ≡ refused (refusal 22 0))
    here at [] = inr refl
    here at (e ∷ bs) = go (eqb (order e.name asked) 1)
      where
        go : (q : Bool) → ((p : Spot) × (cond q (accepted (spot_at at e)) (refused (refusal 22 0)) ≡ accepted p))
            ⊎ (cond q (accepted (spot_at at e)) (refused (refusal 22 0)) ≡ refused (refusal 22 0))
        go true = inl (spot_at at e, refl)
        go false = inr refl

-- so an answer tells whether entries were read
pub record FoundAmong (asked s : List ℕ) (a : Answer Spot) : Type 0 where
  pub entries : List Entry
  pub read : entries_of s ≡ some entries
  pub among : found_among asked entries ≡ a

-- an answer's number, and 0 where there is none
number_of : Answer Spot → ℕ
number_of (accepted p) = 0
number_of (refused r) = r.number

-- a result is not 21, and 22 is not
pub not_badly : {p : Spot} → accepted p ≡ refused (refusal 21 0) → ⊥
unfolding number_of
not_badly {p} v = let z : number_of (accepted p) ≡ 21 = ap number_of v in omega (arith, z)

pub missing_not_badly : ◌≡◌ {A = Answer Spot} (refused (refusal 22 0)) (refused (refusal 21 0)) → ⊥
unfolding number_of
missing_not_badly v = let z : number_of (refused (refusal 22 0)) ≡ 21 = ap number_of v in omega (arith, z)

module _ (asked s : List ℕ) where
  pub found_among_law : (a : Answer Spot) → (a ≡ refused (refusal 21 0) → ⊥) → found_in asked s ≡ a → FoundAmong asked s a
  unfolding found_in
  found_among_law a n e = go (entries_of s) refl e
    where
      go : (o : math.Option (List Entry)) → entries_of s ≡ o → and_then (well_formed o) (found_among asked) ≡ a → FoundAmong asked s a
      go none u v = absurd (n (sym v))
      go (some es) u v = record { entries = es; read = u; among = v }

  pub found_badly : found_in asked s ≡ refused (refusal 21 0) → entries_of s ≡ none
  unfolding found_in
  found_badly e = go (entries_of s) e
    where
      go : (o : math.Option (List Entry)) → and_then (well_formed o) (found_among asked) ≡ refused (refusal 21 0) → o ≡ none
      go none v = refl
      go (some es) v =
          ⊎_elim (λ x. absurd (not_badly (sym x.1 ∙ v))) (λ x. absurd (missing_not_badly (sym x ∙ v))) (found_or_not asked es)

-- an entry's own name leads to it
pub found_named : {asked s : List ℕ} (x : Named asked s) → found_in asked s ≡ accepted (spot_of x)
unfolding found_in
found_named {asked} {s} x =
    let i = front_is [] x.before x.entry x.behind (good_rises x.book.good) in
    rw (entries_complete s _ x.book, ← x.named, i.0, i.1, order_refl x.entry.name)

-- a name that no entry has is not in the book
pub found_none : (asked s : List ℕ) (es : List Entry) → BookWith s es → (Named asked s → ⊥) → found_in asked s ≡ refused (refusal 22 0)
unfolding found_in
found_none asked s es h n = rw (entries_complete s es h) (go (back asked es) (front_back asked es))
  where
    go : (bs : List Entry) → front asked es ++ bs ≡ es → found_here asked (first_body (length es) + length (bodies (front asked es))) bs ≡ refused (refusal 22 0)
    go [] u = refl
    go (e ∷ bs) u =
        rw (ne_eqb (order e.name asked) 1 (λ o. n (record {
          before = front asked es;
          entry = e;
          behind = bs;
          book = rw u h;
          named = order_same_is e.name asked o;
        })))

-- where an answer leads, an entry of the book has the name and stands there
pub record FoundAt (asked s : List ℕ) (p : Spot) : Type 0 where
  pub is : Named asked s
  pub place : spot_of is ≡ p

pub found_at : (asked s : List ℕ) → Bytes s → (p : Spot) → found_in asked s ≡ accepted p → FoundAt asked s p
unfolding found_in
found_at asked s bytes p u = go (entries_of s) refl u
  where
    on : (es : List Entry) → BookWith s es → (bs : List Entry) → front asked es ++ bs ≡ es
        → found_here asked (first_body (length es) + length (bodies (front asked es))) bs ≡ accepted p → FoundAt asked s p
    on es h [] v w = clash (cc)
    on es h (e ∷ bs) v w = same (eqb (order e.name asked) 1) refl w
      where
        same : (q : Bool) → eqb (order e.name asked) 1 ≡ q
            → cond q (accepted (spot_at (first_body (length es) + length (bodies (front asked es))) e)) (refused (refusal 22 0)) ≡ accepted p → FoundAt asked s p
        same true t x =
            let y : spot_at (first_body (length es) + length (bodies (front asked es))) e ≡ p = cc in
            record {
              is = record { before = front asked es; entry = e; behind = bs; book = rw v h; named = order_same_is e.name asked (eqb-true _ _ t) };
              place = rw v y;
            }
        same false t x = clash (cc)

    go : (o : math.Option (List Entry)) → entries_of s ≡ o → and_then (well_formed o) (found_among asked) ≡ accepted p → FoundAt asked s p
    go none e v = clash (cc)
    go (some es) e v = on es (entries_sound s bytes es e) (back asked es) (front_back asked es) v

-- ---- the bytes there

pub bodies_append : (fs bs : List Entry) → bodies (fs ++ bs) ≡ bodies fs ++ bodies bs
bodies_append [] bs = refl
bodies_append (e ∷ fs) bs =
    rw (bodies_append fs bs) (sym (append_assoc e.name (e.code ++ bodies fs) (bodies bs) ∙ ap (λ x. e.name ++ x) (append_assoc e.code (bodies fs) (bodies bs))))

module _ {asked s : List ℕ} (x : Named asked s) where
  abbrev all : List Entry
  all = x.before ++ (x.entry ∷ x.behind)

  whole : Made all s
  whole = made_of x.book

  parted : bodies all ≡ bodies x.before ++ bodies (x.entry ∷ x.behind)
  parted = bodies_append x.before (x.entry ∷ x.behind)

  -- from where it stands on, the book has its name, its code and the bodies behind it
  pub stand : drop (spot_of x).start s ≡ x.entry.name ++ (x.entry.code ++ bodies x.behind)
  stand =
      sym (drop-drop (length (bodies x.before)) (first_body (length all)) s)
      ∙ ap (drop (length (bodies x.before))) (whole.below ∙ parted)
      ∙ drop_at (bodies x.before) (bodies (x.entry ∷ x.behind)) (length (bodies x.before)) refl

  -- the part is the name and the code
  pub part_bytes : take ((spot_of x).name + (spot_of x).code) (drop (spot_of x).start s) ≡ x.entry.name ++ x.entry.code
  part_bytes =
      rw (stand, ← append_assoc) (take_at (x.entry.name ++ x.entry.code) (bodies x.behind) (length x.entry.name + length x.entry.code) (length-append x.entry.name x.entry.code))

  -- and behind the name stands the code
  pub code_bytes : take (spot_of x).code (drop ((spot_of x).start + (spot_of x).name) s) ≡ x.entry.code
  code_bytes =
      let n = length x.entry.name in
      let d : drop ((spot_of x).start + n) s ≡ x.entry.code ++ bodies x.behind =
      sym (drop-drop n (spot_of x).start s) ∙ ap (drop n) stand ∙ drop_at x.entry.name (x.entry.code ++ bodies x.behind) n refl in
      ap (take (length x.entry.code)) d ∙ take_at x.entry.code (bodies x.behind) (length x.entry.code) refl

  -- it lies inside the book
  pub part_inside : (spot_of x).start + (spot_of x).name + (spot_of x).code ≤ length s
  part_inside =
      omega (
        arith,
        whole.long,
        ap length parted,
        length-append (bodies x.before) (bodies (x.entry ∷ x.behind)),
        length-append x.entry.name (x.entry.code ++ bodies x.behind),
        length-append x.entry.code (bodies x.behind),
      )

-- ---- the calls

module _ (asked s : List ℕ) where
  pub find_badly : sized s ≡ false → refused (refusal 21 0) ≡ found_in asked s
  unfolding found_in entries_of
  find_badly e = rw e

  module _ (bytes : Bytes s) (e : sized s ≡ true) {k : ℕ} (count : k ≡ word_at s 0) where
    looked_read : looked_answer (looked_in asked s k) ≡ found_in asked s
    unfolding entries_of
    looked_read = rw count (rw e at (looked_found asked s bytes))

    pub find_holds : {v : Seen} → looked_in asked s k ≡ Ok v → settled v ≡ found_in asked s
    find_holds g = sym (ap looked_answer g) ∙ looked_read

    pub find_refused : {why : NotFound} → looked_in asked s k ≡ Err why → refused (place_refusal why) ≡ found_in asked s
    find_refused g = sym (ap looked_answer g) ∙ looked_read

  pub found_inside : Bytes s → (p : Spot) → found_in asked s ≡ accepted p → p.start + p.name + p.code ≤ length s
  found_inside bytes p e = let f = found_at asked s bytes p e in subst (λ (q : Spot). q.start + q.name + q.code ≤ length s) f.place (part_inside f.is)

  pub part_at : (p : Spot) → found_in asked s ≡ accepted p → take (p.start + p.name + p.code - p.start) (drop p.start s) ≡ part_in asked s
  unfolding part_in
  part_at p e = (let u : p.start + p.name + p.code - p.start ≡ p.name + p.code = omega arith in rw (e, u))

  pub part_none : (r : Refusal) → found_in asked s ≡ refused r → [] ≡ part_in asked s
  unfolding part_in
  part_none r e = rw e
