-- The nine levels after the first: what the table says of each, one of them read, and what they come to together.
-- Assumes nothing.
use mathlib.Core.Path.{◌≡◌, refl, sym, ◌∙◌, ap, subst, subst⁻¹}
use mathlib.Core.Bool.{Bool, true, false, ◌&&◌, ◌||◌}
use mathlib.Core.List.{List, [], ◌∷◌, map}
use Prim.Native.Nat.{ℕ, zero, suc, ◌+◌, ◌-◌, ◌*◌, ◌≤◌, ◌<◌}
use native.Mathlib.Omega.{arith}
use lib.Dec.{ltb, leb, eqb}
use lib.ListN.{length, get_or, take, drop}
use lib.Seq.{drop-drop}
use borrow.Author.Tests.{ltb-true, ltb-false, leb-true, eqb-true, le-leb, lt-leb, ne_eqb}
use Rattle.std.proofs.Common.{cond}
use Rattle.std.specs.Prelude.{Result, Ok, Err, IsErr, IsErrAnd}
use Rattle.grid.specs.declared.Split.{Split}
use Rattle.grid.specs.declared.Refusal.{Refusal}
use Rattle.grid.specs.declared.Cell.{Cell}
use Rattle.grid.specs.Characters.{digit_of}
use Rattle.grid.specs.Tree.{Read, ok, bad, shift, next, follow}
use Rattle.grid.specs.Answers.{accepted, refused, wrong_character}
use Rattle.grid.specs.Codes.{answer}
use Rattle.grid.specs.Splits.{splits, split_at}
use Rattle.grid.specs.Plane.{Node, sheet, child_of, plane, plane_codes, cell_at}
use Rattle.grid.specs.inner.Roads.{place_of, later_read}
use Rattle.grid.specs.inner.Standing.{level_place, length_in, stands_at, plane_in, HasPlane}
use Rattle.grid.proofs.Cut.{and_true, all_below, below}
use Rattle.grid.proofs.Lists.{take_map, drop_map}
use Rattle.grid.proofs.Laws.{shift_shift}
use Rattle.grid.proofs.Lengths.{adds, grows}
use Rattle.grid.proofs.Standing.{few, level_room, plane_long, plane_run, has_same}
use Rattle.grid.proofs.Stopping.{sheet_later, later_inside}
use Rattle.ordinary_read.specs.declared.Cursor.{Cursor}
use Rattle.ordinary_read.specs.inner.Given.{SheetCode}
use Rattle.ordinary_read.specs.inner.Reading.{ordinary_node, ordinary_read, onward, level_on, read_to, LevelCell, DividedBy, LevelNext, AtSheet, Onward}

-- ---- from one level to the next

-- a test that each level passes beside the level before it
each : (f : Split → Split → Bool) → all_below (λ k. f (split_at k) (split_at (suc k))) 9 ≡ true → (k : ℕ) → k < 9 → f (split_at k) (split_at (suc k)) ≡ true
each f e k h = below (λ k. f (split_at k) (split_at (suc k))) 9 k e h

-- each level has a character
some : (k : ℕ) → k < 9 → 1 ≤ (split_at (suc k)).characters
some k h = leb-true _ _ (each (λ t s. leb 1 s.characters) refl k h)

-- the next level divides a cell of this one
divides : (k : ℕ) (c : Cursor) → k < 9 → LevelCell (split_at k) c → DividedBy (split_at (suc k)) c
divides k c h p =
    record {
      wide = eqb-true _ _ (each (λ t s. eqb (s.columns * s.width) t.width) refl k h) ∙ sym p.wide;
      high = eqb-true _ _ (each (λ t s. eqb (s.rows * s.height) t.height) refl k h) ∙ sym p.high;
      some_width = ltb-true _ _ (each (λ t s. ltb 0 s.width) refl k h);
      some_height = ltb-true _ _ (each (λ t s. ltb 0 s.height) refl k h);
      some_characters = some k h;
      placed = omega (arith, adds k h);
      near = few (suc k) (omega arith);
    }

-- and comes behind it
behind : (k : ℕ) → 1 ≤ k → k + 1 < 10 → (spaced : Bool)
    → level_place spaced k (split_at k) + (split_at k).characters ≤ level_place spaced (k + 1) (split_at (k + 1)) + (split_at (k + 1)).characters
behind zero a h q = absurd (omega arith)
behind (suc k) a h q = let z : suc k + 1 ≡ suc (suc k) = omega arith in rw z (go q)
  where
    go : (q : Bool) → level_place q (suc k) (split_at (suc k)) + (split_at (suc k)).characters ≤ level_place q (suc (suc k)) (split_at (suc (suc k))) + (split_at (suc (suc k))).characters
    go true = omega (arith, adds k (omega arith), adds (suc k) (omega arith))
    go false = omega (arith, adds k (omega arith), adds (suc k) (omega arith))

-- a level that has not two characters has one, for two columns and at most five rows
pub record OneCharacter (s : Split) : Type 0 where
  pub one : s.characters ≡ 1
  pub two_columns : s.columns ≡ 2
  pub few_rows : 2 * s.rows ≤ 10

abbrev formed : Split → Bool
formed s = eqb s.characters 2 || (eqb s.characters 1 && (eqb s.columns 2 && leb (2 * s.rows) 10))

formed_at : (k : ℕ) → 1 ≤ k → k < 10 → formed (split_at k) ≡ true
formed_at zero a b = absurd (omega arith)
formed_at (suc k) a b = each (λ t s. formed s) refl k (omega arith)

one_by : (s : Split) → formed s ≡ true → (s.characters ≡ 2 → ⊥) → OneCharacter s
one_by s f n =
    let a : (eqb s.characters 1 && (eqb s.columns 2 && leb (2 * s.rows) 10)) ≡ true = rw (ne_eqb s.characters 2 n) at f in
    let b = and_true (eqb s.characters 1) (eqb s.columns 2 && leb (2 * s.rows) 10) a in
    let d = and_true (eqb s.columns 2) (leb (2 * s.rows) 10) b.1 in
    record { one = eqb-true _ _ b.0; two_columns = eqb-true _ _ d.0; few_rows = leb-true _ _ d.1 }

-- the level s is level k + 1
module _ {k : ℕ} {s : Split} (e : s ≡ split_at k) (low : 1 ≤ k) (high : k < 10) where
  pub divided : (spaced : Bool) {n at : ℕ} {c : Cursor} → at ≡ level_place spaced k s → at + s.characters ≤ n → LevelNext spaced k n c → DividedBy s c
  divided spaced {n} {at} {c} f l x = subst⁻¹ (λ (t : Split). DividedBy t c) e (go k low high (x high (rw (← e, ← f) l)))
    where
      go : (k : ℕ) → 1 ≤ k → k < 10 → LevelCell (split_at (k - 1)) c → DividedBy (split_at k) c
      go zero a b x = absurd (omega arith)
      go (suc k) a b x = divides k c (omega arith) (let z : suc k - 1 ≡ k = omega arith in subst (λ (i : ℕ). LevelCell (split_at i) c) z x)

  pub one_character : (s.characters ≡ 2 → ⊥) → OneCharacter s
  one_character = one_by s (rw e (formed_at k low high))

  pub one_level : {spaced : Bool} {w : List ℕ} {c : Cursor} {r : Result Cursor ℕ} → ordinary_read r ≡ onward s (level_place spaced k s) w (ok (ordinary_node c))
      → ((m : Cursor) → r ≡ Ok m → LevelCell s m) → Onward spaced k w c r
  one_level {spaced} {w} {c} {r} f g =
      let z : k ≡ k + 1 - 1 = omega arith in
      record {
        read = subst (λ (t : Split). ordinary_read r ≡ onward t (level_place spaced k t) w (ok (ordinary_node c))) e f;
        reached = λ m q h l. subst (λ (t : Split). LevelCell t m) (e ∙ ap split_at z) (g m q);
      }

  -- a code that has not the level has not the next one
  pub none_left : (spaced : Bool) {w : List ℕ} {c : Cursor} {at : ℕ} → at ≡ level_place spaced k s → length w < at + s.characters → Onward spaced k w c (Ok c)
  none_left spaced {w} {c} {at} f l =
      let n : length w < level_place spaced k (split_at k) + (split_at k).characters = rw (← e, ← f) l in
      record { read = rw (lt-leb _ _ n) refl; reached = λ m q h x. absurd (omega (arith, behind k low h spaced, x, n)) }

-- a character before them was not allowed
onward_bad : (s : Split) (at : ℕ) (w : List ℕ) (p : ℕ) → onward s at w (bad p) ≡ bad p
onward_bad s at w p = go (leb (at + s.characters) (length w))
  where
    go : (q : Bool) → ◌≡◌ {A = Read Node} (cond q (bad p) (bad p)) (bad p)
    go true = refl
    go false = refl

-- ---- the loop over the levels

-- the levels before level k + 1 are read, from the cursor b on
pub record Reached (spaced : Bool) (w : List ℕ) (b : Cursor) (k : ℕ) (c : Cursor) : Type 0 where
  pub read : ok (ordinary_node c) ≡ read_to spaced w (k - 1) (ok (ordinary_node b))
  pub next : LevelNext spaced k (length w) c

-- what `?` hands on is the place that it was given
handed_on : (t : Result Cursor ℕ) {p : ℕ} → IsErr t × IsErrAnd t (λ q. q ≡ p) → ordinary_read t ≡ bad p
handed_on (Ok c) h = absurd h.1
handed_on (Err q) h = ap bad h.1

module _ (spaced : Bool) (w : List ℕ) (b : Cursor) where
  pub begun : LevelNext spaced 1 (length w) b → Reached spaced w b 1 b
  begun h = record { read = refl; next = h }

  -- what one level more comes to
  onto : (k : ℕ) {c : Cursor} {r : Result Cursor ℕ} → 1 ≤ k → Reached spaced w b k c → Onward spaced k w c r → ordinary_read r ≡ read_to spaced w k (ok (ordinary_node b))
  onto zero a h o = absurd (omega arith)
  onto (suc k) a h o = let z : suc k - 1 ≡ k = omega arith in o.read ∙ ap (level_on spaced w (suc k)) (rw z at h.read)

  pub more : {k : ℕ} {c m : Cursor} {r : Result Cursor ℕ} → 1 ≤ k → Reached spaced w b k c → Onward spaced k w c r → r ≡ Ok m → Reached spaced w b (k + 1) m
  more {k} {m = m} a h o q =
      let z : k + 1 - 1 ≡ k = omega arith in
      record { read = rw z (sym (ap ordinary_read q) ∙ onto k a h o); next = o.reached m q }

  -- past a bad character nothing is read
  still_bad : (j k : ℕ) {p : ℕ} (r : Read Node) → read_to spaced w k r ≡ bad p → read_to spaced w (j + k) r ≡ bad p
  still_bad zero k r e = let z : 0 + k ≡ k = omega arith in rw z e
  still_bad (suc j) k {p} r e =
      let z : suc j + k ≡ suc (j + k) = omega arith in
      rw z (ap (level_on spaced w (suc (j + k))) (still_bad j k r e) ∙ onward_bad (split_at (suc (j + k))) (level_place spaced (suc (j + k)) (split_at (suc (j + k)))) w p)

  pub stopped : {k : ℕ} {c : Cursor} {r : Result Cursor ℕ} (t : Result Cursor ℕ) {p : ℕ} → 1 ≤ k → k < 10 → Reached spaced w b k c → Onward spaced k w c r → r ≡ Err p → IsErr t × IsErrAnd t (λ q. q ≡ p)
      → ordinary_read t ≡ read_to spaced w 9 (ok (ordinary_node b))
  stopped {k} t a l h o q e =
      let z : 9 - k + k ≡ 9 = omega arith in
      handed_on t e ∙ sym (rw z at (still_bad (9 - k) k (ok (ordinary_node b)) (sym (onto k a h o) ∙ ap ordinary_read q)))

-- ---- the levels together

-- the level t read where it stands in a plane code
abbrev in_plane : Split → List ℕ → Read Node → Read Node
in_plane t v r = onward t (place_of t) v r

module _ {spaced : Bool} {level zone row : ℕ} (w : List ℕ) (g : SheetCode spaced level zone row (length w)) where
  -- the plane code in the code has its level's length
  long : length (plane_in spaced level w) ≡ (split_at (level - 1)).length
  long = plane_long level w g.some_level g.last_level spaced g.length_is

  module _ (k : ℕ) (h : k < 9) where
    abbrev s : Split
    s = split_at (suc k)

    -- codes of a level, spaced and not, end before the finer levels
    past : level ≤ suc k → (q : Bool) → length_in q level < level_place q (suc k) s + s.characters
    past l q = go q (grows (level - 1) k (omega (arith, g.some_level)) (omega arith))
      where
        go : (q : Bool) → (split_at (level - 1)).length ≤ (split_at k).length → length_in q level < level_place q (suc k) s + s.characters
        go true f = omega (arith, adds k h, some k h)
        go false f = omega (arith, adds k h, some k h)

    -- so a test of their length tells whether they have a level
    has : (q : Bool) → leb (level_place q (suc k) s + s.characters) (length_in q level) ≡ ltb (suc k) level
    has q = go (ltb (suc k) level) refl
      where
        go : (b : Bool) → ltb (suc k) level ≡ b → leb (level_place q (suc k) s + s.characters) (length_in q level) ≡ b
        go true t = le-leb _ _ (level_room q level (suc k) (ltb-true (suc k) level t) g.last_level)
        go false t = lt-leb _ _ (past (ltb-false (suc k) level t) q)

    -- a level is read from the code as from the plane code in it
    as_plane : {r v : Read Node} → r ≡ v → onward s (level_place spaced (suc k) s) w r ≡ in_plane s (plane_in spaced level w) v
    as_plane {r} {v} f = go (ltb (suc k) level) refl
      where
        go : (b : Bool) → ltb (suc k) level ≡ b → onward s (level_place spaced (suc k) s) w r ≡ in_plane s (plane_in spaced level w) v
        go true t =
            let run = plane_run level w g.some_level g.last_level spaced (suc k) (omega arith) (ltb-true (suc k) level t) g.length_is in
            rw (g.length_is, long, has spaced, has false, t, run, f) refl
        go false t = rw (g.length_is, long, has spaced, has false, t) f

-- the first j of the levels ts stand one after another from the place at on and end within n characters; the others end past them
abbrev cut : ℕ → ℕ → ℕ → List Split → Bool
cut j at n [] = true
cut zero at n (t ∷ ts) = ltb n (place_of t + t.characters) && cut zero at n ts
cut (suc j) at n (t ∷ ts) = (eqb (place_of t) at && leb (at + t.characters) n) && cut j (at + t.characters) n ts

module _ (w : List ℕ) where
  abbrev read_all : List Split → Read Node → Read Node
  read_all [] r = r
  read_all (t ∷ ts) r = read_all ts (in_plane t w r)

  all_bad : (ts : List Split) (p : ℕ) → read_all ts (bad p) ≡ bad p
  all_bad [] p = refl
  all_bad (t ∷ ts) p = ap (read_all ts) (onward_bad t (place_of t) w p) ∙ all_bad ts p

  -- a level of n characters, and then the levels ts
  all_next : (ts : List Split) (at n : ℕ) (f : Node → Read Node) → ((m : Node) → read_all ts (ok m) ≡ shift (at + n) (f m))
      → (r : Read Node) → read_all ts (shift at r) ≡ shift at (next n r f)
  all_next ts at n f h (ok m) = h m ∙ sym (shift_shift at n (f m))
  all_next ts at n f h (bad p) = all_bad ts (at + p)

  all_follow : (j : ℕ) (ts : List Split) (at : ℕ) (m : Node) → cut j at (length w) ts ≡ true
      → read_all ts (ok m) ≡ shift at (follow plane (take j ts) m (map digit_of (drop at w)))
  unfolding follow
  all_follow zero [] at m e = refl
  all_follow (suc j) [] at m e = refl
  all_follow zero (t ∷ ts) at m e =
      let a = and_true (ltb (length w) (place_of t + t.characters)) (cut zero at (length w) ts) e in
      rw (lt-leb _ _ (ltb-true (length w) (place_of t + t.characters) a.0)) (all_follow zero ts at m a.1)
  all_follow (suc j) (t ∷ ts) at m e =
      let n = t.characters in
      let a = and_true (eqb (place_of t) at && leb (at + n) (length w)) (cut j (at + n) (length w) ts) e in
      let b = and_true (eqb (place_of t) at) (leb (at + n) (length w)) a.0 in
      rw (eqb-true (place_of t) at b.0, b.1, ← take_map digit_of n (drop at w), drop_map digit_of n (drop at w), drop-drop n at w)
      (all_next ts at n (λ c. follow plane (take j ts) c (map digit_of (drop (at + n) w))) (λ c. all_follow j ts (at + n) c a.1)
      (child_of t m (take n (map digit_of (drop at w)))))

-- as far as level k + 1 the plane code is read as the code that it stands in
abbrev plane_to : List ℕ → ℕ → Read Node → Read Node
plane_to v zero r = r
plane_to v (suc k) r = in_plane (split_at (suc k)) v (plane_to v k r)

all_plane : {spaced : Bool} {level zone row : ℕ} (w : List ℕ) → SheetCode spaced level zone row (length w) → (k : ℕ) → k ≤ 9 → (r : Read Node) → read_to spaced w k r ≡ plane_to (plane_in spaced level w) k r
all_plane w g zero h r = refl
all_plane w g (suc k) h r = as_plane w g k (omega arith) (all_plane w g k (omega arith) r)

-- ---- all that the reader answers

module _ {spaced north : Bool} {level zone row : ℕ} (w : List ℕ) (g : SheetCode spaced level zone row (length w)) (c : Cursor) (a : AtSheet north zone row c) (r : Result Cursor ℕ) (o : ordinary_read r ≡ read_to spaced w 9 (ok (ordinary_node c))) where
  -- the nine levels, of which a code has as many as its length tells
  followed : ordinary_read r ≡ shift 4 (follow plane (drop 1 (take level splits)) (sheet north zone row) (map digit_of (drop 4 (plane_in spaced level w))))
  followed =
      let v = plane_in spaced level w in
      let m = sheet north zone row in
      let j : suc (level - 1) ≡ level = omega (arith, g.some_level) in
      o ∙ ap (λ (x : Node). read_to spaced w 9 (ok x)) a.read ∙ all_plane w g 9 (omega arith) (ok m)
      ∙ all_follow v (level - 1) (drop 1 splits) 4 m (rw (long w g) (below (λ j. cut j 4 (split_at j).length (drop 1 splits)) 10 (level - 1) refl (omega (arith, g.some_level, g.last_level))))
      ∙ ap (λ (l : ℕ). shift 4 (follow plane (drop 1 (take l splits)) m (map digit_of (drop 4 v)))) j

  pub cell_found : {m : Cursor} {d : Cell} → r ≡ Ok m → d ≡ cell_at level (ordinary_node m) → accepted d ≡ later_read level (sheet north zone row) (plane_in spaced level w)
  unfolding plane_codes later_read
  cell_found q e = ap accepted e ∙ ap (answer plane_codes (plane_in spaced level w) level) (sym (ap ordinary_read q) ∙ followed)

  -- where a character was not allowed, it is one of the code
  pub stopped_in : {p : ℕ} → r ≡ Err p → HasPlane spaced level w p
  stopped_in {p} q =
      record {
        some = g.some_level;
        most = g.last_level;
        long = g.length_is;
        character = later_inside level g.last_level (sheet north zone row) (plane_in spaced level w) p
            (sheet_later level g.last_level north zone row g.some_zone g.last_zone g.last_row) (long w g) (sym followed ∙ ap ordinary_read q);
      }

  pub bad_found : {p : ℕ} {x : Refusal} → r ≡ Err p → x ≡ wrong_character p (get_or w (stands_at spaced p) 0) → refused x ≡ later_read level (sheet north zone row) (plane_in spaced level w)
  unfolding plane_codes later_read
  bad_found {p} q e =
      ap refused (e ∙ ap (wrong_character p) (sym (has_same (stopped_in q)))) ∙ ap (answer plane_codes (plane_in spaced level w) level) (sym (ap ordinary_read q) ∙ followed)
