-- What the cursor reads of all the levels together: level 2, those after it, and what the reader answers.
-- Assumes nothing.
use mathlib.Core.Path.{◌≡◌, refl, sym, ◌∙◌, ap}
use mathlib.Core.Bool.{Bool, true, false}
use mathlib.Core.List.{List, [], ◌∷◌}
use Prim.Native.Nat.{ℕ, zero, suc, ◌+◌, ◌-◌, ◌*◌, ◌≤◌, ◌<◌, min}
use native.Mathlib.Numerals.{add-one}
use native.Mathlib.Omega.{arith}
use lib.Dec.{ltb, leb, eqb}
use lib.ListN.{length, get_or, drop}
use borrow.Author.Tests.{ltb-true, ltb-false, leb-true, eqb-true, eqb-false, le-leb, lt-leb, le-ltb, lt-ltb}
use Rattle.std.specs.Prelude.{cond, Result, Ok, Err, IsErr, IsErrAnd}
use Rattle.grid.specs.declared.Cell.{Cell}
use Rattle.grid.specs.declared.Refusal.{Refusal}
use Rattle.grid.specs.declared.Split.{Split}
use Rattle.grid.specs.Characters.{digit_of}
use Rattle.grid.specs.Tree.{Read, ok, bad, shift, follow}
use Rattle.grid.specs.Answers.{accepted, refused, wrong_character}
use Rattle.grid.specs.Codes.{answer}
use Rattle.grid.specs.Splits.{second, splits, split_at}
use Rattle.grid.specs.Plane.{Node, pole, cell, cap, pole_height, polar_node, pole_child, child_of, cell_at, plane_codes}
use Rattle.grid.specs.inner.Roads.{place_of, later_read}
use Rattle.grid.specs.inner.Standing.{level_place, length_in, stands_at, plane_in, HasPlane}
use Rattle.grid.proofs.Cut.{clash, below}
use Rattle.grid.proofs.Lists.{map_two}
use Rattle.grid.proofs.Lengths.{grows}
use Rattle.grid.proofs.PlaneLaws.{Good, GoodCell, GoodCap, cell_positive, cap_positive}
use Rattle.grid.proofs.Standing.{level_room, plane_long, has_same}
use Rattle.grid.proofs.Stopping.{pole_later, later_inside}
use Rattle.polar_read.specs.declared.Cursor.{Cursor}
use Rattle.polar_read.specs.inner.Given.{OfLevel}
use Rattle.polar_read.specs.inner.Naming.{named_by}
use Rattle.polar_read.specs.inner.Reading.{frame_of, polar_box, node_of, polar_reading, polar_level_digits, led, polar_level_on, polar_read_to, second_read}
use Rattle.polar_read.proofs.SoFar.{so_far, first_level, so_far_on, so_far_bad, so_far_good, follows}

-- ---- level 2: what two digits name is the grid's reading of them

named_child : (n : Bool) (i j : ℕ) {k : ℕ} → ok k ≡ named_by i j → ok (polar_node n k) ≡ shift (place_of second) (pole_child n (i ∷ j ∷ []))
named_child n i j {k} = go (ltb i 4) refl (ltb j 4) refl
  where
    go : (p : Bool) → ltb i 4 ≡ p → (q : Bool) → ltb j 4 ≡ q → ok k ≡ named_by i j → ok (polar_node n k) ≡ shift (place_of second) (pole_child n (i ∷ j ∷ []))
    go true e true f t = let u : ok k ≡ ok (4 * i + j) = rw (e, f) at t in let z : k ≡ 4 * i + j = cc in rw (e, f, z) refl
    go true e false f t = let u : ok k ≡ bad (second.length - 1) = rw (e, f) at t in clash (cc)
    go false e q f t = let u : ok k ≡ bad (second.length - 2) = rw e at t in clash (cc)

pub second_there : (spaced : Bool) {s : Split} → s ≡ second → {at : ℕ} → at ≡ level_place spaced 1 s → (w : List ℕ) → at + s.characters ≤ length w → (n : Bool) {k : ℕ}
    → ok k ≡ named_by (digit_of (get_or w at 0)) (digit_of (get_or w (at + 1) 0)) → ok (polar_node n k) ≡ second_read spaced n w
second_there spaced {s} u {at} z w l n {k} t =
    let p : at ≡ level_place spaced 1 second = z ∙ ap (level_place spaced 1) u in
    let h : at + 2 ≤ length w = rw u at l in
    rw (← p, le-leb (at + 2) (length w) h, map_two digit_of w at h) (named_child n (digit_of (get_or w at 0)) (digit_of (get_or w (at + 1) 0)) t)

-- ---- the loop over the levels

-- the levels before level k + 1 are read
abbrev pub Reached : Bool → Bool → List ℕ → ℕ → Node → Type 0
Reached spaced n w k x = ok x ≡ polar_read_to spaced n w (k - 1)

-- what `?` hands on is the place that it was given
handed_on : (t : Result Cursor ℕ) {p : ℕ} → IsErr t × IsErrAnd t (λ q. q ≡ p) → polar_reading t ≡ bad p
handed_on (Ok c) h = absurd h.1
handed_on (Err q) h = ap bad h.1

module _ (spaced n : Bool) (w : List ℕ) where
  -- what one level more comes to
  onto : (k : ℕ) {x : Node} {r : Read Node} → 2 ≤ k → Reached spaced n w k x → r ≡ polar_level_on spaced w k (ok x) → r ≡ polar_read_to spaced n w k
  onto zero a h o = absurd (omega arith)
  onto (suc zero) a h o = absurd (omega arith)
  onto (suc (suc k)) a h o = let z : suc (suc k) - 1 ≡ suc k = omega arith in o ∙ ap (polar_level_on spaced w (suc (suc k))) (rw z at h)

  pub begun : {r : Result Cursor ℕ} {c : Cursor} → polar_reading r ≡ second_read spaced n w → r ≡ Ok c → Reached spaced n w 2 (node_of c)
  begun e q = sym (ap polar_reading q) ∙ e

  pub more : {k : ℕ} {x : Node} {m : Cursor} {r : Result Cursor ℕ} → 2 ≤ k → Reached spaced n w k x → polar_reading r ≡ polar_level_on spaced w k (ok x) → r ≡ Ok m → Reached spaced n w (k + 1) (node_of m)
  more {k} a h o q =
      let z : k + 1 - 1 ≡ k = omega arith in
      rw z (sym (ap polar_reading q) ∙ onto k a h o)

  -- past a bad character nothing is read
  still_bad : (j k : ℕ) {p : ℕ} → 1 ≤ k → polar_read_to spaced n w k ≡ bad p → polar_read_to spaced n w (j + k) ≡ bad p
  still_bad zero k a e = let z : 0 + k ≡ k = omega arith in rw z e
  still_bad (suc j) zero a e = absurd (omega arith)
  still_bad (suc j) (suc k) {p} a e =
      let z : suc j + suc k ≡ suc (suc (j + k)) = omega arith in
      let y : j + suc k ≡ suc (j + k) = omega arith in
      rw z (ap (polar_level_on spaced w (suc (suc (j + k)))) (rw y at (still_bad j (suc k) a e)) ∙ bad_on (suc (suc (j + k))))
    where
      bad_on : (i : ℕ) → polar_level_on spaced w i (bad p) ≡ bad p
      bad_on i = go (leb (level_place spaced i (split_at i) + (split_at i).characters) (length w))
        where
          go : (q : Bool) → ◌≡◌ {A = Read Node} (cond q (bad p) (bad p)) (bad p)
          go true = refl
          go false = refl

  pub stopped : {k : ℕ} {x : Node} {r : Result Cursor ℕ} (t : Result Cursor ℕ) {p : ℕ} → 2 ≤ k → k < 10 → Reached spaced n w k x → polar_reading r ≡ polar_level_on spaced w k (ok x) → r ≡ Err p
      → IsErr t × IsErrAnd t (λ q. q ≡ p) → polar_reading t ≡ polar_read_to spaced n w 9
  stopped {k} t a l h o q e =
      let z : 9 - k + k ≡ 9 = omega arith in
      handed_on t e ∙ sym (rw z at (still_bad (9 - k) k (omega arith) (sym (onto k a h o) ∙ ap polar_reading q)))

-- ---- the levels from one on, read from a code of a level

module _ {spaced : Bool} {level : ℕ} (w : List ℕ) (o : OfLevel spaced level w) where
  abbrev v : List ℕ
  v = plane_in spaced level w

  -- codes of a level, spaced and not, end before the finer levels
  past : (k : ℕ) → 1 ≤ k → k < 10 → level ≤ k → (q : Bool) → length_in q level < level_place q k (split_at k) + (split_at k).characters
  past k a b l q = go q (grows (level - 1) (k - 1) (omega (arith, o.some)) (omega arith))
    where
      some : 1 ≤ (split_at k).characters
      some = leb-true _ _ (below (λ i. leb 1 (split_at i).characters) 10 k refl b)

      go : (q : Bool) → (split_at (level - 1)).length ≤ (split_at (k - 1)).length → length_in q level < level_place q k (split_at k) + (split_at k).characters
      go true f = omega (arith, follows k a b, some)
      go false f = omega (arith, follows k a b, some)

  -- so a test of their length tells whether they have a level
  has : (k : ℕ) → 1 ≤ k → k < 10 → leb (level_place spaced k (split_at k) + (split_at k).characters) (length w) ≡ ltb k level
  has k a b = rw o.long (go (ltb k level) refl)
    where
      go : (t : Bool) → ltb k level ≡ t → leb (level_place spaced k (split_at k) + (split_at k).characters) (length_in spaced level) ≡ t
      go true t = le-leb _ _ (level_room spaced level k (ltb-true k level t) o.most)
      go false t = lt-leb _ _ (past k a b (ltb-false k level t) spaced)

  one_more : (n : Bool) (k : ℕ) → 1 ≤ k → k < 10 → {r : Read Node} → r ≡ so_far n (min k level) v → polar_level_on spaced w k r ≡ so_far n (min (k + 1) level) v
  one_more n k a b {r} e = go (ltb k level) refl
    where
      there : k < level → (q : Read Node) → so_far n k v ≡ q → led (split_at k) (level_place spaced k (split_at k)) w q ≡ so_far n (k + 1) v
      there h (ok m) f =
          let z : place_of (split_at k) ≡ (split_at (k - 1)).length = omega (arith, follows k a b) in
          ap (λ (i : ℕ). shift i (child_of (split_at k) m (polar_level_digits (split_at k) (level_place spaced k (split_at k)) w))) z ∙ sym (so_far_on o n k a h f)
      there h (bad p) f = sym (so_far_bad n k v a b f)

      go : (t : Bool) → ltb k level ≡ t → polar_level_on spaced w k r ≡ so_far n (min (k + 1) level) v
      go true t =
          let h : k < level = ltb-true k level t in
          let x : min k level ≡ k = omega arith in
          let y : min (k + 1) level ≡ k + 1 = omega arith in
          let f : so_far n k v ≡ r = sym (rw x at e) in
          rw (has k a b, t, y) (there h r f)
      go false t =
          let h : level ≤ k = ltb-false k level t in
          let x : min k level ≡ level = omega arith in
          let y : min (k + 1) level ≡ level = omega arith in
          rw (has k a b, t, y) (rw x at e)

  -- a code of level 2 or more: what is read of it, as far as level k + 1
  all_levels : (n : Bool) → 1 < level → (k : ℕ) → 1 ≤ k → k ≤ 9 → polar_read_to spaced n w k ≡ so_far n (min (k + 1) level) v
  all_levels n h zero a b = absurd (omega arith)
  all_levels n h (suc zero) a b =
      let t : leb (level_place spaced 1 second + second.characters) (length w) ≡ true = has 1 (omega arith) (omega arith) ∙ lt-ltb 1 level h in
      let f : second_read spaced n w ≡ polar_level_on spaced w 1 (ok (pole n)) = rw t refl in
      let x : min 1 level ≡ 1 = omega arith in
      f ∙ one_more n 1 (omega arith) (omega arith) {r = ok (pole n)} (rw x (sym (first_level n v)))
  all_levels n h (suc (suc k)) a b =
      let e : polar_read_to spaced n w (suc k) ≡ so_far n (min (suc (suc k)) level) v = rw (add-one (suc k)) at (all_levels n h (suc k) (omega arith) (omega arith)) in
      one_more n (suc (suc k)) (omega arith) (omega arith) e

  -- a code of level 1 has none of them
  none_read : (n : Bool) → level ≡ 1 → (k : ℕ) → k ≤ 9 → polar_read_to spaced n w k ≡ ok (cap n pole_height)
  none_read n z zero b = refl
  none_read n z (suc zero) b =
      let t : leb (level_place spaced 1 second + second.characters) (length w) ≡ false = has 1 (omega arith) (omega arith) ∙ rw z refl in
      rw t refl
  none_read n z (suc (suc k)) b =
      let t : ltb (suc (suc k)) level ≡ false = rw z (le-ltb (suc (suc k)) 1 (omega arith)) in
      let e : polar_level_on spaced w (suc (suc k)) (polar_read_to spaced n w (suc k)) ≡ polar_read_to spaced n w (suc k) = rw (has (suc (suc k)) (omega arith) (omega arith), t) refl in
      e ∙ none_read n z (suc k) (omega arith)

-- ---- all that the reader answers

-- a cell that can be divided further is not empty
good_some : (ts : List Split) (m : Cursor) → Good ts (node_of m) → (0 < m.w) × (0 < m.h)
good_some ts m g = go m.cap refl
  where
    go : (b : Bool) → m.cap ≡ b → (0 < m.w) × (0 < m.h)
    go true p = let k : GoodCap ts m.h = rw p at g in (omega (arith, (m.round p).2), cap_positive ts m.h k)
    go false p = let k : GoodCell ts (frame_of m) (polar_box m) = rw p at g in cell_positive ts (frame_of m) (polar_box m) k

-- nor is N000 or S000
pole_some : {n : Bool} (m : Cursor) → node_of m ≡ cap n pole_height → (0 < m.w) × (0 < m.h)
pole_some {n} m e = go m.cap refl
  where
    go : (b : Bool) → m.cap ≡ b → (0 < m.w) × (0 < m.h)
    go true p = let k : cap m.north m.h ≡ cap n pole_height = rw p at e in let h : m.h ≡ pole_height = cc in (omega (arith, (m.round p).2), omega arith)
    go false p = let k : cell (frame_of m) (polar_box m) ≡ cap n pole_height = rw p at e in clash (cc)

module _ {spaced : Bool} {level : ℕ} {w : List ℕ} (o : OfLevel spaced level w) {n : Bool} (c : Cursor) (side : c.north ≡ n) (r : Result Cursor ℕ) (read : polar_reading r ≡ polar_read_to spaced c.north w 9) where
  -- a code of level 1 is read as a cap of two degrees
  flat : level ≡ 1 → polar_reading r ≡ ok (cap n pole_height)
  flat z = rw side at read ∙ none_read w o n z 9 (omega arith)

  -- any other as the rules read it
  deep : 1 < level → polar_reading r ≡ so_far n level (plane_in spaced level w)
  deep h = let x : min (9 + 1) level ≡ level = omega (arith, o.most) in rw side at read ∙ rw x at (all_levels w o n h 9 (omega arith) (omega arith))

  by_level : {A : Type 0} → (level ≡ 1 → A) → (1 < level → A) → A
  by_level {A} f g = go (eqb level 1) refl
    where
      go : (b : Bool) → eqb level 1 ≡ b → A
      go true e = f (eqb-true level 1 e)
      go false e = let k : level ≡ 1 → ⊥ = eqb-false level 1 e in g (omega (arith, o.some))

  pub some_cell : {m : Cursor} → r ≡ Ok m → (0 < m.w) × (0 < m.h)
  some_cell {m} q =
      by_level
      (λ z. let e : ok (node_of m) ≡ ok (cap n pole_height) = sym (ap polar_reading q) ∙ flat z in let g : node_of m ≡ cap n pole_height = cc in pole_some {n = n} m g)
      (λ h. good_some (drop level splits) m (so_far_good n level (plane_in spaced level w) o.some o.most (sym (deep h) ∙ ap polar_reading q)))

  pub cell_found : {m : Cursor} {d : Cell} → r ≡ Ok m → d ≡ cell_at level (node_of m) → accepted d ≡ later_read level (pole n) (plane_in spaced level w)
  unfolding plane_codes later_read so_far follow
  cell_found {m} {d} q e =
      by_level
      (λ z. let f : ok (node_of m) ≡ ok (cap n pole_height) = sym (ap polar_reading q) ∙ flat z in
      let g : node_of m ≡ cap n pole_height = cc in ap accepted (e ∙ ap (cell_at level) g) ∙ rw z refl)
      (λ h. ap accepted e ∙ ap (answer plane_codes (plane_in spaced level w) level) (sym (ap polar_reading q) ∙ deep h))

  -- a bad character is one of the code
  pub stopped_in : {p : ℕ} → r ≡ Err p → HasPlane spaced level w p
  unfolding so_far
  stopped_in {p} q =
      by_level
      (λ z. let e : bad p ≡ ok (cap n pole_height) = sym (ap polar_reading q) ∙ flat z in clash (cc))
      (λ h.
      record {
        some = o.some;
        most = o.most;
        long = o.long;
        character = later_inside level o.most (pole n) (plane_in spaced level w) p (pole_later level o.most n) (plane_long level w o.some o.most spaced o.long) (sym (deep h) ∙ ap polar_reading q);
      })

  pub bad_found : {p : ℕ} {x : Refusal} → r ≡ Err p → x ≡ wrong_character p (get_or w (stands_at spaced p) 0) → refused x ≡ later_read level (pole n) (plane_in spaced level w)
  unfolding plane_codes later_read so_far
  bad_found {p} q e =
      by_level
      (λ z. let f : bad p ≡ ok (cap n pole_height) = sym (ap polar_reading q) ∙ flat z in clash (cc))
      (λ h. ap refused (e ∙ ap (wrong_character p) (sym (has_same (stopped_in q)))) ∙ ap (answer plane_codes (plane_in spaced level w) level) (sym (ap polar_reading q) ∙ deep h))
