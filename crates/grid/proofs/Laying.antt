-- What holds of every writer, by the one definition of laying a text down.
-- Assumes nothing.
use Rattle.std.proofs.Common.{◌≡◌, ℕ, ◌+◌, ◌-◌, ◌<◌, ◌≤◌, Bool, true, false, leb, List, ◌++◌, length, take, drop, sym, refl, ap, ◌∙◌, subst, append_assoc, append-nil, zero-add, arith, length-drop, drop_of_length-le, length-take-le, take_all, drop-drop, take_at, drop_at, le-leb, leb-true}
use Rattle.std.specs.Prelude.{Result, Ok, Err, IsErr, IsErrAnd}
use lib.Seq.{sets, sets-eq}
use borrow.Rule.Slice.PartMut.{put_mid}
use borrow.Author.Tests.{lt-leb}
use Rattle.grid.specs.declared.Refusal.{Refusal}
use Rattle.grid.specs.Answers.{Answer, accepted, refused, answer_of}
use Rattle.grid.specs.Laying.{no_room, laid_if, laid, LaidDown}
use Rattle.grid.proofs.Answers.{handed_on}
use Rattle.grid.proofs.Cut.{clash}

-- ---- two results that one contract allows are equal

pub answer_one : {C : Type 0} (a b : Result C Refusal) → answer_of a ≡ answer_of b → a ≡ b
answer_one (Ok c) (Ok d) e = cc
answer_one (Ok c) (Err r) e = clash (cc)
answer_one (Err r) (Ok d) e = clash (cc)
answer_one (Err r) (Err q) e = cc

-- a writer's answer and line are determined
pub laid_one : (t : Answer (List ℕ)) (line : List ℕ) (at : ℕ) (a b : Result ℕ Refusal) (k l : List ℕ) → (answer_of a, k) ≡ laid t line at → (answer_of b, l) ≡ laid t line at → (a ≡ b) × (k ≡ l)
laid_one t line at a b k l e f =
    let z : ◌≡◌ {A = Answer ℕ × List ℕ} (answer_of a, k) (answer_of b, l) = e ∙ sym f in
    (answer_one a b (ap (λ (x : Answer ℕ × List ℕ). x.0) z), ap (λ (x : Answer ℕ × List ℕ). x.1) z)

-- ---- a refusal changes no byte

pub refused_stays : (t : Answer (List ℕ)) (line : List ℕ) (at : ℕ) (r : Refusal) → (laid t line at).0 ≡ refused r → (laid t line at).1 ≡ line
unfolding laid
refused_stays (refused q) line at r e = refl
refused_stays (accepted w) line at r e = go (leb (at + length w) (length line)) e
  where
    go : (q : Bool) → (laid_if q w line at).0 ≡ refused r → (laid_if q w line at).1 ≡ line
    go true e = clash (cc)
    go false e = refl

-- ---- a success lays the whole text down, and the bytes before it and after it stay

pub accepted_lays : (w line : List ℕ) (at n : ℕ) → (laid (accepted w) line at).0 ≡ accepted n → LaidDown w line at n (laid (accepted w) line at).1
unfolding laid
accepted_lays w line at n e = go (leb (at + length w) (length line)) refl e
  where
    go : (q : Bool) → leb (at + length w) (length line) ≡ q → (laid_if q w line at).0 ≡ accepted n → LaidDown w line at n (laid_if q w line at).1
    go true p e =
        let l : length w ≡ n = cc in
        let h : at + length w ≤ length line = leb-true _ _ p in
        let a : length (take at line) ≡ at = length-take-le at line (omega arith) in
        let r = drop (at + length w) line in
        let s : take at line ++ w ++ r ≡ take at line ++ (w ++ r) = append_assoc (take at line) w r in
        let d : drop at (take at line ++ w ++ r) ≡ w ++ r = ap (drop at) s ∙ drop_at (take at line) (w ++ r) at a in
        record {
          long = l;
          room = subst (λ (k : ℕ). at + k ≤ length line) l h;
          before = ap (take at) s ∙ take_at (take at line) (w ++ r) at a;
          there = ap (take n) d ∙ take_at w r n l;
          behind = sym (drop-drop n at _) ∙ ap (drop n) d ∙ drop_at w r n l ∙ ap (λ (k : ℕ). drop (at + k) line) l;
        }
    go false p e = clash (cc)

-- ---- the three ways to answer

pub laid_refused : {t : Answer (List ℕ)} {r : Refusal} (line : List ℕ) (at : ℕ) → t ≡ refused r → (answer_of (Err r), line) ≡ laid t line at
unfolding laid
laid_refused line at e = rw e refl

-- the same, where `?` handed the refusal on
pub laid_handed : {t : Answer (List ℕ)} {r : Refusal} (a : Result ℕ Refusal) (line : List ℕ) (at : ℕ) → IsErr a × IsErrAnd a (λ q. q ≡ r) → t ≡ refused r → (answer_of a, line) ≡ laid t line at
laid_handed a line at h e = rw (handed_on a h) (laid_refused line at e)

pub laid_no_room : {t : Answer (List ℕ)} {w : List ℕ} (line : List ℕ) (at n : ℕ) → t ≡ accepted w → length w ≡ n → length line < at + n → (answer_of (Err no_room), line) ≡ laid t line at
unfolding laid
laid_no_room line at n e l h = rw (e, l, lt-leb (at + n) (length line) h) refl

pub laid_bytes : {t : Answer (List ℕ)} {w : List ℕ} (line : List ℕ) (at n : ℕ) → t ≡ accepted w → length w ≡ n → at + n ≤ length line → (answer_of (Ok n), take at line ++ w ++ drop (at + n) line) ≡ laid t line at
unfolding laid
laid_bytes {t} {w} line at n e l h =
    subst (λ (k : ℕ). (answer_of (Ok k), take at line ++ w ++ drop (at + k) line) ≡ laid t line at) l
    (rw (e, le-leb (at + length w) (length line) (omega arith)) refl)

-- ---- the line lent on from a place: what is stored from the start of the part stands in the whole line

pub part_stored : (old : List ℕ) (at : ℕ) (w : List ℕ) → at + length w ≤ length old
    → put_mid at (length old - at) old (sets (take (length old - at) (drop at old)) 0 w) ≡ take at old ++ w ++ drop (at + length w) old
part_stored old at w h =
    let whole : take (length old - at) (drop at old) ≡ drop at old = take_all (length old - at) (drop at old) (rw length-drop (omega arith)) in
    let room : 0 + length w ≤ length (drop at old) = rw length-drop (omega arith) in
    rw (
      whole,
      sets-eq w (drop at old) 0 room,
      zero-add,
      drop-drop (length w) at old,
      drop-drop (length old - at) at old,
      drop_of_length-le old {i = at + (length old - at)} (omega arith),
      append-nil (w ++ drop (at + length w) old),
    )
    (sym (append_assoc (take at old) w (drop (at + length w) old)))

pub laid_lent : {t : Answer (List ℕ)} {w last : List ℕ} (line : List ℕ) (at n : ℕ) → t ≡ accepted w → length w ≡ n → at ≤ length line → n ≤ length line - at
    → last ≡ sets (take (length line - at) (drop at line)) 0 w → (answer_of (Ok n), put_mid at (length line - at) line last) ≡ laid t line at
laid_lent {t} {w} line at n e l ha hn s =
    let f : at + n ≤ length line = omega arith in
    rw (s, part_stored line at w (omega arith), l) (laid_bytes line at n e l f)

pub laid_past : {t : Answer (List ℕ)} {w : List ℕ} (line : List ℕ) (at n : ℕ) → t ≡ accepted w → length w ≡ n → length line < at → (answer_of (Err no_room), line) ≡ laid t line at
laid_past line at n e l h = laid_no_room line at n e l (omega arith)

pub laid_short : {t : Answer (List ℕ)} {w : List ℕ} (line : List ℕ) (at n : ℕ) → t ≡ accepted w → length w ≡ n → at ≤ length line → length line - at < n → (answer_of (Err no_room), line) ≡ laid t line at
laid_short line at n e l h k = laid_no_room line at n e l (omega arith)

-- the same, where the refusal is known by an equation
pub laid_past_by : {t : Answer (List ℕ)} {w : List ℕ} {r : Refusal} (line : List ℕ) (at n : ℕ) → r ≡ no_room → t ≡ accepted w → length w ≡ n → length line < at → (answer_of (Err r), line) ≡ laid t line at
laid_past_by line at n q e l h = rw q (laid_past line at n e l h)

pub laid_short_by : {t : Answer (List ℕ)} {w : List ℕ} {r : Refusal} (line : List ℕ) (at n : ℕ) → r ≡ no_room → t ≡ accepted w → length w ≡ n → at ≤ length line → length line - at < n
    → (answer_of (Err r), line) ≡ laid t line at
laid_short_by line at n q e l h k = rw q (laid_short line at n e l h k)

-- the same, where what is left of the line from the place on is counted: none past its end
pub laid_narrow_by : {t : Answer (List ℕ)} {w : List ℕ} {r : Refusal} (line : List ℕ) (at n : ℕ) → r ≡ no_room → t ≡ accepted w → length w ≡ n → length line - at < n → (answer_of (Err r), line) ≡ laid t line at
laid_narrow_by line at n q e l h = rw q (laid_no_room line at n e l (omega arith))
