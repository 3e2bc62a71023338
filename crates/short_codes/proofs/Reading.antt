-- The reader of short codes: each way out of its parts.
-- Assumes nothing.
use mathlib.Core.Path.{◌≡◌, refl, sym}
use mathlib.Core.List.{List, [], ◌∷◌, ◌++◌}
use Prim.Native.Nat.{ℕ, suc, ◌+◌, ◌-◌, ◌≤◌, ◌<◌}
use native.Mathlib.Omega.{arith}
use lib.Dec.{leb}
use lib.ListN.{length, drop, get_or, drop_of_length-le}
use lib.Seq.{drop-cons}
use borrow.Author.Tests.{lt-leb, le-leb, leb-true}
use Rattle.grid.specs.declared.Refusal.{Refusal}
use Rattle.grid.specs.Answers.{Answer, accepted, refused, refusal, and_then, wrong_length}
use Rattle.grid.specs.Plane.{cell_of}
use Rattle.grid.proofs.Answers.{unless_accepted}
use Rattle.places.specs.Finding.{found_in}
use Rattle.places.specs.declared.Spot.{Spot}
use Rattle.places.proofs.Finding.{found_among_law, found_badly, not_badly, missing_not_badly}
use Rattle.reference.specs.Text.{offset_in, target_text}
use Rattle.reference.specs.inner.Parts.{target_from}
use Rattle.reference.proofs.Spelling.{target_behind}
use Rattle.short_codes.specs.Text.{name_in, last_three, offset_of, code_at, short_text}
use Rattle.short_codes.specs.inner.Parts.{text_at, text_nowhere}

-- ---- the last three bytes

pub offset_short : (w : List ℕ) {r : Refusal} → length w < 4 → r ≡ wrong_length → refused r ≡ offset_of w
unfolding offset_of
offset_short w h e = rw (e, lt-leb 4 (length w) h)

module _ (w : List ℕ) where
  abbrev k : ℕ
  k = length w - 3

  pub offset_long : 4 ≤ length w → {a : Answer (ℕ × ℕ)} → a ≡ offset_in k (get_or w k 0) (get_or w (k + 1) 0) (get_or w (k + 2) 0) → a ≡ offset_of w
  unfolding offset_of
  offset_long h e = rw (e, le-leb 4 (length w) h)

  pub three : 4 ≤ length w → last_three w ≡ get_or w k 0 ∷ get_or w (k + 1) 0 ∷ get_or w (k + 2) 0 ∷ []
  three h =
      let one : k + 1 ≡ suc k = omega arith in
      let two : k + 2 ≡ suc (suc k) = omega arith in
      let none : drop (suc (suc (suc k))) w ≡ [] = drop_of_length-le w {i = suc (suc (suc k))} (omega arith) in
      rw (one, two, drop-cons w k 0 (omega arith), drop-cons w (suc k) 0 (omega arith), drop-cons w (suc (suc k)) 0 (omega arith), none) refl

-- what M and N lead to from a base's code is what the reference reader gives for both
pub target_is : (w c : List ℕ) (o : ℕ × ℕ) → offset_of w ≡ accepted o → target_text (c ++ last_three w) ≡ target_from (cell_of c) o.0 o.1
unfolding offset_of
target_is w c o e =
    let u = unless_accepted (leb 4 (length w)) _ _ o e in
    let x = length w - 3 in
    rw (three w (leb-true 4 (length w) u.0)) (target_behind c x (get_or w x 0) (get_or w (x + 1) 0) (get_or w (x + 2) 0) o u.1)

-- ---- what a name leads to decides what is left to ask

module _ (w s : List ℕ) where
  pub short_at : (p : Spot) → found_in (name_in w) s ≡ accepted p → text_at s p (offset_of w) ≡ short_text w s
  unfolding short_text
  short_at p e =
      let f = found_among_law (name_in w) s (accepted p) not_badly e in
      rw (f.read, f.among) (go (offset_of w) refl)
    where
      go : (o : Answer (ℕ × ℕ)) → offset_of w ≡ o → text_at s p o ≡ and_then o (λ x. target_text (code_at s p ++ last_three w))
      go (accepted x) u = sym (target_is w (code_at s p) x u)
      go (refused r) u = refl

  pub short_badly : found_in (name_in w) s ≡ refused (refusal 21 0) → refused (refusal 21 0) ≡ short_text w s
  unfolding short_text
  short_badly e = rw (found_badly (name_in w) s e)

  pub short_nowhere : found_in (name_in w) s ≡ refused (refusal 22 0) → text_nowhere (offset_of w) ≡ short_text w s
  unfolding short_text
  short_nowhere e =
      let f = found_among_law (name_in w) s (refused (refusal 22 0)) missing_not_badly e in
      rw (f.read, f.among)
