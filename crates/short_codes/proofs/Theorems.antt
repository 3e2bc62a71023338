-- What is asked of short codes: each answer exactly when its reason holds, in the paper's order; and what is read is what the reference reader gives
-- for the place's code.
-- Assumes nothing.
use mathlib.Core.Path.{◌≡◌, refl, sym, ◌∙◌, ap, subst}
use mathlib.Core.Bool.{Bool, true, false}
use mathlib.Core.List.{List, ◌++◌}
use mathlib.Core.Logic.{◌↔◌}
use Prim.Native.Nat.{ℕ, ◌+◌, ◌-◌, ◌≤◌, ◌<◌}
use lib.Dec.{leb, eqb}
use lib.ListN.{length, get_or}
use borrow.Author.Tests.{lt-leb, le-leb, leb-true, leb-false, eqb-true, eqb-false, eq-eqb, ne_eqb}
use Rattle.grid.specs.Answers.{Answer, accepted, refused, unless, wrong_length, wrong_at}
use Rattle.grid.specs.Characters.{digit_of}
use Rattle.places.specs.Book.{WellFormed}
use Rattle.places.specs.Reading.{Bytes}
use Rattle.places.specs.Finding.{found_in}
use Rattle.places.specs.Meaning.{Named, spot_of, WhyFound, badly_formed, not_in_book, in_book}
use Rattle.places.proofs.Finding.{found_named, code_bytes}
use Rattle.places.proofs.Theorems.{found_exactly_when}
use Rattle.reference.specs.Offsets.{offset_digit}
use Rattle.reference.specs.Text.{HYPHEN, offset_in, target_text}
use Rattle.short_codes.specs.Text.{name_in, last_three, offset_of, code_at, short_text}
use Rattle.short_codes.specs.Meaning.{OffsetAt, FirstWrong, no_hyphen, no_m, no_n, Short, WhyShort, badly, six, wrong, nowhere, somewhere}
use Rattle.short_codes.specs.inner.Parts.{text_at}
use Rattle.short_codes.proofs.Reading.{short_at, short_badly, short_nowhere, target_is}

-- ---- the last three bytes: right, or wrong at a first place

-- what they are read as
pub data WhyOffset (w : List ℕ) : Answer (ℕ × ℕ) → Type 0 where
  few : length w < 4 → WhyOffset w (refused wrong_length)
  bad : {p : ℕ} → 4 ≤ length w → FirstWrong w p → WhyOffset w (refused (wrong_at w p))
  right : {o : ℕ × ℕ} → Short w → WhyOffset w (accepted o)

module _ (w : List ℕ) where
  abbrev k : ℕ
  k = length w - 3

  why_three : 4 ≤ length w → WhyOffset w (offset_in k (get_or w k 0) (get_or w (k + 1) 0) (get_or w (k + 2) 0))
  unfolding offset_in
  why_three l = go (eqb (get_or w k 0) HYPHEN) refl (offset_digit (digit_of (get_or w (k + 1) 0))) refl (offset_digit (digit_of (get_or w (k + 2) 0))) refl
    where
      go : (q : Bool) → eqb (get_or w k 0) HYPHEN ≡ q → (u : Bool) → OffsetAt w (k + 1) u → (v : Bool) → OffsetAt w (k + 2) v
          → WhyOffset w (unless q (wrong_at w k) (unless u (wrong_at w (k + 1)) (unless v (wrong_at w (k + 2)) (accepted (digit_of (get_or w (k + 1) 0), digit_of (get_or w (k + 2) 0))))))
      go false e u m v n = bad l (no_hyphen (eqb-false (get_or w k 0) HYPHEN e))
      go true e false m v n = bad l (no_m (eqb-true (get_or w k 0) HYPHEN e) m)
      go true e true m false n = bad l (no_n (eqb-true (get_or w k 0) HYPHEN e) m n)
      go true e true m true n = right (record { long = l; hyphen = eqb-true (get_or w k 0) HYPHEN e; m = m; n = n })

  why_offset : WhyOffset w (offset_of w)
  unfolding offset_of
  why_offset = go (leb 4 (length w)) refl
    where
      go : (q : Bool) → leb 4 (length w) ≡ q → WhyOffset w (unless q wrong_length (offset_in k (get_or w k 0) (get_or w (k + 1) 0) (get_or w (k + 2) 0)))
      go true e = why_three (leb-true 4 (length w) e)
      go false e = few (leb-false 4 (length w) e)

  -- M and N of a short code
  abbrev both : ℕ × ℕ
  both = (digit_of (get_or w (k + 1) 0), digit_of (get_or w (k + 2) 0))

  offset_few : length w < 4 → offset_of w ≡ refused wrong_length
  unfolding offset_of
  offset_few h = rw (lt-leb 4 (length w) h)

  offset_right : Short w → offset_of w ≡ accepted both
  unfolding offset_of offset_in
  offset_right x = rw (le-leb 4 (length w) x.long, eq-eqb (get_or w k 0) 45 x.hyphen, x.m, x.n)

  offset_bad : {p : ℕ} → 4 ≤ length w → FirstWrong w p → offset_of w ≡ refused (wrong_at w p)
  unfolding offset_of offset_in
  offset_bad l (no_hyphen h) = rw (le-leb 4 (length w) l, ne_eqb (get_or w k 0) 45 h)
  offset_bad l (no_m h m) = rw (le-leb 4 (length w) l, eq-eqb (get_or w k 0) 45 h, m)
  offset_bad l (no_n h m n) = rw (le-leb 4 (length w) l, eq-eqb (get_or w k 0) 45 h, m, n)

-- ---- each answer exactly when its reason holds

module _ (w s : List ℕ) (bytes : Bytes s) where
  -- what the name leads to
  leads : {a : Answer _} → WhyFound (name_in w) s a → found_in (name_in w) s ≡ a
  leads {a} y = (found_exactly_when (name_in w) s bytes a).1 y

  -- the code at the spot where an entry stands is its own
  code_there : (x : Named (name_in w) s) → code_at s (spot_of x) ≡ x.entry.code
  code_there x = code_bytes x

  read_named : (x : Named (name_in w) s) → text_at s (spot_of x) (offset_of w) ≡ short_text w s
  read_named x = short_at w s (spot_of x) (found_named x)

  because : {a : Answer (List ℕ)} → short_text w s ≡ a → WhyShort w s a → WhyShort w s (short_text w s)
  because e y = subst (WhyShort w s) (sym e) y

  text_named : (x : Named (name_in w) s) → Short w → short_text w s ≡ target_text (x.entry.code ++ last_three w)
  text_named x y =
      sym (read_named x) ∙ rw (offset_right w y) (sym (target_is w (code_at s (spot_of x)) (both w) (offset_right w y)))
      ∙ ap (λ (c : List ℕ). target_text (c ++ last_three w)) (code_there x)

  -- the short code's own refusal, whatever its name leads to in a well-formed book
  text_refused : {a : Answer _} → WhyFound (name_in w) s a → (WellFormed s) → (r : _) → offset_of w ≡ refused r → short_text w s ≡ refused r
  text_refused (badly_formed n) f r e = absurd (n f)
  text_refused (not_in_book g n) f r e = sym (short_nowhere w s (leads (not_in_book g n))) ∙ rw e
  text_refused (in_book x) f r e = sym (read_named x) ∙ rw e

  formed_named : Named (name_in w) s → WellFormed s
  formed_named x = (_, x.book)

  name_why : WhyFound (name_in w) s (found_in (name_in w) s)
  name_why = (found_exactly_when (name_in w) s bytes (found_in (name_in w) s)).0 refl

  why_formed : {a : Answer _} → WhyFound (name_in w) s a → WellFormed s → {o : Answer (ℕ × ℕ)} → offset_of w ≡ o → WhyOffset w o → WhyShort w s (short_text w s)
  why_formed y f e (few l) = because (text_refused y f _ e) (six f l)
  why_formed y f e (bad l p) = because (text_refused y f _ e) (wrong f l p)
  why_formed (badly_formed n) f e (right z) = absurd (n f)
  why_formed (not_in_book g n) f e (right z) = because (sym (short_nowhere w s (leads (not_in_book g n))) ∙ rw e) (nowhere g z n)
  why_formed (in_book x) f e (right z) = because (text_named x z) (somewhere z x refl)

  why : {a : Answer _} → WhyFound (name_in w) s a → WhyShort w s (short_text w s)
  why (badly_formed n) = because (sym (short_badly w s (leads (badly_formed n)))) (badly n)
  why (not_in_book g n) = why_formed (not_in_book g n) g refl (why_offset w)
  why (in_book x) = why_formed (in_book x) (formed_named x) refl (why_offset w)

  reason : {a : Answer (List ℕ)} → WhyShort w s a → short_text w s ≡ a
  reason (badly n) = sym (short_badly w s (leads (badly_formed n)))
  reason (six f l) = text_refused name_why f _ (offset_few w l)
  reason (wrong f l p) = text_refused name_why f _ (offset_bad w l p)
  reason (nowhere f z n) = sym (short_nowhere w s (leads (not_in_book f n))) ∙ rw (offset_right w z)
  reason (somewhere z x e) = text_named x z ∙ e

  pub short_exactly_when : (a : Answer (List ℕ)) → (short_text w s ≡ a) ↔ WhyShort w s a
  short_exactly_when a = (λ e. subst (WhyShort w s) e (why name_why), reason)
