-- The edition that is asked for: 1, 2, or 13. Assumes nothing.
use mathlib.Core.Path.{◌≡◌, refl, sym, ◌∙◌, ap}
use Prim.Native.Nat.{ℕ}
use lib.IntN.{ℤ, pos, negsuc}
use mir.Syntax.{w64}
use mir.Val.{SFits, to_z, of_z}
use mir.Facts.{to_z-of_z}
use borrow.Author.Tests.{ne_eqb}
use Rattle.grid.specs.Answers.{accepted, refused, refusal}
use Rattle.grid.specs.Layers.{ours, theirs, edition_in}

-- as the code sees it
module _ (z : ℤ) (f : SFits w64 z) where
  held : (n : ℕ) → of_z w64 z ≡ n → z ≡ to_z w64 n
  held n e = sym (to_z-of_z f) ∙ ap (to_z w64) e

  pub is_one : of_z w64 z ≡ 1 → accepted ours ≡ edition_in z
  unfolding edition_in
  is_one e = rw (held 1 e) refl

  pub is_two : of_z w64 z ≡ 2 → accepted theirs ≡ edition_in z
  unfolding edition_in
  is_two e = rw (held 2 e) refl

neither : (z : ℤ) → (z ≡ pos 1 → ⊥) → (z ≡ pos 2 → ⊥) → refused (refusal 13 0) ≡ edition_in z
unfolding edition_in
neither (pos n) a b = rw (ne_eqb n 1 (λ e. a (rw e refl)), ne_eqb n 2 (λ e. b (rw e refl))) refl
neither (negsuc n) a b = refl

pub is_neither : (z : ℤ) → (of_z w64 z ≡ 1 → ⊥) → (of_z w64 z ≡ 2 → ⊥) → refused (refusal 13 0) ≡ edition_in z
is_neither z a b = neither z (λ e. a (ap (of_z w64) e)) (λ e. b (ap (of_z w64) e))
