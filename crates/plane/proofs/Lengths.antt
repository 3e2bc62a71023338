-- Lengths and levels: the table's lengths, both ways. Assumes nothing.
use Rattle.std.proofs.Common.{◌≡◌, ℕ, ◌<◌, ◌≤◌, List, [], ◌∷◌, map, get_or, sym, refl, ap, ◌∙◌, arith}
use Rattle.grid.specs.Splits.{splits}
use Rattle.grid.proofs.Cut.{Entry, tabled}
use Rattle.grid.proofs.Lengths.{no_place}
use Rattle.std.proofs.Math.Option.{Option, some, none}
use Rattle.std.specs.Prelude.{Some, None}
use Rattle.grid.specs.Codes.{place_in}
use Rattle.grid.specs.Plane.{plane_codes}
use Rattle.grid.proofs.Families.{level_length}
use Rattle.grid.proofs.Theorems.{plane_sound}
use Rattle.plane.specs.inner.Lengths.{found, level_of}

-- the list of LEVELS
abbrev pub levels : List ℕ
levels = 0 ∷ 0 ∷ 0 ∷ 0 ∷ 1 ∷ 0 ∷ 2 ∷ 3 ∷ 0 ∷ 4 ∷ 0 ∷ 5 ∷ 6 ∷ 0 ∷ 7 ∷ 0 ∷ 8 ∷ 0 ∷ 9 ∷ 0 ∷ 10 ∷ []

abbrev lengths : List ℕ
lengths = map (λ t. t.length) splits

-- the place that was found, or 0
abbrev pub or_zero : Option ℕ → ℕ
or_zero none = 0
or_zero (some l) = l

-- the level of a length as the list has it, 0 where there is none
abbrev pub number : ℕ → ℕ
number n = or_zero (place_in n 1 lengths)

pub level_at : (n : ℕ) → n < 21 → Entry (get_or levels n 0) (number n)
level_at n h = tabled levels number 21 n refl h

pub level_none : (n : ℕ) → 21 ≤ n → None ≡ level_of n
unfolding level_of
level_none n h = sym (ap found (no_place 21 n 1 lengths refl h))

-- what a number of the list says, as the code hands it back
module _ (n : ℕ) {l : ℕ} (e : l ≡ number n) where
  pub level_some : (l ≡ 0 → ⊥) → Some l ≡ level_of n
  unfolding level_of
  level_some h = go (place_in n 1 lengths) refl
    where
      go : (o : Option ℕ) → place_in n 1 lengths ≡ o → Some l ≡ found (place_in n 1 lengths)
      go none p = absurd (h (e ∙ ap or_zero p))
      go (some k) p = ap Some (e ∙ ap or_zero p) ∙ sym (ap found p)

  pub level_no : l ≡ 0 → None ≡ level_of n
  unfolding level_of plane_codes
  level_no h = go (place_in n 1 lengths) refl
    where
      go : (o : Option ℕ) → place_in n 1 lengths ≡ o → None ≡ found (place_in n 1 lengths)
      go none p = sym (ap found p)
      go (some k) p = let t = level_length plane_codes plane_sound n k p in let z : l ≡ k = e ∙ ap or_zero p in absurd (omega (arith, t.0))
