-- The levels and lengths of space codes, each held to its rule by one computed test.
-- Assumes nothing.
use mathlib.Core.Path.{◌≡◌, refl, sym, ◌∙◌, ap}
use mathlib.Core.List.{List, [], ◌∷◌}
use Prim.Native.Nat.{ℕ, zero, suc, ◌+◌, ◌-◌, ◌≤◌, ◌<◌}
use native.Mathlib.Omega.{arith}
use lib.Dec.{eqb, leb}
use lib.ListN.{get_or}
use borrow.Author.Tests.{eqb-true, leb-true}
use Rattle.grid.specs.Space.{space_lengths}
use Rattle.grid.specs.Codes.{place_in}
use Rattle.grid.specs.Splits.{split_at}
use Rattle.grid.proofs.Cut.{Entry, tabled, below}
use Rattle.grid.proofs.Lengths.{no_place}
use Rattle.plane.specs.inner.Lengths.{found}
use Rattle.plane.proofs.Lengths.{or_zero}
use Rattle.std.proofs.Common.{◌⊎◌, inl, inr}
use Rattle.std.specs.Prelude.{Some, None}
use Rattle.std.proofs.Math.Option as maybe
use Rattle.std.proofs.Math.Option.{some, none}
use Rattle.grid.specs.Layers.{ours}
use Rattle.grid.specs.Space.{space_codes}
use Rattle.grid.proofs.Families.{level_length}
use Rattle.grid.proofs.Theorems.{ours_fair, space_sound}
use Rattle.space.specs.inner.Parts.{space_level_of}

abbrev pub levels : List ℕ
levels =
    0 ∷ 0 ∷ 0 ∷ 0 ∷ 0 ∷ 0 ∷ 0 ∷ 1 ∷ 0 ∷ 0 ∷ 2 ∷ 0 ∷ 3 ∷ 0 ∷ 0 ∷ 4 ∷ 0 ∷ 0 ∷ 5 ∷ 0 ∷ 6 ∷ 0 ∷ 0 ∷ 7 ∷ 0 ∷ 0 ∷ 8 ∷ 0 ∷ 0 ∷ 9 ∷ 0 ∷ 0 ∷ 10 ∷ []

-- each entry is the level, or 0
entry : (n : ℕ) → n < 33 → Entry (get_or levels n 0) (or_zero (place_in n 1 space_lengths))
entry n h = tabled levels (λ n. or_zero (place_in n 1 space_lengths)) 33 n refl h

pub level_at : (n : ℕ) → n < 33 → 0 < get_or levels n 0 → Some (get_or levels n 0) ≡ space_level_of n
unfolding space_level_of
level_at n h l = go (place_in n 1 space_lengths) (entry n h).same
  where
    go : (o : maybe.Option ℕ) → get_or levels n 0 ≡ or_zero o → Some (get_or levels n 0) ≡ found o
    go none e = absurd (omega arith)
    go (some k) e = ap Some e

-- no level is 0
pub level_none : (n : ℕ) → (33 ≤ n) ⊎ (n < 33 × (get_or levels n 0 ≡ 0)) → None ≡ space_level_of n
unfolding space_level_of space_codes
level_none n (inl h) = ap found (sym (no_place 33 n 1 space_lengths refl h))
level_none n (inr h) = go (place_in n 1 space_lengths) refl
  where
    go : (o : maybe.Option ℕ) → place_in n 1 space_lengths ≡ o → None ≡ found o
    go none p = refl
    go (some k) p =
        let z : get_or levels n 0 ≡ k = (entry n h.0).same ∙ ap or_zero p in
        absurd (omega (arith, h.1, z, (level_length (space_codes ours) (space_sound ours ours_fair) n k p).0))

-- a space code is as long as its plane code and two more than its level
pub length_at : (l : ℕ) → 1 ≤ l → l ≤ 10 → (split_at (l - 1)).length + 2 + l ≡ get_or space_lengths (l - 1) 0
length_at zero a b = absurd (omega arith)
length_at (suc l) a b = eqb-true _ _ (below (λ l. eqb ((split_at (suc l - 1)).length + 2 + suc l) (get_or space_lengths (suc l - 1) 0)) 10 l refl (omega arith))

pub length_few : (l : ℕ) → 1 ≤ l → l ≤ 10 → (split_at (l - 1)).length ≤ 20
length_few zero a b = absurd (omega arith)
length_few (suc l) a b = leb-true _ 20 (below (λ l. leb (split_at (suc l - 1)).length 20) 10 l refl (omega arith))
