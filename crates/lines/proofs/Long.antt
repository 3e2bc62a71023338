-- A line of 21 bytes or more is refused 6, whatever it holds: no plane code is as long.
-- Assumes nothing.
use mathlib.Core.Path.{◌≡◌, refl, ap}
use mathlib.Core.Bool.{Bool, true, ◌&&◌}
use mathlib.Core.List.{List, [], ◌∷◌}
use mathlib.Core.Option.{none}
use Prim.Native.Nat.{ℕ, suc, ◌≤◌}
use native.Mathlib.Omega.{arith}
use lib.Dec.{leb}
use lib.ListN.{length}
use borrow.Author.Tests.{ne_eqb, leb-true}
use Rattle.grid.specs.Answers.{refused, wrong_length}
use Rattle.grid.specs.Codes.{place_in, answer_at, read_in}
use Rattle.grid.specs.Plane.{plane_codes, cell_of}
use Rattle.grid.proofs.Cut.{and_true}
use Rattle.lines.specs.Filling.{KEPT}

-- each length is below 21
short : List ℕ → Bool
short [] = true
short (x ∷ xs) = leb x 20 && short xs

none_in : (n k : ℕ) (xs : List ℕ) → KEPT ≤ n → short xs ≡ true → place_in n k xs ≡ none
unfolding short
none_in n k [] h t = refl
none_in n k (x ∷ xs) h t =
    let b = and_true (leb x 20) (short xs) t in
    rw (ne_eqb n x (λ e. omega (arith, leb-true x 20 b.0))) (none_in n (suc k) xs h b.1)

pub long_refused : (w : List ℕ) → KEPT ≤ length w → cell_of w ≡ refused wrong_length
unfolding cell_of read_in plane_codes short
long_refused w h = ap (answer_at plane_codes w) (none_in (length w) 1 plane_codes.lengths h refl)
