-- A plane code laid down each character at its place stands from the line's first byte on.
-- Assumes nothing.
use Rattle.std.proofs.Common.{◌≡◌, ℕ, false, List, refl}
use lib.Seq.{sets}
use Rattle.grid.specs.inner.Standing.{stands_at, spread}
use Rattle.grid.proofs.Standing.{spread_run}

pub plain : (w l : List ℕ) → spread (stands_at false) 0 w l ≡ sets l 0 w
plain w l = spread_run (stands_at false) 0 0 w l (λ i h. refl)
