-- The plane characters and the height characters laid down each at its place are the space code, woven; and no two of them have one place.
-- Assumes nothing.
use mathlib.Core.Path.{◌≡◌, refl, sym, subst}
use mathlib.Core.Bool.{Bool, true, false, cond}
use mathlib.Core.List.{List, ◌++◌, map}
use Prim.Native.Nat.{ℕ, zero, suc, ◌+◌, ◌-◌, ◌≤◌, ◌<◌}
use native.Mathlib.Omega.{arith}
use lib.Dec.{eqb}
use lib.ListN.{length, take, drop, get_or, take-append-drop}
use lib.Seq.{sets, take_all}
use borrow.Author.Tests.{eqb-true, eqb-false}
use Rattle.grid.specs.Splits.{split_at}
use Rattle.grid.specs.Space.{space_lengths}
use Rattle.grid.specs.inner.Standing.{plane_place, height_place, count_from, spread, spread_back}
use Rattle.grid.proofs.Cut.{below}
use Rattle.grid.proofs.Standing.{listed}
use Rattle.space.specs.inner.Weave.{weave}
use Rattle.space.specs.inner.Parts.{ten_strands}

-- a rule at each number below n, shown one by one
abbrev Each : (ℕ → Type 0) → ℕ → Type 0
Each P zero = Unit {0}
Each P (suc n) = P n × Each P n

each : (P : ℕ → Type 0) (n k : ℕ) → Each P n → k < n → P k
each P zero k e h = absurd (omega arith)
each P (suc n) k e h = go (each P n k e.1) (eqb k n) refl
  where
    go : (k < n → P k) → (q : Bool) → eqb k n ≡ q → P k
    go r true p = subst P (sym (eqb-true k n p)) e.0
    go r false p = let d : ¬ (k ≡ n) = eqb-false k n p in r (omega arith)

-- both parts of a code of level l, laid into a line, are the code from the line's first byte on
abbrev Both : ℕ → List ℕ → List ℕ → List ℕ → Type 0
Both l a b line = spread_back height_place 0 b (spread plane_place 0 a line) ≡ sets line 0 (weave (take l ten_strands) a b)

pub both_spread : (l : ℕ) (a b line : List ℕ) → 1 ≤ l → l ≤ 10 → length a ≡ (split_at (l - 1)).length → length b ≡ 2 + l → get_or space_lengths (l - 1) 0 ≤ length line → Both l a b line
unfolding weave plane_place height_place
both_spread zero a b line low high la lb room = absurd (omega arith)
both_spread (suc l) a b line low high la lb room =
    let n : ℕ → ℕ = λ k. (split_at (suc k - 1)).length in
    let m : ℕ → ℕ = λ k. get_or space_lengths (suc k - 1) 0 in
    let P : ℕ → Type 0 = λ k. Both (suc k) (map (λ p. get_or a p 0) (count_from 0 (n k))) (map (λ p. get_or b p 0) (count_from 0 (2 + suc k))) (map (λ p. get_or line p 0) (count_from 0 (m k)) ++ drop (m l) line) in
    rw (
      ← listed (n l) a (omega arith),
      ← listed (2 + suc l) b (omega arith),
      ← listed (m l) line room,
      take_all (n l) a (omega arith),
      take_all (2 + suc l) b (omega arith),
      take-append-drop (m l) line,
    ) at (each P 10 l (refl, (refl, (refl, (refl, (refl, (refl, (refl, (refl, (refl, (refl, tt)))))))))) (omega arith))

-- how many of the first n characters of a part stand at a place
abbrev many : (ℕ → ℕ) → ℕ → ℕ → ℕ
many place q zero = 0
many place q (suc n) = cond (eqb (place n) q) 1 0 + many place q n

-- of the 20 plane characters and the 12 height characters, one stands at each of the 32 places of the longest code: no byte is written twice
pub each_place_once : (q : ℕ) → q < 32 → many plane_place q 20 + many height_place q 12 ≡ 1
unfolding plane_place height_place
each_place_once q h = eqb-true _ _ (below (λ q. eqb (many plane_place q 20 + many height_place q 12) 1) 32 q refl h)
