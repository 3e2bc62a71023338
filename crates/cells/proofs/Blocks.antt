-- A block, part after part: what the returns of `print_last` and `print_block` need.
-- Assumes nothing.
use mathlib.Core.Path.{◌≡◌, refl}
use mathlib.Core.Bool.{true, false}
use mathlib.Core.List.{List, [], ◌∷◌, ◌++◌}
use Prim.Native.Nat.{ℕ, ◌+◌, ◌-◌, ◌≤◌}
use native.Mathlib.Omega.{arith}
use Rattle.std.specs.Prelude.{Option}
use Rattle.std.specs.Io.KnownBytes.{Appends}
use Rattle.cells.proofs.Bytes.{appends_none, appends_then}
use lib.ListN.{length, take, drop, length-drop}
use lib.Seq.{take_all}
use Rattle.lines.specs.Filling.{Work, fill}
use Rattle.lines.specs.Run.{emptied, Printing, none, part, Through}
use Rattle.lines.specs.inner.Buffers.{Laid}
use Rattle.lines.proofs.Laying.{laid_length}
use Rattle.lines.proofs.Theorems.{take_sets}

-- what was laid down at the output's beginning is what is handed over of it
pub laid_taken : {l m text : List ℕ} {n : ℕ} → Laid l 0 text n m → n ≤ length m → take n m ≡ text
laid_taken {l} {m} {text} {n} p h =
    let e : n ≡ 0 + length text = p.ends in
    let k : length m ≡ length l = laid_length p in
    rw (e, p.stands) (take_sets l 0 text (omega arith))

-- what is left behind the bytes that were used
pub left_behind : (rest : List ℕ) {used n : ℕ} → used ≡ n → n ≤ length rest → take (length rest - used) (drop used rest) ≡ drop n rest
left_behind rest {n = n} e h = rw (e, take_all (length rest - n) (drop n rest) (omega (arith, length-drop n rest)))

-- where `rest` is left of a block: this was printed until here, and a writer has it behind what it had
pub record Came (w : Work) (block : List ℕ) (to₀ : Option (List ℕ)) (rest : List ℕ) (v : Work) (to : Option (List ℕ)) : Type 0 where
  pub output : List ℕ
  pub printing : Printing w block v rest output
  pub written : Appends to₀ to output

pub begins : (w : Work) (block : List ℕ) (to : Option (List ℕ)) → Came w block to block w to
begins w block to = record { output = []; printing = none; written = appends_none to }

module _ {w v : Work} {block rest : List ℕ} {to₀ to : Option (List ℕ)} (g : Came w block to₀ rest v to) {u : Work} (e : u ≡ emptied (fill v rest)) where
  -- one part more is filled in and handed over
  pub goes_on : {to₁ : Option (List ℕ)} {more : List ℕ} → more ≡ drop (fill v rest).marked.next rest
      → Appends to to₁ (take (fill v rest).marked.at (fill v rest).out) → Came w block to₀ more u to₁
  goes_on {to₁} m a =
      let text = take (fill v rest).marked.at (fill v rest).out in
      rw (m, e) (record { output = g.output ++ text; printing = part g.printing; written = appends_then to₀ to to₁ g.output text g.written a })

  -- or the output fails
  pub fails : Through w block u false
  fails =
      let text = take (fill v rest).marked.at (fill v rest).out in
      rw e (record { left = drop (fill v rest).marked.next rest; output = g.output ++ text; printing = part g.printing; whole = λ f. cc })

-- the block is used up, and a writer has all of its output
pub ends : {w v : Work} {block rest : List ℕ} {to₀ to : Option (List ℕ)} → Came w block to₀ rest v to
    → length rest ≡ 0 → (t : Through w block v true) × Appends to₀ to t.output
ends {rest = []} g h = (record { left = []; output = g.output; printing = g.printing; whole = λ _. refl }, g.written)
ends {rest = b ∷ rest} g h = absurd (omega arith)
