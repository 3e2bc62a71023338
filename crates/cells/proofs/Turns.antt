-- Turn after turn: what the loop of `run` keeps.
-- Assumes nothing.
use mathlib.Core.Path.{◌≡◌, refl}
use mathlib.Core.Bool.{true, false}
use mathlib.Core.List.{List, [], ◌++◌, append-nil}
use Prim.Native.Nat.{ℕ, ◌≤◌}
use Rattle.std.specs.Prelude.{Option, Some, None, IfSome, IfNone, is_some}
use Rattle.std.specs.Io.KnownBytes.{Appends, Consumes, IsAtEnd}
use Rattle.lines.specs.Lines.{output_of}
use Rattle.lines.proofs.Theorems.{ran_prints}
use Rattle.cells.proofs.Bytes.{appends_none, appends_then, consumes_none, consumes_then, all_read}
use lib.ListN.{length, take}
use lib.Seq.{sets}
use Rattle.lines.specs.Filling.{KEPT, Work, start}
use Rattle.lines.specs.Run.{finish_text, Through, Turns, begun, turn, Ran}

-- what a turn says where it read nothing
pub at_end : (P : Type 0) (o : Option ℕ) → is_some o ≡ false → IfNone o P → P
at_end P None e p = p
at_end P (Some n) e p = cc

-- this was read and printed until here: a reader had it, and a writer has it
pub record Kept (w : Work) (from₀ to₀ : Option (List ℕ)) (v : Work) (from to : Option (List ℕ)) : Type 0 where
  pub input : List ℕ
  pub output : List ℕ
  pub turns : Turns w v input output
  pub read : Consumes from₀ from input
  pub written : Appends to₀ to output

pub first_turn : (w : Work) (from to : Option (List ℕ)) → Kept w from to w from to
first_turn w from to = record { input = []; output = []; turns = begun; read = consumes_none from; written = appends_none to }

module _ {w v : Work} {from₀ to₀ from to : Option (List ℕ)} (k : Kept w from₀ to₀ v from to) where
  -- a turn that read so many bytes of the block
  pub next_turn : (o : Option ℕ) (block : List ℕ) {u : Work} {from₁ to₁ : Option (List ℕ)} → is_some o ≡ true → IfSome o (λ n. Consumes from from₁ (take n block))
      → IfSome o (λ n. (t : Through v (take n block) u true) × Appends to to₁ t.output) → Kept w from₀ to₀ u from₁ to₁
  next_turn None block e r t = cc
  next_turn (Some n) block {from₁ = from₁} {to₁} e r t =
      record {
        input = k.input ++ take n block;
        output = k.output ++ t.0.output;
        turns = turn k.turns t.0;
        read = consumes_then from₀ from from₁ k.input (take n block) k.read r;
        written = appends_then to₀ to to₁ k.output t.0.output k.written t.1;
      }

  pub last_turn : {out : List ℕ} → out ≡ sets v.out 0 (finish_text v) → Ran w out
  last_turn e = record { last = v; input = k.input; output = k.output; turns = k.turns; answered = e }

-- a writer has just the answers of what the reader had
pub all_printed : {line out : List ℕ} {v : Work} {from₀ to₀ from to : Option (List ℕ)} → Kept (start 0 line out) from₀ to₀ v from to
    → (from₁ to₁ : Option (List ℕ)) → KEPT ≤ length line → Consumes from from₁ [] → IsAtEnd from₁
    → Appends to to₁ (finish_text v) → IfSome from₀ (λ bytes. Appends to₀ to₁ (output_of bytes))
unfolding last_turn
all_printed {v = v} {from₀} {to₀} {from} {to} k from₁ to₁ long r e a =
    let p : k.output ++ finish_text v ≡ output_of k.input = ran_prints long (last_turn k refl) in
    printed_of from₀ (all_read from₀ from₁ k.input (rw (append-nil k.input) at (consumes_then from₀ from from₁ k.input [] k.read r)) e)
    (rw p at (appends_then to₀ to to₁ k.output (finish_text v) k.written a))
  where
    printed_of : (o : Option (List ℕ)) → IfSome o (λ xs. xs ≡ k.input) → Appends to₀ to₁ (output_of k.input)
        → IfSome o (λ bytes. Appends to₀ to₁ (output_of bytes))
    printed_of None i w = tt
    printed_of (Some xs) i w = rw i w
