-- What an answer's text is made of, and how it is laid down.
-- Assumes nothing.
use mathlib.Core.Path.{◌≡◌, refl, sym, ◌∙◌}
use mathlib.Core.Bool.{Bool, true, false, cond}
use mathlib.Core.List.{List, [], ◌∷◌, ◌++◌, append_assoc}
use Prim.Native.Nat.{ℕ, zero, suc, ◌+◌, ◌-◌, ◌/◌, ◌%◌, ◌^◌, ◌≤◌, ◌<◌}
use native.Mathlib.Omega.{arith}
use lib.Dec.{ltb}
use lib.ListN.{length, set, take, drop, length-append}
use borrow.Rule.Slice.PartMut.{put_mid}
use lib.Seq.{length-sets, sets-eq, drop-drop}
use borrow.Author.Rules.{rules}
use Rattle.std.specs.Fmt.{decimal}
use Rattle.std.proofs.lemmas.Fmt.{AppendsLastDigit, decimal_from_appends, decimal_digit, decimal_step, length-decimal-le}
use lib.IntN.{ℤ, pos, negsuc}
use Rattle.std.specs.Prelude.{Result, Ok, Err}
use Rattle.grid.proofs.Lists.{sets_append}
use Rattle.grid.specs.declared.Cell.{Cell}
use Rattle.grid.specs.declared.Refusal.{Refusal}
use Rattle.grid.specs.Answers.{answer_of}
use Rattle.lines.specs.declared.Text.{Text}
use Rattle.lines.specs.Text.{decimal_in, decimal_of, number_text, signed_text, corner_text, cell_text, refusal_text, answer_text}
use Rattle.lines.specs.inner.Buffers.{Laid, LongerBy}

-- ---- laying down

pub laid_same : {l m : List ℕ} {at next : ℕ} {v w : List ℕ} → v ≡ w → Laid l at v next m → Laid l at w next m
laid_same e p = rw e at p

pub laid_length : {l m : List ℕ} {at next : ℕ} {v : List ℕ} → Laid l at v next m → length m ≡ length l
laid_length {l} {m} {at} {next} {v} p = rw p.stands (length-sets l at v)

pub laid_byte : (l : List ℕ) (at b : ℕ) → Laid l at (b ∷ []) (at + 1) (set l at b)
laid_byte l at b = record { ends = refl; stands = refl }

pub laid_then : {l m k : List ℕ} {at mid next : ℕ} {v w : List ℕ} → Laid l at v mid m → Laid m mid w next k → Laid l at (v ++ w) next k
laid_then {l} {m} {k} {at} {mid} {next} {v} {w} p q =
    record {
      ends = rw length-append (omega (arith, p.ends, q.ends));
      stands = q.stands ∙ rw (p.stands, p.ends) (sym (sets_append l at v w));
    }

-- behind a text of at most j bytes there is room for k more
pub laid_room : {l m : List ℕ} {at next : ℕ} {v : List ℕ} → Laid l at v next m → (j k : ℕ) → length v ≤ j → at + (j + k) ≤ length l → next + k ≤ length m
laid_room p j k f h = rw (laid_length p) (omega (arith, p.ends))

-- a text that is copied into a part of the buffer
pub laid_part : (l : List ℕ) (at : ℕ) {m v : List ℕ} → m ≡ v → at + length v ≤ length l → Laid l at v (at + length v) (put_mid at (at + length v - at) l m)
laid_part l at {v = v} e h =
    let k : at + length v - at ≡ length v = omega arith in
    record { ends = refl; stands = rw (e, sets-eq v l at h, k, drop-drop (length v) at l) (sym (append_assoc (take at l) v (drop (at + length v) l))) }

-- ---- a text that has become longer, and then longer again

pub longer_same : {v w : List ℕ} {a b : Text} → v ≡ w → LongerBy v a b → LongerBy w a b
longer_same e p = record { same_output = p.same_output; laid = laid_same e p.laid }

pub longer_then : {v w : List ℕ} {a b c : Text} → LongerBy v a b → LongerBy w b c → LongerBy (v ++ w) a c
longer_then p q = record { same_output = q.same_output ∙ p.same_output; laid = laid_then p.laid q.laid }

-- behind at most j bytes there is room for k more
pub longer_room : {v : List ℕ} {a b : Text} → LongerBy v a b → (j k : ℕ) → length v ≤ j → a.at + (j + k) ≤ length a.out.now → b.at + k ≤ length b.out.now
longer_room p j k f h = laid_room p.laid j k f h

-- ---- decimal

pub few_digits : (k n : ℕ) → length (decimal_in k n) ≤ k
unfolding decimal_in
few_digits zero n = omega arith
few_digits (suc k) n = one_more (ltb n 10) (decimal_in k (n / 10)) (48 + n) (48 + n % 10) (few_digits k (n / 10))
  where
    one_more : (q : Bool) (v : List ℕ) (a b : ℕ) → length v ≤ k → length (cond q (a ∷ []) (v ++ (b ∷ []))) ≤ suc k
    one_more true v a b h = omega arith
    one_more false v a b h = rw length-append (omega arith)

-- it is std's decimal
by_last_digit : AppendsLastDigit decimal_in
unfolding decimal_in
by_last_digit = search rules

same_decimal : (n : ℕ) → n < 2 ^ 64 → decimal_of n ≡ decimal n
same_decimal n h = decimal_from_appends decimal_in by_last_digit 20 n h (length-decimal-le 20 n (omega arith) (omega arith) h)

pub one_digit : (n : ℕ) → n < 10 → decimal_of n ≡ (48 + n) ∷ []
one_digit n h = same_decimal n (omega arith) ∙ decimal_digit n h

module _ (n : ℕ) (h : n < 2 ^ 64) where
  pub nineteen : length (decimal_of (n / 10)) ≤ 19
  nineteen = rw (same_decimal (n / 10) (omega arith)) (length-decimal-le 19 (n / 10) (omega arith) (omega arith) (omega arith))

  pub more_digits : 10 ≤ n → decimal_of n ≡ decimal_of (n / 10) ++ ((48 + n % 10) ∷ [])
  more_digits g = rw (same_decimal n h, same_decimal (n / 10) (omega arith)) (decimal_step n g h)

-- ---- the room that numbers take

pub number_length : (n end : ℕ) → length (number_text n end) ≤ 21
number_length n end = rw length-append (omega (arith, few_digits 20 n))

pub signed_length : (z : ℤ) (end : ℕ) → length (signed_text z end) ≤ 22
signed_length (pos n) end = omega (arith, number_length n end)
signed_length (negsuc n) end = omega (arith, number_length (n + 1) end)

pub corner_length : (x y : ℤ) → length (corner_text x y) ≤ 44
corner_length x y = rw length-append (omega (arith, signed_length x 32, signed_length y 32))

-- ---- answers

pub found_text : (r : Result Cell Refusal) (c : Cell) → r ≡ Ok c → cell_text c ≡ answer_text (answer_of r)
unfolding answer_text
found_text r c e = rw e

pub refused_text : (r : Result Cell Refusal) (q : Refusal) → r ≡ Err q → refusal_text q ≡ answer_text (answer_of r)
unfolding answer_text
refused_text r q e = rw e
