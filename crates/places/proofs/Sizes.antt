-- The tests of a book's size: each way out of `contents`.
-- Assumes nothing.
use mathlib.Core.Path.{◌≡◌, refl, sym, ap, ap₂, ◌∙◌}
use mathlib.Core.Bool.{true, false}
use mathlib.Core.List.{List, [], ◌∷◌}
use Prim.Native.Nat.{ℕ, zero, suc, ◌+◌, ◌-◌, ◌*◌, ◌/◌, ◌≤◌, ◌<◌}
use native.Mathlib.Omega.{arith}
use lib.ListN.{length, take, drop}
use lib.Seq.{take-take, length-take-le}
use borrow.Author.Tests.{le-leb, lt-leb}
use Rattle.std.specs.Prelude.{slice_index}
use Rattle.std.specs.Simd.{first_chunks}
use Rattle.std.proofs.lemmas.List.{drop-take}
use Rattle.places.specs.Reading.{word_at, sized}
use Rattle.places.specs.inner.Walk.{Contents}

module _ (s : List ℕ) where
  pub no_count : length s < 2 → sized s ≡ false
  unfolding sized
  no_count h = rw (lt-leb 2 (length s) h)

  module _ (head : 2 ≤ length s) where
    pub too_long : 65535 < length s → sized s ≡ false
    unfolding sized
    too_long h = rw (le-leb 2 (length s) head, lt-leb (length s) 65535 h)

    module _ (short : length s ≤ 65535) {k : ℕ} (is : k ≡ word_at s 0) where
      pub too_many : 1000 < k → sized s ≡ false
      unfolding sized
      too_many h = rw (le-leb 2 (length s) head, le-leb (length s) 65535 short, ← is, lt-leb k 1000 h)

      module _ (few : k ≤ 1000) where
        pub no_contents : length s < 2 + 4 * k → sized s ≡ false
        unfolding sized
        no_contents h = rw (le-leb 2 (length s) head, le-leb (length s) 65535 short, ← is, le-leb k 1000 few, lt-leb (2 + 4 * k) (length s) h)

        pub in_contents : 2 + 4 * k ≤ length s → sized s ≡ true
        unfolding sized
        in_contents h = rw (le-leb 2 (length s) head, le-leb (length s) 65535 short, ← is, le-leb k 1000 few, le-leb (2 + 4 * k) (length s) h)

-- ---- the count, and the contents

-- the count, read from the first two bytes
pub count_is : (s : List ℕ) → 2 ≤ length s → {w : List ℕ} → w ≡ take 2 s → {n : ℕ} → n ≡ slice_index w 0 * 256 + slice_index w 1 → n ≡ word_at s 0
count_is [] h e f = absurd (omega arith)
count_is (x ∷ []) h e f = absurd (omega arith)
count_is (x ∷ y ∷ s) h {w} e {n} f = let g = rw e at f in omega (arith, g)

-- what is taken in front of more is taken of all
drop_taken : (n m : ℕ) (xs : List ℕ) → n ≤ m → drop n (take m xs) ≡ take (m - n) (drop n xs)
drop_taken n m xs h = let u : m ≡ n + (m - n) = omega arith in ap (λ k. drop n (take k xs)) u ∙ drop-take n (m - n) xs

chunks_taken : (k m : ℕ) (xs : List ℕ) → k * 4 ≤ m → first_chunks 4 k (take m xs) ≡ first_chunks 4 k xs
chunks_taken zero m xs h = refl
chunks_taken (suc k) m xs h =
    ap₂ ◌∷◌ (take-take 4 m xs (omega arith)) (ap (first_chunks 4 k) (drop_taken 4 m xs (omega arith)) ∙ chunks_taken k (m - 4) (drop 4 xs) (omega arith))

-- the contents stand behind the count
pub contents_are : (s : List ℕ) (k : ℕ) {rest : List ℕ} {c : List (List ℕ)} → length s ≤ 65535 → k ≤ 1000 → rest ≡ drop 2 s → 2 + 4 * k ≤ length s
    → length rest + 2 ≡ length s → c ≡ first_chunks 4 (length (take (4 * k) rest) / 4) (take (4 * k) rest) → length c ≡ length (take (4 * k) rest) / 4 → k ≡ word_at s 0 → Contents s c
contents_are s k {rest} {c} short few e h l f g w =
    let t : length (take (4 * k) rest) ≡ 4 * k = length-take-le (4 * k) rest (omega arith) in
    let n : length (take (4 * k) rest) / 4 ≡ k = omega arith in
    let m : length c ≡ k = g ∙ n in
    record {
      count = m ∙ w;
      few = omega arith;
      are = f ∙ ap (λ j. first_chunks 4 j (take (4 * k) rest)) (n ∙ sym m) ∙ chunks_taken (length c) (4 * k) rest (omega arith) ∙ ap (first_chunks 4 (length c)) e;
      room = omega arith;
      short = short;
    }
