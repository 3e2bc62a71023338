-- What the stores of each level leave in the line, and what they come to.
-- Assumes nothing.
use mathlib.Core.Path.{◌≡◌, refl, sym, ◌∙◌, ap, subst}
use mathlib.Core.Bool.{Bool, true, false, cond}
use mathlib.Core.List.{List, [], ◌∷◌, ◌++◌, map}
use Prim.Native.Nat.{ℕ, zero, suc, ◌+◌, ◌-◌, ◌/◌, ◌%◌, ◌≤◌, ◌<◌}
use native.Mathlib.Omega.{arith}
use native.Mathlib.Nat.{div-lt_iff_lt-mul, div-div-eq-div-mul, mod-lt, mul_comm}
use lib.Dec.{ltb}
use lib.IntN.{ℤ}
use lib.ListN.{length, get_or, drop, set, length-map, drop_of_length-le}
use lib.Seq.{drop-cons, set_comm}
use borrow.Author.Tests.{ltb-true, ltb-false, lt-ltb, le-ltb}
use Rattle.grid.specs.Units.{index}
use Rattle.grid.specs.Characters.{char_of}
use Rattle.grid.specs.inner.Standing.{length_in, height_place, spread_back}
use Rattle.grid.specs.Layers.{product, sign}
use Rattle.grid.proofs.Cut.{clash}
use Rattle.grid.proofs.Lists.{get_d_map_at}
use Rattle.grid.proofs.Standing.{back_length}
use Rattle.layers.specs.declared.Edition.{Edition}
use Rattle.layers.specs.inner.Editions.{radices_of}
use Rattle.layers.specs.inner.Steps.{height_digits, layer_of, Fair, thickness_at, first_height, HeightWritable}
use Rattle.layers.proofs.Places.{place_in}
use Rattle.layers.proofs.Radices.{edition_fair, first_radix, later_radix, thick_some, thick_step, thick_top, thick_last}
use Rattle.layers.proofs.Sides.{layer_side, layer_rise, layer_in}
use Rattle.layers.proofs.Digits.{height_straight, height_length, height_at}

-- ---- how many cells of a level lie below a rise

-- v of level k's lie below it
abbrev Below : List ℕ → ℕ → ℕ → ℕ → Type 0
Below rs k n v = v ≡ n / thickness_at rs k

-- each level's come from those of the next
below_last : (rs : List ℕ) (n : ℕ) → Fair rs → Below rs 10 n n
below_last rs n e = rw (thick_last rs e) (omega arith)

below_next : (rs : List ℕ) (k n : ℕ) {v r : ℕ} → Fair rs → k < 10 → Below rs (k + 1) n v → r ≡ v / get_or rs k 0 → Below rs k n r
below_next rs k n e h f g =
    let t = thickness_at rs (k + 1) in
    let q = get_or rs k 0 in
    g ∙ ap (λ (x : ℕ). x / q) f ∙ div-div-eq-div-mul n t q ∙ ap (λ (x : ℕ). n / x) (mul_comm t q ∙ thick_step rs k e h)

-- ---- level 1

-- two decimal digits make its number
first_below : (rs : List ℕ) (n : ℕ) {v : ℕ} → Fair rs → n < product rs → Below rs 1 n v → v < 100
first_below rs n e h f =
    let m : n / thickness_at rs 1 < get_or rs 0 0 = (div-lt_iff_lt-mul (thick_some rs 1 e)).1 (rw (thick_step rs 0 e (omega arith), thick_top rs) h) in
    omega (arith, (first_radix rs e).few)

-- its characters are the first three
first_height_law : (rs : List ℕ) (level : ℕ) (a : Bool) (n : ℕ) {v : ℕ} → Fair rs → n < product rs → 1 ≤ level → Below rs 1 n v
    → map char_of (height_digits rs level (layer_of (product rs) a n)) ≡ first_height a v ++ drop 3 (map char_of (height_digits rs level (layer_of (product rs) a n)))
unfolding thickness_at
first_height_law rs zero a n e h i f = absurd (omega arith)
first_height_law [] (suc l) a n e h i f = clash (let t = e.test in cc)
first_height_law (k ∷ rs) (suc l) a n e h i f =
    let top = product (k ∷ rs) in
    rw (f, height_straight k rs l (layer_of top a n) e (layer_in top a n h), layer_side top a n, layer_rise top a n h) refl

-- each is stored at its place, in either order
pub first_stored : (a : Bool) (n : ℕ) (l : List ℕ) {i j k x y z : ℕ} → i ≡ height_place 0 → j ≡ height_place 1 → k ≡ height_place 2
    → x ≡ char_of (sign a) → y ≡ char_of (n / 10) → z ≡ char_of (n % 10) → set (set (set l i x) j y) k z ≡ spread_back height_place 0 (first_height a n) l
unfolding height_place
first_stored a n l {i} {j} {k} {x} {y} {z} e f g u v w =
    let far : ¬ (i ≡ j) = omega arith in
    let off : ¬ (i ≡ k) = omega arith in
    let near : ¬ (j ≡ k) = omega arith in
    set_comm (set l i x) j k y z near ∙ ap (λ m. set m j y) (set_comm l i k x z off) ∙ set_comm (set l k z) i j x y far ∙ rw (e, f, g, u, v, w) refl

-- ---- a later level

-- level k + 1, a later one, n of whose cells lie below the layer: its character in a code of a level; none where the code ends before it
unfoldable pub later_height_at : List ℕ → ℕ → ℕ → ℕ → List ℕ
later_height_at rs level k n = cond (ltb k level) (char_of (n % get_or rs k 0) ∷ []) []

-- its digit is a code character's
pub digit_below_law : (rs : List ℕ) (k n : ℕ) → Fair rs → 1 ≤ k → k < 10 → n % get_or rs k 0 < 32
digit_below_law rs k n e a b =
    let f = later_radix rs k e a b in
    omega (arith, f.few, mod-lt n f.more)

pub none_stored : (rs : List ℕ) (level k n : ℕ) (l : List ℕ) → level ≤ k → l ≡ spread_back height_place (k + 2) (later_height_at rs level k n) l
unfolding later_height_at
none_stored rs level k n l h = rw (le-ltb k level h) refl

pub one_stored : (rs : List ℕ) (level k n : ℕ) (l : List ℕ) {i d x : ℕ} → k < level → i ≡ height_place (k + 2) → d ≡ n % get_or rs k 0 → x ≡ char_of d
    → set l i x ≡ spread_back height_place (k + 2) (later_height_at rs level k n) l
unfolding later_height_at
one_stored rs level k n l h e s p = rw (e, p, s, lt-ltb k level h) refl

-- ---- a code's height characters

abbrev heights : Edition → ℕ → Bool → ℕ → List ℕ
heights edition level a n = map char_of (height_digits (radices_of edition) level (layer_of (product (radices_of edition)) a n))

module _ (edition : Edition) (level : ℕ) (a : Bool) (n : ℕ) (l : List ℕ) (h : HeightWritable (radices_of edition) level n l) where
  abbrev rs : List ℕ
  rs = radices_of edition

  abbrev z : ℤ
  z = layer_of (product rs) a n

  abbrev ws : List ℕ
  ws = heights edition level a n

  inside : index z < product rs
  inside = layer_in (product rs) a n h.rise_in

  digits_long : length (height_digits rs level z) ≡ 2 + level
  digits_long = height_length rs level z (edition_fair edition) inside h.some_level h.ten_levels

  long : length ws ≡ 2 + level
  long = length-map (height_digits rs level z) char_of ∙ digits_long

  -- none after the last level
  none_from : (i : ℕ) → 2 + level ≤ i → drop i ws ≡ []
  none_from i m = drop_of_length-le ws {i = i} (omega (arith, long))

  -- laid down from level k + 2's on, and then that of level k + 1, a later one
  added : (k : ℕ) {v : ℕ} (l₀ : List ℕ) → 1 ≤ k → Below rs (k + 1) n v
      → spread_back height_place (k + 2) (later_height_at rs level k v) (spread_back height_place (k + 1 + 2) (drop (k + 1 + 2) ws) l₀) ≡ spread_back height_place (k + 2) (drop (k + 2) ws) l₀
  unfolding later_height_at
  added k {v} l₀ b f = go (ltb k level) refl
    where
      go : (q : Bool) → ltb k level ≡ q
          → spread_back height_place (k + 2) (cond q (char_of (v % get_or rs k 0) ∷ []) []) (spread_back height_place (k + 1 + 2) (drop (k + 1 + 2) ws) l₀) ≡ spread_back height_place (k + 2) (drop (k + 2) ws) l₀
      go true t =
          let m : k < level = ltb-true k level t in
          let i : k + 1 + 2 ≡ suc (k + 2) = omega arith in
          let d : get_or (height_digits rs level z) (k + 2) 0 ≡ v % get_or rs k 0 = rw (height_at rs level k z (edition_fair edition) inside b m h.ten_levels, layer_rise (product rs) a n h.rise_in, f) refl in
          rw (i, drop-cons ws (k + 2) 0 (omega (arith, long)), get_d_map_at char_of (height_digits rs level z) (k + 2) (omega (arith, digits_long)), d) refl
      go false t = let m : level ≤ k = ltb-false k level t in rw (none_from (k + 2) (omega arith), none_from (k + 1 + 2) (omega arith)) refl

-- ---- a line in which they are laid down, from the last level on

-- the line l is l₀ with those of the levels from k + 1 on laid down; v cells of level k lie below the rise
pub record LaidAfter (edition : Edition) (level : ℕ) (a : Bool) (n : ℕ) (l₀ : List ℕ) (k v : ℕ) (l : List ℕ) : Type 0 where
  pub writable : HeightWritable (radices_of edition) level n l
  pub below : Below (radices_of edition) k n v
  pub laid : l ≡ spread_back height_place (k + 2) (drop (k + 2) (heights edition level a n)) l₀

module _ {edition : Edition} {level : ℕ} {a : Bool} {n : ℕ} {l₀ : List ℕ} where
  -- at first none is
  pub laid_none : HeightWritable (radices_of edition) level n l₀ → LaidAfter edition level a n l₀ 10 n l₀
  laid_none h =
      record {
        writable = h;
        below = below_last (radices_of edition) n (edition_fair edition);
        laid = rw (none_from edition level a n l₀ h 12 (omega (arith, h.ten_levels))) refl;
      }

  -- a turn for a level after the first
  pub laid_next : (k : ℕ) {v r : ℕ} {l m : List ℕ} → 1 < k → k ≤ 10 → LaidAfter edition level a n l₀ k v l
      → m ≡ spread_back height_place (k - 1 + 2) (later_height_at (radices_of edition) level (k - 1) v) l → r ≡ v / get_or (radices_of edition) (k - 1) 0 → LaidAfter edition level a n l₀ (k - 1) r m
  laid_next k {v} {l = l} {m} b c h f g =
      let j = k - 1 in
      let e : k ≡ j + 1 = omega arith in
      let w = h.writable in
      let s : length m ≡ length l = ap length f ∙ back_length height_place (j + 2) (later_height_at (radices_of edition) level j v) l in
      let below : Below (radices_of edition) (j + 1) n v = subst (λ (i : ℕ). Below (radices_of edition) i n v) e h.below in
      let laid : l ≡ spread_back height_place (j + 1 + 2) (drop (j + 1 + 2) (heights edition level a n)) l₀ = rw e at h.laid in
      record {
        writable = record { some_level = w.some_level; ten_levels = w.ten_levels; rise_in = w.rise_in; room = omega (arith, w.room) };
        below = below_next (radices_of edition) j n (edition_fair edition) (omega arith) below g;
        laid = f ∙ ap (spread_back height_place (j + 2) (later_height_at (radices_of edition) level j v)) laid ∙ added edition level a n l w j l₀ (omega arith) below;
      }

  -- level 1 comes last
  pub first_ready : {v : ℕ} {l : List ℕ} → LaidAfter edition level a n l₀ 1 v l → (v < 100) × (length_in true 1 ≤ length l)
  unfolding height_place
  first_ready h =
      let w = h.writable in (
        first_below (radices_of edition) n (edition_fair edition) w.rise_in h.below,
        place_in level 2 w.ten_levels w.room (omega (arith, w.some_level)) refl,
      )

  pub laid_all : {v : ℕ} {l m : List ℕ} → LaidAfter edition level a n l₀ 1 v l → m ≡ spread_back height_place 0 (first_height a v) l
      → (m ≡ spread_back height_place 0 (heights edition level a n) l₀) × (length m ≡ length l₀)
  laid_all {v} {m = m} h f =
      let w = h.writable in
      let e : m ≡ spread_back height_place 0 (heights edition level a n) l₀ =
      f ∙ ap (spread_back height_place 0 (first_height a v)) h.laid
      ∙ sym (ap (λ ws. spread_back height_place 0 ws l₀) (first_height_law (radices_of edition) level a n (edition_fair edition) w.rise_in w.some_level h.below)) in
      (e, ap length e ∙ back_length height_place 0 (heights edition level a n) l₀)
