-- A plane code laid into a line level by level, the digits of each level given as a value: what every writer of plane codes shares.
-- Assumes nothing.
use Rattle.std.proofs.Common.{◌≡◌, ℕ, suc, ◌+◌, ◌-◌, ◌*◌, ◌<◌, ◌≤◌, min, Bool, true, false, cond, eqb, ltb, leb, List, [], ◌++◌, map, length, sym, refl, ap, ◌∙◌, zero-add, arith, length-append, ltb-false, ltb-true, eqb-true, leb-true}
use lib.Seq.{sets}
use Rattle.grid.specs.declared.Digits.{Digits}
use Rattle.grid.specs.declared.Split.{Split}
use Rattle.grid.specs.Units.{Square, OnGlobe}
use Rattle.grid.specs.Characters.{char_of}
use Rattle.grid.specs.Splits.{split_at}
use Rattle.grid.specs.inner.Roads.{place_of, single_of, digits_in, level_chars, LevelFits}
use Rattle.grid.specs.inner.Standing.{zone_place, level_place, length_in, stands_at, spread}
use Rattle.grid.specs.Plane.{pair, quad, trio, write, digits_of, code_of}
use Rattle.grid.proofs.Cut.{Below, below}
use Rattle.grid.proofs.Lengths.{grows, code_length, code_start}
use Rattle.grid.proofs.Standing.{stands_run, level_room, spread_length, spread_append, spread_run}
use Rattle.grid.proofs.Arriving.{node_at, code_suc, digits_small}

-- a level's characters begin inside its code
pub starts : {k : ℕ} {t : Split} → k < 10 → t ≡ split_at k → t.characters ≤ t.length
starts {k} h z = rw z (leb-true _ _ (below (λ k. leb (split_at k).characters (split_at k).length) 10 k refl h))

-- where a level's digits are below 32, so are its column and its row, and so is the one digit of the two
small_parts : (t : Split) (d : Digits) → Below 32 (digits_in t d) → (d.column < 32) × (d.row < 32) × ((t.characters ≡ 2 → ⊥) → single_of d < 32)
small_parts t d = go (eqb t.characters 2) refl (eqb d.columns 2)
  where
    go : (p : Bool) → eqb t.characters 2 ≡ p → (q : Bool) → Below 32 (write (cond p pair (cond q quad trio)) d.column d.row)
        → (d.column < 32) × (d.row < 32) × ((t.characters ≡ 2 → ⊥) → cond q (2 * d.row + d.column) (d.row + d.column) < 32)
    go true e q b = (b.0, b.1.0, λ n. absurd (n (eqb-true _ _ e)))
    go false e true b = (omega arith, omega arith, λ n. b.0)
    go false e false b = (omega arith, omega arith, λ n. b.0)

-- a text that grows from level to level, each of its characters at its place, laid down as far as level k of those up to `level`: level k + 1 lays down
-- what it adds, whose places stand side by side
spread_next : (place : ℕ → ℕ) (text : ℕ → List ℕ) (level k at : ℕ) (l w : List ℕ) → (k < level → text (suc k) ≡ text k ++ w)
    → (k < level → (i : ℕ) → i < length w → place (length (text k) + i) ≡ at + i) → sets (spread place 0 (text (min level k)) l) at (cond (ltb k level) w []) ≡ spread place 0 (text (min level (suc k))) l
spread_next place text level k at l w more runs = go (ltb k level) refl
  where
    go : (q : Bool) → ltb k level ≡ q → sets (spread place 0 (text (min level k)) l) at (cond q w []) ≡ spread place 0 (text (min level (suc k))) l
    go true e =
        let h : k < level = ltb-true k level e in
        let u : min level k ≡ k = omega arith in
        let v : min level (suc k) ≡ suc k = omega arith in
        rw (u, v, more h, spread_append place 0 (text k) w l, zero-add) (sym (spread_run place (length (text k)) at w (spread place 0 (text k) l) (runs h)))
    go false e =
        let h : level ≤ k = ltb-false k level e in
        let u : min level k ≡ min level (suc k) = omega arith in
        ap (λ (n : ℕ). spread place 0 (text n) l) u

-- the line l is l₀ with the plane code of a level laid down as far as level k, each character at its place in a plane code or in a space code, and had room for all
pub record LaidTo (spaced : Bool) (level k : ℕ) (s : Square) (l₀ l : List ℕ) : Type 0 where
  pub on : OnGlobe s
  pub level_high : level ≤ 10
  pub room : length_in spaced level ≤ length l₀
  pub laid : l ≡ spread (stands_at spaced) 0 (code_of (min level k) s) l₀

module _ {spaced : Bool} {level k : ℕ} {s : Square} {l₀ l : List ℕ} (L : LaidTo spaced level k s l₀ l) where
  pub laid_length : length l ≡ length l₀
  laid_length = ap length L.laid ∙ spread_length (stands_at spaced) 0 (code_of (min level k) s) l₀

  -- level k + 1, a later one, adds its own characters to the code of level k
  module _ (some : 1 ≤ k) (h : k < 10) {t : Split} (z : t ≡ split_at k) (d : Digits) (e : digits_of t (node_at k s) s ≡ digits_in t d) where
    pub laid_fits : LevelFits level k t d l (level_place spaced k t)
    laid_fits =
        let q = small_parts t d (rw (← e, z) (digits_small k s h L.on)) in
        record {
          room = λ b. rw z (omega (arith, level_room spaced level k b L.level_high, L.room, laid_length));
          some = rw z (leb-true _ _ (below (λ k. leb 1 (split_at k).characters) 10 k refl h));
          column = q.0;
          row = q.1;
          single = q.2;
        }

    adds_on : code_of (suc k) s ≡ code_of k s ++ map char_of (digits_in t d)
    adds_on = code_suc k s h ∙ ap (λ x. code_of k s ++ map char_of x) (ap (λ (t : Split). digits_of t (node_at k s) s) (sym z) ∙ e)

    -- they stand side by side
    runs : (i : ℕ) → i < length (map char_of (digits_in t d)) → stands_at spaced (length (code_of k s) + i) ≡ level_place spaced k t + i
    runs i b =
        let w = map char_of (digits_in t d) in
        let a : length (code_of k s) ≡ place_of (split_at k) = code_start k s L.on h in
        let n : length (code_of (suc k) s) ≡ (split_at k).length = let j : suc k - 1 ≡ k = omega arith in rw j at (code_length (suc k) s L.on (omega arith) (omega arith)) in
        let m : length (code_of (suc k) s) ≡ length (code_of k s) + length w = ap length adds_on ∙ length-append (code_of k s) w in
        rw (a, z) (stands_run spaced k i some h (omega (arith, a, n, m, b, starts h refl)))

    pub laid_more : {m : List ℕ} → m ≡ sets l (level_place spaced k t) (level_chars level k t d) → LaidTo spaced level (suc k) s l₀ m
    unfolding level_chars
    laid_more f =
        record {
          on = L.on;
          level_high = L.level_high;
          room = L.room;
          laid =
              f
              ∙ ap (λ (x : List ℕ). sets x (level_place spaced k t) (level_chars level k t d)) L.laid
              ∙ spread_next (stands_at spaced) (λ i. code_of i s) level k (level_place spaced k t) l₀ _ (λ _. adds_on) (λ _. runs);
        }

module _ {spaced : Bool} {level : ℕ} {s : Square} {l₀ l : List ℕ} where
  pub laid_first : OnGlobe s → 1 ≤ level → level ≤ 10 → length_in spaced level ≤ length l₀ → l ≡ spread (stands_at spaced) 0 (code_of 1 s) l₀ → LaidTo spaced level 1 s l₀ l
  laid_first o a b r e =
      let u : 1 ≡ min level 1 = omega arith in
      record { on = o; level_high = b; room = r; laid = e ∙ ap (λ (i : ℕ). spread (stands_at spaced) 0 (code_of i s) l₀) u }

  pub laid_all : LaidTo spaced level 10 s l₀ l → l ≡ spread (stands_at spaced) 0 (code_of level s) l₀
  laid_all L =
      let u : min level 10 ≡ level = omega (arith, L.level_high) in
      L.laid ∙ ap (λ (i : ℕ). spread (stands_at spaced) 0 (code_of i s) l₀) u

-- in a plane code they stand one behind the other from the line's first byte on
pub laid_plain : {level : ℕ} {s : Square} {l₀ l : List ℕ} → LaidTo false level 10 s l₀ l → l ≡ sets l₀ 0 (code_of level s)
laid_plain {level} {s} {l₀} L = laid_all L ∙ spread_run (λ i. i) 0 0 (code_of level s) l₀ (λ i h. refl)

-- level 1 has room in the code of any level
pub first_room : (spaced : Bool) {level n : ℕ} → 1 ≤ level → level ≤ 10 → length_in spaced level ≤ n → zone_place spaced + 3 ≤ n
first_room spaced {level} {n} a b = go spaced
  where
    g : (split_at 0).length ≤ (split_at (level - 1)).length
    g = grows 0 (level - 1) (omega arith) (omega arith)

    go : (q : Bool) → length_in q level ≤ n → zone_place q + 3 ≤ n
    go true r = omega (arith, g)
    go false r = omega (arith, g)
