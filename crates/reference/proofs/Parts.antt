-- What the parts of the writer and of the reader answer, for each way out of them.
-- Assumes nothing.
use mathlib.Core.Path.{◌≡◌, refl, sym, ◌∙◌, ap, subst}
use mathlib.Core.Bool.{Bool, true, false, cond, ◌&&◌}
use mathlib.Core.List.{List}
use mathlib.Core.Logic.{inl, inr}
use Prim.Native.Nat.{ℕ, ◌+◌, ◌-◌, ◌*◌, ◌/◌, ◌%◌, ◌≤◌, ◌<◌}
use native.Mathlib.Omega.{arith}
use native.Mathlib.Nat.{div-le_self}
use lib.Dec.{ltb, leb}
use lib.IntN.{ℤ, pos, negsuc}
use mir.Syntax.{w32}
use mir.Val.{Fits, SFits, to_z, of_z}
use mir.Facts.{to_z-of_z}
use borrow.Author.Tests.{lt-ltb, le-ltb, le-leb, lt-leb, eq-eqb, ne_eqb}
use Rattle.grid.specs.declared.Cell.{Cell}
use Rattle.grid.specs.declared.Place.{Place}
use Rattle.grid.specs.declared.Refusal.{Refusal}
use Rattle.grid.specs.Units.{TURN, HALF, QUARTER, POLAR, index, unit, Square}
use Rattle.grid.specs.inner.Roads.{square_of}
use Rattle.grid.specs.Answers.{Answer, accepted, refused, refusal, wrong_character}
use Rattle.grid.specs.Cells.{around}
use Rattle.grid.specs.Characters.{digit_of}
use Rattle.grid.specs.Plane.{longitude_at, code_of}
use Rattle.grid.proofs.Cut.{and_true}
use Rattle.grid.proofs.PlaneLaws.{index_unit, index_longitude_at}
use Rattle.reference.specs.Offsets.{offset_digit, moved_to, span_in, span_of}
use Rattle.reference.specs.Text.{fit, east_span, north_span, reference_code, spelled, spanned, target_square, Aim, target_of, offset_in}
use Rattle.reference.specs.inner.Parts.{Known, Steps}
use Rattle.reference.proofs.Numbers.{moved_below, digit_ways, digit_fits, onward, up_to_seven, at_least_one, moved_on}
use Rattle.reference.proofs.Corners.{fit_of}

-- ---- a base or a target

pub fit_coarse : (c : Cell) → c.level < 5 → leb 5 c.level ≡ fit c
unfolding fit
fit_coarse c h = rw (lt-leb 5 c.level h) refl

pub fit_fine : (c : Cell) {r : ℕ} → 5 ≤ c.level → r ≡ index c.south → ltb r 648806400 ≡ fit c
unfolding fit
fit_fine c h e = rw (le-leb 5 c.level h, e) refl

-- ---- digits of offsets

pub span_near : (size d : ℕ) → d / size < 8 → d / size ≡ span_in size d
unfolding span_in
span_near size d h = rw (lt-ltb (d / size) 8 h) refl

pub span_far : (size d : ℕ) → 8 ≤ d / size → 9 + (2654208000 - d) / size ≡ span_in size d
unfolding span_in
span_far size d h = rw (le-ltb (d / size) 8 h) refl

pub far_fits : (size d : ℕ) → d ≤ 2654208000 → Fits w32 (9 + d / size)
far_fits size d h = let l : d / size ≤ d = div-le_self d size in record { fits = omega arith }

pub digit_low : (v : ℕ) → v < 8 → true ≡ offset_digit v
digit_low v h = rw (lt-ltb v 8 h) refl

pub digit_between : (v : ℕ) → 8 ≤ v → v < 10 → false ≡ offset_digit v
digit_between v h k = rw (le-ltb v 8 h, lt-leb 10 v k) refl

pub digit_high : (v : ℕ) → 8 ≤ v → 10 ≤ v → leb v 16 ≡ offset_digit v
digit_high v h k = rw (le-ltb v 8 h, le-leb 10 v k) refl

pub same_span : (size : ℕ) (a b : ℤ) {r : ℕ} → r ≡ span_of size (to_z w32 (of_z w32 a)) (to_z w32 (of_z w32 b)) → SFits w32 a → SFits w32 b → r ≡ span_of size a b
same_span size a b e f g = rw (to_z-of_z f, to_z-of_z g) at e

-- ---- places

module _ (e : ℕ) (h : e < 2654208000) where
  pub index_east : e < 1327104000 → e ≡ index (longitude_at e)
  index_east l = rw (lt-ltb e HALF l) refl

  pub index_west : 1327104000 ≤ e → 2654207999 - e ≡ index (longitude_at e)
  index_west l = rw (le-ltb e HALF l) refl

unit_at : (e : ℕ) → unit (ltb e 1327104000) (index (longitude_at e)) ≡ longitude_at e
unit_at e = go (ltb e 1327104000)
  where
    go : (q : Bool) → unit q (index (cond q (pos e) (negsuc (2654207999 - e)))) ≡ cond q (pos e) (negsuc (2654207999 - e))
    go true = refl
    go false = refl

pub square_at : (e n : ℕ) {p : Place} → p.east ≡ ltb e 1327104000 → p.north ≡ ltb n 1327104000 → p.x ≡ index (longitude_at e) → p.y ≡ index (longitude_at n)
    → square_of p ≡ record { longitude = longitude_at e; latitude = longitude_at n }
square_at e n a b c d = rw (a, b, c, d) (λ i. record { longitude = unit_at e i; latitude = unit_at n i })

-- ---- a moved number

module _ (size v : ℕ) (some : 0 < size) (small : size ≤ 8192) (h : offset_digit v ≡ true) where
  pub near_small : v < 8 → v * size ≤ 57344
  near_small l = up_to_seven size some small v (omega arith)

  pub far_digit : 8 ≤ v → 9 ≤ v
  far_digit l = elim (digit_ways v h) [
    | inl k ↦ omega arith
    | inr k ↦ omega (arith, k.0)
  ]

  pub far_small : 8 ≤ v → (v - 9) * size ≤ 57344
  far_small l = let u : v ≤ 16 = digit_fits v h in up_to_seven size some small (v - 9) (omega arith)

  pub far_some : 8 ≤ v → 0 < (v - 9) * size
  far_some l = elim (digit_ways v h) [
    | inl k ↦ absurd (omega arith)
    | inr k ↦ at_least_one size some small (v - 9) (omega (arith, k.0))
  ]

  module _ (z : ℤ) {x r : ℕ} (e : x ≡ around z) where
    pub moved_near : v < 8 → r ≡ (x + v * size) % TURN → r ≡ moved_to size v z
    unfolding onward
    moved_near l q =
        q ∙ ap (λ (i : ℕ). (i + v * size) % TURN) e
        ∙ sym (moved_on size some small v z h ∙ rw (lt-ltb v 8 l) refl)

    pub moved_far : 8 ≤ v → r ≡ (x + (2654208000 - (v - 9) * size)) % TURN → r ≡ moved_to size v z
    unfolding onward
    moved_far l q =
        q ∙ ap (λ (i : ℕ). (i + (2654208000 - (v - 9) * size)) % TURN) e
        ∙ sym (moved_on size some small v z h ∙ rw (le-ltb v 8 l) refl)

-- ---- what lies between two cells

module _ (b t : Cell) where
  pub too_far_east : {m : ℕ} {r : Refusal} → m ≡ east_span b t → 16 < m → r ≡ refusal 10 0 → (w : List ℕ) → refused r ≡ spelled w b t
  unfolding spelled
  too_far_east {m} e h q w = rw (q, ← e, lt-leb m 16 h) refl

  pub too_far_north : {m n : ℕ} {r : Refusal} → m ≡ east_span b t → m ≤ 16 → n ≡ north_span b t → 16 < n → r ≡ refusal 10 0 → (w : List ℕ) → refused r ≡ spelled w b t
  unfolding spelled
  too_far_north {m} {n} e h f k q w = rw (q, ← e, ← f, le-leb m 16 h, lt-leb n 16 k) refl

  pub near_both : {m n : ℕ} → m ≡ east_span b t → m ≤ 16 → n ≡ north_span b t → n ≤ 16 → (w : List ℕ) → accepted (reference_code w m n) ≡ spelled w b t
  unfolding spelled
  near_both {m} {n} e h f k w = rw (← e, ← f, le-leb m 16 h, le-leb n 16 k) refl

  pub not_fit : {r : Refusal} → false ≡ (fit b && fit t) → r ≡ refusal 8 0 → (w : List ℕ) → refused r ≡ spanned w b t
  unfolding spanned
  not_fit e q w = rw (q, ← e) refl

  pub levels_differ : {r : Refusal} → true ≡ (fit b && fit t) → (b.level ≡ t.level → ⊥) → r ≡ refusal 9 0 → (w : List ℕ) → refused r ≡ spanned w b t
  unfolding spanned
  levels_differ e h q w = rw (q, ← e, ne_eqb b.level t.level h) refl

pub levels_same : (b t : Cell) {x : Answer (List ℕ)} (w : List ℕ) → true ≡ (fit b && fit t) → b.level ≡ t.level → x ≡ spelled w b t → x ≡ spanned w b t
unfolding spanned
levels_same b t w e h q = rw (← e, eq-eqb b.level t.level h) q

-- a known base that fits has a width and a height
pub known_sizes : (b t : Cell) → Known b → true ≡ (fit b && fit t) → (0 < b.width) × (0 < b.height)
known_sizes b t k e =
    let f = fit_of k.0 b k.1 (and_true (fit b) (fit t) (sym e)).0 in
    (f.east.some, f.north.some)

-- ---- the cell that M and N lead to

pub known_steps : (b : Cell) → Known b → true ≡ fit b → Steps b
known_steps b k e =
    let f = fit_of k.0 b k.1 (sym e) in
    (f.east.some, f.east.small, f.north.some, f.north.small)

pub landed_at : (b : Cell) (m n : ℕ) (p : Place) {e f : ℕ} → SFits w32 b.west → SFits w32 b.south
    → square_of p ≡ record { longitude = longitude_at e; latitude = longitude_at f } → e ≡ moved_to b.width m (to_z w32 (of_z w32 b.west)) → f ≡ moved_to b.height n (to_z w32 (of_z w32 b.south))
    → square_of p ≡ target_square b m n
landed_at b m n p w s q x y =
    let u = x ∙ ap (moved_to b.width m) (to_z-of_z w) in
    let v = y ∙ ap (moved_to b.height n) (to_z-of_z s) in
    q ∙ (λ i. record { longitude = longitude_at (u i); latitude = longitude_at (v i) })

-- the base b with M and N
abbrev aim : Cell → ℕ → ℕ → Aim
aim b m n = record { from = b; m = m; n = n }

module _ (b : Cell) (m n : ℕ) where
  pub target_unfit : {r : Refusal} → false ≡ fit b → r ≡ refusal 8 0 → refused r ≡ target_of (aim b m n)
  unfolding target_of
  target_unfit e q = rw (q, ← e) refl

  module _ (p : Place) (same : square_of p ≡ target_square b m n) (e : true ≡ fit b) where
    latitude_is : index (target_square b m n).latitude ≡ p.y
    latitude_is = sym (ap (λ (s : Square). index s.latitude) same) ∙ index_unit p.north p.y

    longitude_is : index (target_square b m n).longitude ≡ p.x
    longitude_is = sym (ap (λ (s : Square). index s.longitude) same) ∙ index_unit p.east p.x

    pub target_at : p.y < 648806400 → accepted (code_of b.level (square_of p)) ≡ target_of (aim b m n)
    unfolding target_of
    target_at h = rw (← e, lt-ltb _ POLAR (subst (λ (y : ℕ). y < 648806400) (sym latitude_is) h)) (ap (λ (s : Square). accepted (code_of b.level s)) same)

    pub target_polar : {r : Refusal} → 648806400 ≤ p.y → r ≡ refusal 12 0 → refused r ≡ target_of (aim b m n)
    unfolding target_of
    target_polar h q = rw (q, ← e, le-ltb _ POLAR (subst (λ (y : ℕ). 648806400 ≤ y) (sym latitude_is) h)) refl

    pub target_fitting : Known b → p.y < 648806400 → (1 ≤ b.level) × (b.level ≤ 10) × (p.x < HALF) × (p.y < QUARTER)
    target_fitting k h =
        let f = fit_of k.0 b k.1 (sym e) in
        let x : p.x < HALF = subst (λ (i : ℕ). i < HALF) longitude_is (index_longitude_at (moved_to b.width m b.west) (moved_below b.width m b.west)) in
        (omega (arith, f.level_low), f.level_high, x, omega arith)

-- ---- the hyphen, M and N

module _ (k h m n : ℕ) where
  pub no_hyphen : {r : Refusal} → (h ≡ 45 → ⊥) → r ≡ wrong_character k h → refused r ≡ offset_in k h m n
  unfolding offset_in
  no_hyphen d q = rw (q, ne_eqb h 45 d) refl

  pub no_east : {u : ℕ} {r : Refusal} → h ≡ 45 → u ≡ digit_of m → false ≡ offset_digit u → r ≡ wrong_character (k + 1) m → refused r ≡ offset_in k h m n
  unfolding offset_in
  no_east d e f q = rw (q, eq-eqb h 45 d, ← e, ← f) refl

  pub no_north : {u v : ℕ} {r : Refusal} → h ≡ 45 → u ≡ digit_of m → true ≡ offset_digit u → v ≡ digit_of n → false ≡ offset_digit v → r ≡ wrong_character (k + 2) n → refused r ≡ offset_in k h m n
  unfolding offset_in
  no_north d e f g i q = rw (q, eq-eqb h 45 d, ← e, ← g, ← f, ← i) refl

  pub both_digits : {u v : ℕ} → h ≡ 45 → u ≡ digit_of m → true ≡ offset_digit u → v ≡ digit_of n → true ≡ offset_digit v → accepted (u, v) ≡ offset_in k h m n
  unfolding offset_in
  both_digits d e f g i = rw (eq-eqb h 45 d, ← e, ← g, ← f, ← i) refl
