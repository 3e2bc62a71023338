-- What a position writer is asked for: refusals 1, 2 and 3, each exactly when, and what is known of a level and a place that were accepted.
-- Assumes nothing.
use Rattle.std.proofs.Common.{◌≡◌, ℕ, ◌<◌, ◌≤◌, Bool, true, false, ◌&&◌, ltb, leb, ℤ, pos, negsuc, sym, refl, ap, ap₂, ◌∙◌, to_z-of_z, w64, to_z, of_z, SFits, arith, lit<, ltb-false, ltb-true, le-ltb, lt-ltb, le-leb, leb-true}
use Rattle.std.specs.Prelude.{Result, Ok, Err}
use lib.Signed.{lt_z}
use borrow.Author.Tests.{lt-leb}
use Rattle.grid.specs.declared.Place.{Place}
use Rattle.grid.specs.declared.Refusal.{Refusal}
use Rattle.grid.specs.Units.{HALF, QUARTER, side, index, unit, Square}
use Rattle.grid.specs.Ends.{unit_in}
use Rattle.grid.specs.inner.Roads.{square_of}
use Rattle.grid.specs.Answers.{Answer, accepted, refused, answer_of, refusal, about, unless}
use Rattle.grid.proofs.Answers.{then_accepted, then_refused, then_from, accepted_inj}
use Rattle.grid.proofs.Ends.{unit_known}
use Rattle.grid.proofs.Cut.{clash, and_true}
use Rattle.grid.proofs.PlaneLaws.{index_unit}
use Rattle.plane.specs.Text.{level_in, square_in, plane_text_at, plane_text}
use Rattle.plane.specs.inner.Asking.{position_asked}

-- ---- the level

pub level_low : (z : ℤ) → lt_z z (pos 1) ≡ true → refused (refusal 1 0) ≡ level_in z
unfolding level_in
level_low (pos k) t = let h : k < 1 = ltb-true k 1 t in rw (le-ltb 0 k (omega (arith, h))) refl
level_low (negsuc k) t = refl

pub level_high : (z : ℤ) → lt_z (pos 10) z ≡ true → refused (refusal 1 0) ≡ level_in z
unfolding level_in
level_high (pos k) t = let h : 10 < k = ltb-true 10 k t in rw (lt-ltb 0 k (omega (arith, h)), lt-leb k 10 h) refl
level_high (negsuc k) t = refl

-- a level that is neither below 1 nor above 10
pub level_within : (z : ℤ) → lt_z z (pos 1) ≡ false → lt_z (pos 10) z ≡ false → (l : ℕ) × (z ≡ pos l) × (l ≤ 10) × (accepted l ≡ level_in z)
unfolding level_in
level_within (pos k) t u =
    let a : 1 ≤ k = ltb-false k 1 t in
    let b : k ≤ 10 = ltb-false 10 k u in
    (k, refl, b, rw (lt-ltb 0 k (omega (arith, a)), le-leb k 10 b) refl)
level_within (negsuc k) t u = clash (cc)

-- a level that was accepted
pub level_known : (z : ℤ) {l : ℕ} → level_in z ≡ accepted l → (1 ≤ l) × (l ≤ 10)
unfolding level_in
level_known (pos k) {l} e = go (ltb 0 k && leb k 10) refl e
  where
    go : (q : Bool) → (ltb 0 k && leb k 10) ≡ q → unless q (refusal 1 0) (accepted k) ≡ accepted l → (1 ≤ l) × (l ≤ 10)
    go true t e =
        let b = and_true _ _ t in
        let s : k ≡ l = cc in
        (let h = ltb-true 0 k b.0 in omega (arith, h), let h = leb-true k 10 b.1 in omega (arith, h))
    go false t e = clash (cc)
level_known (negsuc k) e = clash (cc)

-- ---- the position

pub unit_of : (z : ℤ) → unit (side z) (index z) ≡ z
unit_of (pos n) = refl
unit_of (negsuc n) = refl

-- the place of a position that was accepted
pub position_known : (k : ℕ) (longitude latitude : ℤ) (p : Place) → square_in k longitude latitude ≡ accepted (square_of p) → (p.x < HALF) × (p.y < QUARTER)
unfolding square_in
position_known k longitude latitude p e =
    let a = then_from (unit_in (about k (refusal 2 0)) HALF false longitude) _ (square_of p) e in
    let b = then_from (unit_in (about k (refusal 3 0)) QUARTER true latitude) _ (square_of p) a.2 in
    let q = accepted_inj b.2 in
    let x : index a.0 ≡ p.x = ap (λ (z : Square). index z.longitude) q ∙ index_unit p.east p.x in
    let y : index b.0 ≡ p.y = ap (λ (z : Square). index z.latitude) q ∙ index_unit p.north p.y in (
      let h : index a.0 < HALF = unit_known (about k (refusal 2 0)) HALF false (lit< tt) longitude a.0 a.1 in omega (arith, x, h),
      let h : index b.0 < QUARTER = unit_known (about k (refusal 3 0)) QUARTER true (lit< tt) latitude b.0 b.1 in omega (arith, y, h),
    )

-- the same of the numbers as they are handed over
pub level_given : {z : ℤ} {a : Answer ℕ} → SFits w64 z → a ≡ level_in (to_z w64 (of_z w64 z)) → level_in z ≡ a
level_given f e = sym (e ∙ ap level_in (to_z-of_z f))

pub square_given : (k : ℕ) {u v : ℤ} {a : Answer Square} → SFits w64 u → SFits w64 v → a ≡ square_in k (to_z w64 (of_z w64 u)) (to_z w64 (of_z w64 v)) → square_in k u v ≡ a
square_given k f g e = sym (e ∙ ap₂ (square_in k) (to_z-of_z f) (to_z-of_z g))

-- ---- what was asked for, once its case is known

module _ {t : Answer ℕ} {a : Result ℕ Refusal} (f : answer_of a ≡ t) where
  pub level_at : {l : ℕ} → a ≡ Ok l → t ≡ accepted l
  level_at e = sym f ∙ ap answer_of e

  pub level_refused : {r : Refusal} → a ≡ Err r → t ≡ refused r
  level_refused e = sym f ∙ ap answer_of e

module _ {t : Answer Square} {a : Result Place Refusal} (f : position_asked a ≡ t) where
  pub position_at : {p : Place} → a ≡ Ok p → t ≡ accepted (square_of p)
  position_at e = sym f ∙ ap position_asked e

  pub position_refused : {r : Refusal} → a ≡ Err r → t ≡ refused r
  position_refused e = sym f ∙ ap position_asked e

pub position_fits : (k : ℕ) (u v : ℤ) {a : Result Place Refusal} {p : Place} → position_asked a ≡ square_in k u v → a ≡ Ok p → (p.x < HALF) × (p.y < QUARTER)
position_fits k u v {p = p} f e = position_known k u v p (position_at f e)

-- ---- the text, once the level is known

module _ (level longitude latitude : ℤ) where
  pub text_level : {l : ℕ} → level_in level ≡ accepted l → plane_text_at l longitude latitude ≡ plane_text level longitude latitude
  unfolding plane_text
  text_level e = then_accepted (λ (k : ℕ). plane_text_at k longitude latitude) e

  pub text_refused : {r : Refusal} → level_in level ≡ refused r → plane_text level longitude latitude ≡ refused r
  unfolding plane_text
  text_refused e = sym (then_refused (λ (k : ℕ). plane_text_at k longitude latitude) e)
