-- What follows from an answer, once its case is known, and what a result says of the tests and results before it; the two numbers of a wrong
-- character. Assumes nothing.
use Rattle.std.proofs.Common.{◌≡◌, ℕ, ◌<◌, ◌≤◌, Bool, true, false, cond, sym, refl, ap, ◌∙◌, arith, le-ltb, lt-ltb}
use Rattle.std.specs.Prelude.{Result, Ok, Err, IsErr, IsErrAnd}
use Rattle.grid.specs.declared.Refusal.{Refusal}
use Rattle.grid.specs.Characters.{digit_of, code_character}
use Rattle.grid.specs.Answers.{Answer, accepted, refused, answer_of, refusal, unless, and_then, wrong_number, wrong_character}
use Rattle.grid.specs.inner.Roads.{at_place}
use Rattle.grid.proofs.Cut.{clash}

module _ {C D : Type 0} {a : Answer C} (f : C → Answer D) where
  pub then_accepted : {c : C} → a ≡ accepted c → f c ≡ and_then a f
  then_accepted e = sym (ap (λ (x : Answer C). and_then x f) e)

  pub then_refused : {r : Refusal} → a ≡ refused r → refused r ≡ and_then a f
  then_refused e = sym (ap (λ (x : Answer C). and_then x f) e)

-- what `?` hands on is the refusal that it was given
pub handed_on : {C : Type 0} {r : Refusal} (a : Result C Refusal) → IsErr a × IsErrAnd a (λ q. q ≡ r) → answer_of a ≡ refused r
handed_on (Ok c) h = absurd h.1
handed_on (Err q) h = ap refused h.1

pub accepted_inj : {C : Type 0} {c d : C} → accepted c ≡ accepted d → c ≡ d
accepted_inj e = cc

-- a result that passed a test
pub unless_accepted : {C : Type 0} (q : Bool) (r : Refusal) (a : Answer C) (c : C) → unless q r a ≡ accepted c → (q ≡ true) × (a ≡ accepted c)
unless_accepted true r a c e = (refl, e)
unless_accepted false r a c e = clash (cc)

-- a result that followed from another
pub then_from : {C D : Type 0} (a : Answer C) (f : C → Answer D) (d : D) → and_then a f ≡ accepted d → (c : C) × (a ≡ accepted c) × (f c ≡ accepted d)
then_from (accepted c) f d e = (c, refl, e)
then_from (refused r) f d e = clash (cc)

-- ---- a wrong character: garbled or misplaced

-- the number of a byte that counts as a code character, and of one that does not
abbrev pub number_by : Bool → ℕ
number_by q = cond q 20 7

-- it tells which, and is not 6
one_number : (t q : Bool) → number_by t ≡ number_by q → t ≡ q
one_number true true e = refl
one_number false false e = refl
one_number true false e = absurd (omega arith)
one_number false true e = absurd (omega arith)

pub not_six : (q : Bool) → 6 ≡ number_by q → ⊥
not_six true e = omega arith
not_six false e = omega arith

module _ (b : ℕ) where
  pub number_of : (q : Bool) → code_character b ≡ q → wrong_number b ≡ number_by q
  unfolding wrong_number
  number_of q e = rw e refl

  pub number_tells : (q : Bool) → wrong_number b ≡ number_by q → code_character b ≡ q
  number_tells q e = one_number (code_character b) q (sym (number_of (code_character b) refl) ∙ e)

  -- the refusal of its digit d, made by number and put at the place p
  pub as_misplaced : {p d : ℕ} {r q : Refusal} → d ≡ digit_of b → d < 32 → q ≡ refusal 20 0 → r ≡ at_place p q → r ≡ wrong_character p b
  as_misplaced {p} {d} {r} {q} e h f g =
      let z : wrong_number b ≡ 20 = number_of true (rw (← e) (lt-ltb d 32 h)) in
      rw (z, g, f) refl

  pub as_garbled : {p d : ℕ} {r q : Refusal} → d ≡ digit_of b → 32 ≤ d → q ≡ refusal 7 0 → r ≡ at_place p q → r ≡ wrong_character p b
  as_garbled {p} {d} {r} {q} e h f g =
      let z : wrong_number b ≡ 7 = number_of false (rw (← e) (le-ltb d 32 h)) in
      rw (z, g, f) refl
