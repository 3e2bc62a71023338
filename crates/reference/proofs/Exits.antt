-- What a `?` hands on: the refusal that it found.
-- Assumes nothing.
use mathlib.Core.Path.{◌≡◌, refl, sym, ◌∙◌, subst}
use mathlib.Core.List.{List}
use Prim.Native.Nat.{ℕ}
use Rattle.std.proofs.Common.{Result, Ok, Err, IsErrAnd, MatchResult}
use Rattle.grid.specs.declared.Cell.{Cell}
use Rattle.grid.specs.declared.Refusal.{Refusal}
use Rattle.grid.specs.Answers.{Answer, accepted, refused, about, answer_of}
use Rattle.grid.specs.Laying.{laid}
use Rattle.grid.proofs.Cut.{clash}
use Rattle.grid.proofs.Laying.{laid_refused}
use Rattle.reference.specs.Text.{related}
use Rattle.reference.specs.inner.Parts.{text_of}

-- as a text
pub handed_text : {C : Type 0} (r : Result C Refusal) (f : C → List ℕ) {q : Refusal} → IsErrAnd r (λ (s : Refusal). s ≡ q) → text_of r f ≡ refused q
handed_text (Ok x) f h = absurd h
handed_text (Err s) f h = cc

-- and as what is laid into a line
pub handed_on : (r : Result ℕ Refusal) {q : Refusal} (t : Answer (List ℕ)) (line : List ℕ) (at : ℕ) → IsErrAnd r (λ (s : Refusal). s ≡ q) → t ≡ refused q
    → (answer_of r, line) ≡ laid t line at
handed_on (Ok x) t line at h e = absurd h
handed_on (Err s) t line at h e = rw h (laid_refused line at e)

-- what `map_err` answers, where it found something and where it did not
pub mapped_ok : {C : Type 0} (r s : Result C Refusal) (P : Refusal → Refusal → Type 0) (c : C) → MatchResult r (λ (x : C). s ≡ Ok x) (λ (e : Refusal). IsErrAnd s (P e)) → s ≡ Ok c → r ≡ Ok c
mapped_ok (Ok x) s P c h e = sym h ∙ e
mapped_ok (Err q) s P c h e = absurd (subst (λ (x : Result _ Refusal). IsErrAnd x (P q)) e h)

pub mapped_err : {C : Type 0} (r s : Result C Refusal) (P : Refusal → Refusal → Type 0) (f : Refusal) → MatchResult r (λ (x : C). s ≡ Ok x) (λ (e : Refusal). IsErrAnd s (P e)) → s ≡ Err f → (q : Refusal) × (r ≡ Err q) × P q f
mapped_err (Ok x) s P f h e = clash (let g : ◌≡◌ {A = Result _ Refusal} (Ok x) (Err f) = sym h ∙ e in cc)
mapped_err (Err q) s P f h e = (q, refl, subst (λ (x : Result _ Refusal). IsErrAnd x (P q)) e h)

-- the refusal of the second code
pub target_refused : (w : List ℕ) (x y : Answer Cell) {b : Cell} {q f : Refusal} → x ≡ accepted b → y ≡ refused q → f ≡ about 2 q → refused f ≡ related w x y
target_refused w x y e g h = rw (e, g, h) refl
