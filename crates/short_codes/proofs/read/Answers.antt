-- `short_codes::read` meets its contract. Assumes nothing.
use mathlib.Core.Path.{◌≡◌, sym, ◌∙◌, ap}
use mathlib.Core.List.{List}
use Prim.Native.Nat.{ℕ}
use native.Mathlib.Omega.{arith}
use Rattle.grid.specs.Answers.{accepted, refused, refusal}
use Rattle.grid.proofs.Laying.{laid_refused}
use Rattle.places.specs.Finding.{place_found, found_in}
use Rattle.places.proofs.Finding.{found_inside}
use Rattle.reference.specs.inner.Parts.{offset_answer}
use Rattle.short_codes.specs.Text.{name_in}
use Rattle.short_codes.specs.inner.Parts.{text_at, text_nowhere}
use Rattle.short_codes.proofs.Reading.{short_at, short_badly, short_nowhere}
use Rattle.short_codes.proofs.read.Goals as goal
use Rattle.short_codes.proofs.read.Goals.{In-Ok, In-Err-NotInBook}

-- what the name leads to, where it was found and where no entry has it
found_there : (c : In-Ok) → found_in (name_in c.args.code.now) c.args.places.now ≡ accepted c.in-Ok.s
found_there c = ap (λ (n : List ℕ). found_in n c.args.places.now) (sym c.name_in.ensures) ∙ sym c.find.ensures ∙ ap place_found c.in-Ok.is

found_nowhere : (c : In-Err-NotInBook) → found_in (name_in c.args.code.now) c.args.places.now ≡ refused (refusal 22 0)
found_nowhere c = ap (λ (n : List ℕ). found_in n c.args.places.now) (sym c.name_in.ensures) ∙ sym c.find.ensures
    ∙ ap place_found c.in-Err-NotInBook.is ∙ rw c.in-Err-NotInBook.field-0-is

pub read_at-requires : goal.read_at-requires
read_at-requires c = found_inside _ c.args.places.now (λ i. omega (arith, c.type_inv.places i)) _ (found_there (goal.at.read_at-requires c).In-Ok)

pub returns-in-Ok-offset_of : goal.returns-in-Ok-offset_of
returns-in-Ok-offset_of c = let s = c.args in
    rw (← short_at s.code.now s.places.now c.in-Ok.s (found_there (goal.at.returns-in-Ok-offset_of c).In-Ok), ← c.offset_of.ensures, c.in-Ok-offset_of.is) c.read_at.ensures

pub returns-in-Err : goal.returns-in-Err
returns-in-Err c = let s = c.args in
    laid_refused s.line.now s.at (
    sym (short_at s.code.now s.places.now c.in-Ok.s (found_there (goal.at.returns-in-Err c).In-Ok))
    ∙ ap (text_at s.places.now c.in-Ok.s) (sym c.offset_of.ensures ∙ ap offset_answer c.in-Err.is))

pub returns-in-Err-BadlyFormed : goal.returns-in-Err-BadlyFormed
returns-in-Err-BadlyFormed c = let s = c.args in
    let e = ap (λ (n : List ℕ). found_in n s.places.now) (sym c.name_in.ensures) ∙ sym c.find.ensures ∙ ap place_found c.in-Err-BadlyFormed.is
    ∙ rw c.in-Err-BadlyFormed.field-0-is in
    laid_refused s.line.now s.at (sym (ap refused c.refuse.ensures ∙ short_badly s.code.now s.places.now e))

pub returns-in-Ok-offset_of-2 : goal.returns-in-Ok-offset_of-2
returns-in-Ok-offset_of-2 c = let s = c.args in
    laid_refused s.line.now s.at (
    sym (short_nowhere s.code.now s.places.now (found_nowhere (goal.at.returns-in-Ok-offset_of-2 c).In-Err-NotInBook))
    ∙ ap text_nowhere (sym c.offset_of-in-Err-NotInBook.ensures ∙ ap offset_answer c.in-Ok-offset_of-2.is) ∙ ap refused (sym c.refuse-in-Ok-offset_of-2.ensures))

pub returns-in-Err-offset_of : goal.returns-in-Err-offset_of
returns-in-Err-offset_of c = let s = c.args in
    laid_refused s.line.now s.at (
    sym (short_nowhere s.code.now s.places.now (found_nowhere (goal.at.returns-in-Err-offset_of c).In-Err-NotInBook))
    ∙ ap text_nowhere (sym c.offset_of-in-Err-NotInBook.ensures ∙ ap offset_answer c.in-Err-offset_of.is))
