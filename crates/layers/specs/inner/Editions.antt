-- The edition that is asked for, and its list of radices.
-- Assumes nothing.
use Rattle.std.specs.Prelude.{List, ℕ, Result, Ok, Err}
use Rattle.grid.specs.declared.Refusal.{Refusal}
use Rattle.grid.specs.Answers.{Answer, accepted, refused}
use Rattle.grid.specs.Layers.{ours, theirs}
use Rattle.layers.specs.declared.Edition.{Edition}
use Rattle.layers.specs.declared.Edition.TheVariants.{First, Second}

-- an edition's radices
abbrev pub radices_of : Edition → List ℕ
radices_of First = ours
radices_of Second = theirs

-- the radices of the edition that was asked for, or the refusal
abbrev pub edition_asked : Result Edition Refusal → Answer (List ℕ)
edition_asked (Ok e) = accepted (radices_of e)
edition_asked (Err r) = refused r
