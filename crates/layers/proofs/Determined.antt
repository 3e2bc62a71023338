-- Two results that one contract allows are equal, for each public function whose contract is no plain equation of its result.
-- Assumes nothing.
use mathlib.Core.Path.{◌≡◌, refl, sym, ◌∙◌, ap}
use mathlib.Core.Bool.{Bool}
use mathlib.Core.List.{List, map}
use Prim.Native.Nat.{ℕ}
use native.Mathlib.Omega.{arith}
use lib.IntN.{ℤ}
use lib.ListN.{get_or}
use Rattle.grid.specs.Characters.{digit_of}
use Rattle.grid.specs.Layers.{edition_in, product, part, floor_of}
use Rattle.grid.proofs.Cut.{clash}
use Rattle.std.specs.Prelude.{Result, Ok, Err}
use Rattle.grid.specs.declared.Refusal.{Refusal}
use Rattle.layers.specs.declared.Layer.{Layer}
use Rattle.layers.specs.declared.Layers.{Layers}
use Rattle.layers.specs.declared.Edition.{Edition}
use Rattle.layers.specs.declared.Edition.TheVariants.{First, Second}
use Rattle.layers.specs.inner.Editions.{radices_of, edition_asked}
use Rattle.layers.specs.Heights.{asked_of, layer_asked, height_read, layers_read}

asked_one : (a b : Result Layer Refusal) → layer_asked a ≡ layer_asked b → a ≡ b
asked_one (Ok l) (Ok m) e =
    let w : ◌≡◌ {A = Bool × ℕ} (l.above, l.rise) (m.above, m.rise) = cc in
    ap (λ (x : Bool × ℕ). Ok (record { rise = x.1; above = x.0 })) w
asked_one (Ok l) (Err r) e = clash (cc)
asked_one (Err r) (Ok m) e = clash (cc)
asked_one (Err r) (Err q) e = cc

pub layers_ask : (rs : List ℕ) (layer : ℤ) (a b : Result Layer Refusal) → layer_asked a ≡ asked_of rs layer → layer_asked b ≡ asked_of rs layer → a ≡ b
layers_ask rs layer a b e f = asked_one a b (e ∙ sym f)

read_one : (a b : Result Layers ℕ) → layers_read a ≡ layers_read b → a ≡ b
read_one (Ok m) (Ok n) e =
    let w : part m.lowest.above m.lowest.rise m.thickness ≡ part n.lowest.above n.lowest.rise n.thickness = cc in
    let a : m.lowest.above ≡ n.lowest.above = cc in
    let b : m.lowest.rise ≡ n.lowest.rise = cc in
    let c : m.thickness ≡ n.thickness = cc in
    ap (λ (x : (Bool × ℕ) × ℕ). Ok (record { lowest = record { rise = x.0.1; above = x.0.0 }; thickness = x.1 })) (λ i. ((a i, b i), c i))
read_one (Ok m) (Err i) e = clash (cc)
read_one (Err i) (Ok n) e = clash (cc)
read_one (Err i) (Err j) e = cc

pub layers_read_law : (rs : List ℕ) (level : ℕ) (digits : List ℕ) (a b : Result Layers ℕ)
    → layers_read a ≡ height_read rs level (map digit_of digits) → layers_read b ≡ height_read rs level (map digit_of digits) → a ≡ b
layers_read_law rs level digits a b e f = read_one a b (e ∙ sym f)

pub layers_floor : (rs : List ℕ) (above : Bool) (low : ℕ) (a b : ℤ)
    → ((n : ℕ) → a ≡ floor_of (product rs) (part above low n)) → ((n : ℕ) → b ≡ floor_of (product rs) (part above low n)) → a ≡ b
layers_floor rs above low a b e f = e 0 ∙ sym (f 0)

-- two editions that were asked for are one: the fourth radix tells them apart
edition_one : (a b : Result Edition Refusal) → edition_asked a ≡ edition_asked b → a ≡ b
edition_one (Ok p) (Ok q) e = ap Ok (same p q (cc))
  where
    same : (p q : Edition) → radices_of p ≡ radices_of q → p ≡ q
    same First First e = refl
    same Second Second e = refl
    same First Second e = absurd (let n : 15 ≡ 16 = ap (λ (w : List ℕ). get_or w 3 0) e in omega arith)
    same Second First e = absurd (let n : 16 ≡ 15 = ap (λ (w : List ℕ). get_or w 3 0) e in omega arith)
edition_one (Ok p) (Err r) e = clash (cc)
edition_one (Err r) (Ok q) e = clash (cc)
edition_one (Err r) (Err q) e = cc

pub layers_edition : (edition : ℤ) (a b : Result Edition Refusal) → edition_asked a ≡ edition_in edition → edition_asked b ≡ edition_in edition → a ≡ b
layers_edition edition a b e f = edition_one a b (e ∙ sym f)
