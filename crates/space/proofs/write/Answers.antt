-- `space::write` meets its contract. Assumes nothing.
use mathlib.Core.Path.{◌≡◌, refl, sym, ◌∙◌}
use mathlib.Core.List.{List}
use Prim.Native.Nat.{ℕ, ◌-◌, ◌≤◌}
use native.Mathlib.Omega.{arith}
use lib.ListN.{length, get_or, length-drop, length-take}
use mir.Facts.{to_z-of_z}
use borrow.Author.Rules.{rules}
use Rattle.std.proofs.lemmas.Result.{err_from_is_err_and}
use Rattle.grid.specs.Answers.{accepted}
use Rattle.grid.specs.Layers.{edition_in, product}
use Rattle.grid.specs.Space.{space_code_of, space_lengths}
use Rattle.grid.specs.inner.Roads.{square_of}
use Rattle.grid.proofs.Laying.{laid_refused, laid_narrow_by, laid_lent}
use Rattle.layers.specs.Heights.{asked_of}
use Rattle.layers.specs.inner.Editions.{radices_of}
use Rattle.layers.specs.inner.Steps.{layer_of}
use Rattle.layers.proofs.Sides.{asked_at}
use Rattle.plane.specs.Text.{level_in, square_in}
use Rattle.plane.proofs.Asking.{level_known, position_fits}
use Rattle.std.specs.Prelude.{Ok}
use Rattle.space.specs.Space.{space_text}
use Rattle.space.specs.inner.Asking.{SpaceFits}
use Rattle.space.proofs.Tables.{length_at}
use Rattle.space.proofs.Writing.{text_1, text_13, text_2, text_4, text_all, space_length}
use Rattle.space.proofs.write.Goals as goal
use Rattle.space.proofs.write.Goals.{In_ok-level, In_ok-edition, In_ok-place, In_ok-layer, Else-room_from-length_of}

-- ---- what was asked for, as far as it was accepted

level_is : (c : In_ok-level) → accepted c.in_ok-level.level ≡ level_in c.args.level
level_is c = rw (to_z-of_z c.ranges.level) at c.in_ok-level.ensures

edition_is : (c : In_ok-edition) → accepted (radices_of c.in_ok-edition.edition) ≡ edition_in c.args.edition
edition_is c = rw (to_z-of_z c.ranges.edition) at c.in_ok-edition.ensures

place_is : (c : In_ok-place) → accepted (square_of c.in_ok-place.place) ≡ square_in 1 c.args.longitude c.args.latitude
place_is c = rw (to_z-of_z c.ranges.longitude, to_z-of_z c.ranges.latitude) at c.in_ok-place.ensures

layer_is : (c : In_ok-layer) → accepted (c.in_ok-layer.layer.above, c.in_ok-layer.layer.rise) ≡ asked_of (radices_of c.in_ok-edition.edition) c.args.layer
layer_is c = rw (to_z-of_z c.ranges.layer) at c.in_ok-layer.ensures

-- ---- each refusal

pub returns-in_err-level : goal.returns-in_err-level
returns-in_err-level c =
    let p = err_from_is_err_and c.from_residual.result c.from_residual.ensures.1 in
    rw (p.1, p.2) (laid_refused c.args.line.now c.args.at (sym (text_1 c.args.edition c.args.level c.args.longitude c.args.latitude c.args.layer
    (rw (to_z-of_z c.ranges.level) at c.in_err-level.ensures))))

pub returns-in_err-edition : goal.returns-in_err-edition
returns-in_err-edition c =
    let p = err_from_is_err_and c.from_residual-in_err-edition.result c.from_residual-in_err-edition.ensures.1 in
    let at = goal.at.returns-in_err-edition c in
    rw (p.1, p.2) (laid_refused c.args.line.now c.args.at (sym (text_13 c.args.edition c.args.level c.args.longitude c.args.latitude c.args.layer
    (level_is at.In_ok-level) (rw (to_z-of_z c.ranges.edition) at c.in_err-edition.ensures))))

pub returns-in_err-place : goal.returns-in_err-place
returns-in_err-place c =
    let p = err_from_is_err_and c.from_residual-in_err-place.result c.from_residual-in_err-place.ensures.1 in
    let at = goal.at.returns-in_err-place c in
    rw (p.1, p.2) (laid_refused c.args.line.now c.args.at (sym (text_2 c.args.edition c.args.level c.args.longitude c.args.latitude c.args.layer
    (level_is at.In_ok-level) (edition_is at.In_ok-edition) (rw (to_z-of_z c.ranges.longitude, to_z-of_z c.ranges.latitude) at c.in_err-place.ensures))))

pub returns-in_err-layer : goal.returns-in_err-layer
returns-in_err-layer c =
    let p = err_from_is_err_and c.from_residual-in_err-layer.result c.from_residual-in_err-layer.ensures.1 in
    let at = goal.at.returns-in_err-layer c in
    rw (p.1, p.2) (laid_refused c.args.line.now c.args.at (sym (text_4 c.args.edition c.args.level c.args.longitude c.args.latitude c.args.layer
    (level_is at.In_ok-level) (edition_is at.In_ok-edition) (place_is at.In_ok-place) (rw (to_z-of_z c.ranges.layer) at c.in_err-layer.ensures))))

-- ---- once all of it was accepted

levels : (c : In_ok-level) → (1 ≤ c.in_ok-level.level) × (c.in_ok-level.level ≤ 10)
levels c = level_known c.args.level (sym (level_is c))

pub length_of-requires : goal.length_of-requires
length_of-requires c = levels (goal.at.length_of-requires c).In_ok-level

pub length_of-requires-2 : goal.length_of-requires-2
length_of-requires-2 c = levels (goal.at.length_of-requires-2 c).In_ok-level

-- the level, the place and the layer fit
fits : (c : In_ok-layer) → SpaceFits c.in_ok-edition.edition c.in_ok-level.level c.in_ok-place.place c.in_ok-layer.layer.rise
fits c =
    let l = level_known c.args.level (sym (rw (to_z-of_z c.ranges.level) at c.in_ok-level.ensures)) in
    let p = position_fits 1 c.args.longitude c.args.latitude {a = Ok c.in_ok-place.place} (rw (to_z-of_z c.ranges.longitude, to_z-of_z c.ranges.latitude) at c.in_ok-place.ensures) refl in
    record { level_low = l.0; level_high = l.1; wide = p.0; high = p.1; rise_in = (asked_at (radices_of c.in_ok-edition.edition) c.args.layer (sym (layer_is c))).1 }

-- what is to be laid down, and how long it is
abbrev code : (c : In_ok-layer) → List ℕ
code c =
    space_code_of (radices_of c.in_ok-edition.edition) c.in_ok-level.level (square_of c.in_ok-place.place, layer_of (product (radices_of c.in_ok-edition.edition)) c.in_ok-layer.layer.above c.in_ok-layer.layer.rise)

text : (c : In_ok-layer) → accepted (code c) ≡ space_text c.args.edition c.args.level c.args.longitude c.args.latitude c.args.layer
text c =
    text_all c.args.edition c.args.level c.args.longitude c.args.latitude c.args.layer (rw (to_z-of_z c.ranges.level) at c.in_ok-level.ensures) (rw (to_z-of_z c.ranges.edition) at c.in_ok-edition.ensures)
    (rw (to_z-of_z c.ranges.longitude, to_z-of_z c.ranges.latitude) at c.in_ok-place.ensures) (layer_is c)

long : (c : In_ok-layer) → length (code c) ≡ get_or space_lengths (c.in_ok-level.level - 1) 0
long c = space_length c.in_ok-edition.edition c.in_ok-level.level c.in_ok-place.place c.in_ok-layer.layer.rise c.in_ok-layer.layer.above (fits c)

-- where there is room from the place on, the place is in the line
inside : (c : Else-room_from-length_of) → c.args.at ≤ length c.args.line.now
inside c =
    let l = level_known c.args.level (sym (rw (to_z-of_z c.ranges.level) at c.in_ok-level.ensures)) in
    omega (arith, c.if-room_from-length_of.false, c.room_from.ensures, c.length_of.ensures, length_at c.in_ok-level.level l.0 l.1)

pub returns-then-room_from-length_of : goal.returns-then-room_from-length_of
returns-then-room_from-length_of c =
    let at = (goal.at.returns-then-room_from-length_of c).In_ok-layer in
    laid_narrow_by c.args.line.now c.args.at _ c.refuse.ensures (sym (text at)) (long at ∙ sym c.length_of.ensures) (omega (arith, c.if-room_from-length_of.true, c.room_from.ensures))

pub slice_bounds-put-count : goal.slice_bounds-put-count
slice_bounds-put-count c = inside (goal.at.slice_bounds-put-count c).Else-room_from-length_of

pub slice_bounds-put-start : goal.slice_bounds-put-start
slice_bounds-put-start c = search (rules, inside (goal.at.slice_bounds-put-start c).Else-room_from-length_of)

pub put-requires : goal.put-requires
put-requires c = (fits (goal.at.put-requires c).In_ok-layer, simp (length-take, length-drop) (omega (arith, c.length_of.ensures, c.if-room_from-length_of.false, c.room_from.ensures)))

pub returns : goal.returns
returns c =
    let at = (goal.at.returns c).In_ok-layer in
    laid_lent c.args.line.now c.args.at _ (sym (text at)) (long at ∙ sym c.length_of-2.ensures) (inside (goal.at.returns c).Else-room_from-length_of)
    (omega (arith, c.if-room_from-length_of.false, c.room_from.ensures, c.length_of.ensures, c.length_of-2.ensures)) c.put.ensures
