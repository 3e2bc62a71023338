-- The first two levels of a polar code: N000 or S000, and the digits of the polar cell.
-- Assumes nothing.
use mathlib.Core.Path.{◌≡◌, refl, sym, ◌∙◌, ap}
use mathlib.Core.Bool.{Bool, true, false}
use mathlib.Core.List.{List, [], ◌∷◌}
use Prim.Native.Nat.{ℕ, ◌+◌, ◌-◌, ◌≤◌}
use native.Mathlib.Omega.{arith}
use Rattle.std.proofs.Common.{append_assoc, drop-drop}
use lib.ListN.{length, set, take, length-set}
use lib.Seq.{sets, sets-eq}
use borrow.Rule.Slice.PartMut.{put_mid}
use borrow.Author.Tests.{le-ltb}
use Rattle.grid.specs.declared.Place.{Place}
use Rattle.grid.specs.Units.{POLAR, index, Square, OnGlobe}
use Rattle.grid.specs.Characters.{char_of}
use Rattle.grid.specs.Tree.{code}
use Rattle.grid.specs.Codes.{code_in}
use Rattle.grid.specs.Splits.{split_at}
use Rattle.grid.specs.inner.Roads.{square_of, digits_in, level_chars, LevelFits}
use Rattle.grid.specs.inner.Standing.{zone_place, level_place, plane_place, stands_at, spread}
use Rattle.grid.specs.Plane.{Node, letter, polar_cell_of, polar_node, plane_codes, digits_of, code_of}
use Rattle.grid.proofs.PlaneLaws.{side_unit}
use Rattle.grid.proofs.Arriving.{node_at}
use Rattle.grid.proofs.Levels.{LaidTo, first_room, laid_first, laid_fits, laid_more}
use Rattle.polar_write.specs.declared.Step.{Step}
use Rattle.polar_write.specs.inner.Spots.{first_chars, spot_in, Begun, PolarWritable}
use Rattle.polar_write.proofs.Reached.{first_node, second_node}
use Rattle.polar_write.proofs.Written.{polar_on, Done}

-- what level 1 leaves, in a plane code or in a space code
pub pole_stored : (spaced north : Bool) (l : List ℕ) {a at : ℕ} {m : List ℕ} → at + 3 ≤ length l → a ≡ char_of (letter north) → at ≡ zone_place spaced → m ≡ 48 ∷ 48 ∷ 48 ∷ []
    → put_mid at (at + 3 - at) (set l 0 a) m ≡ spread (stands_at spaced) 0 (first_chars north) l
unfolding plane_place char_of
pole_stored spaced north l {a} {at} {m} b e h f = go spaced h
  where
    laid : (n : ℕ) → n + 3 ≤ length l → put_mid n 3 (set l 0 a) (48 ∷ 48 ∷ 48 ∷ []) ≡ sets (set l 0 a) n (48 ∷ 48 ∷ 48 ∷ [])
    laid n b =
        rw (drop-drop 3 n (set l 0 a))
        (sym (append_assoc (take n (set l 0 a)) (48 ∷ 48 ∷ 48 ∷ []) _) ∙ sym (sets-eq (48 ∷ 48 ∷ 48 ∷ []) (set l 0 a) n (omega (arith, b, length-set l 0 a))))

    go : (q : Bool) → at ≡ zone_place q → put_mid at (at + 3 - at) (set l 0 a) m ≡ spread (stands_at q) 0 (first_chars north) l
    go true h = rw (h, f, ← e) (laid 2 (rw h at b))
    go false h = rw (h, f, ← e) (laid 1 (rw h at b))

module _ {spaced : Bool} {level : ℕ} {p : Place} {before : List ℕ} (W : PolarWritable spaced level p before) where
  abbrev s : Square
  s = square_of p

  on : OnGlobe s
  on = (polar_on p W.polar).0

  near : POLAR ≤ index s.latitude
  near = (polar_on p W.polar).1

  pub room_first : zone_place spaced + 3 ≤ length before
  room_first = first_room spaced W.level_low W.level_high W.room

  first_text : first_chars p.north ≡ code_of 1 s
  unfolding code_of code_in plane_codes code
  first_text = rw (le-ltb _ _ near, side_unit p.north p.y) refl

  module _ {line : List ℕ} {d : Step} (L : line ≡ spread (stands_at spaced) 0 (first_chars p.north) before) (B : Begun p d) where
    first_laid : LaidTo spaced level 1 s before line
    first_laid = laid_first on W.level_low W.level_high W.room (L ∙ ap (λ (w : List ℕ). spread (stands_at spaced) 0 w before) first_text)

    second_digits : digits_of (split_at 1) (node_at 1 s) s ≡ digits_in (split_at 1) d.digits
    second_digits = rw (first_node s on near, B.digits) refl

    pub second_fits : LevelFits level 1 (split_at 1) d.digits line (level_place spaced 1 (split_at 1))
    second_fits = laid_fits first_laid (omega arith) (omega arith) refl d.digits second_digits

    pub started : {after : List ℕ} → after ≡ sets line (level_place spaced 1 (split_at 1)) (level_chars level 1 (split_at 1) d.digits) → Done spaced level 2 p before after d.rest
    started A =
        let e : node_at 2 s ≡ polar_node p.north (polar_cell_of s) = second_node s on near ∙ ap (λ (b : Bool). polar_node b (polar_cell_of s)) (side_unit p.north p.y) in
        record {
          polar = W.polar;
          text = laid_more first_laid (omega arith) (omega arith) refl d.digits second_digits A;
          spot = B.stands ∙ ap (λ (n : Node). spot_in n s) (sym e);
        }
