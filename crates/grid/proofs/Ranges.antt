-- Every cell that a plane code or a space code names lies in the ranges.
-- Assumes nothing.
use Rattle.std.proofs.Common.{◌≡◌, ℕ, suc, ◌+◌, ◌-◌, ◌*◌, ◌<◌, ◌≤◌, Bool, true, false, ltb, List, [], ℤ, pos, negsuc, ◌+ℤ◌, ◌≤ℤ◌, refl, subst, arith, le→leb, ltb-false}
use Rattle.grid.specs.declared.Cell.{Cell}
use Rattle.grid.specs.declared.SpaceCell.{SpaceCell}
use Rattle.grid.specs.Units.{TURN, HALF, QUARTER}
use Rattle.grid.specs.Answers.{accepted}
use Rattle.grid.specs.Cells.{RunIn, InRanges, SpaceInRanges}
use Rattle.grid.specs.Plane.{ordinary, belt, disc, Box, Node, globe, pole, cell, cap, least, least_from_pole, cell_from, cell_at, plane_codes, cell_of}
use Rattle.grid.specs.Layers.{edition_in, product, Stack, all, part, floor_of, thickness_of}
use Rattle.grid.specs.Space.{space_codes, space_cell_of}
use Rattle.grid.proofs.PlaneLaws.{Good, index_longitude_at, cell_positive, cap_positive}
use Rattle.grid.proofs.LayerLaws.{GoodStack, part_positive}
use Rattle.grid.proofs.Families.{found, found_good}
use Rattle.grid.proofs.Theorems.{plane_sound, space_sound, edition_fair, edition_some}

-- ---- n numbers from one on

from_up : (m a n : ℕ) → 0 < n → a + n ≤ m → RunIn m (pos a) n
from_up m a n p h = record { begins_in = omega arith; some = p; ends_in = record { le = le→leb (a + n) m h } }

from_below : (m a n : ℕ) → 0 < n → a < m → n ≤ suc a + m → RunIn m (negsuc a) n
from_below m a n p l h = record { begins_in = l; some = p; ends_in = go (ltb n (suc a)) refl }
  where
    go : (q : Bool) → ltb n (suc a) ≡ q → (negsuc a +ℤ pos n) ≤ℤ pos m
    go true e = rw e (record { le = tt })
    go false e = let k : suc a ≤ n = ltb-false n (suc a) e in rw e (record { le = le→leb (n - suc a) m (omega arith) })

-- on a side of 0, by their outward indices; and by their distances from a pole
on_side : (s : Bool) (m u n : ℕ) → 0 < n → u + n ≤ m → RunIn m (least s u n) n
on_side true m u n p h = from_up m u n p h
on_side false m u n p h = from_below m (u + n - 1) n p (omega arith) (omega arith)

from_pole_law : (s : Bool) (q n : ℕ) → 0 < n → q + n ≤ 663552000 → RunIn QUARTER (least_from_pole s q n) n
from_pole_law true q n p h = from_up QUARTER (663552000 - (q + n)) n p (omega arith)
from_pole_law false q n p h = from_below QUARTER (663551999 - q) n p (omega arith) (omega arith)

-- ---- plane cells

quarter_ranges : (l : ℕ) (n e : Bool) (b : Box) → (0 < b.w) × (0 < b.h) → b.x + b.w ≤ 1327104000 → b.y + b.h ≤ 663552000 → InRanges (cell_from l (least e b.x b.w) (least n b.y b.h) b.w b.h)
quarter_ranges l n e b p x y =
    record { west_in = (on_side e HALF b.x b.w p.0 x).begins_in; wide = p.0; at_most_a_turn = omega arith; rows_in = on_side n QUARTER b.y b.h p.1 y }

-- a cell that goes all round a pole
round_ranges : (l : ℕ) (n : Bool) (h : ℕ) → 0 < h → h ≤ 663552000 → InRanges (cell_from l (pos 0) (least_from_pole n 0 h) TURN h)
round_ranges l n h p q = record { west_in = omega arith; wide = omega arith; at_most_a_turn = omega arith; rows_in = from_pole_law n 0 h p (omega arith) }

cell_ranges : (l : ℕ) (n : Node) → Good [] n → InRanges (cell_at l n)
cell_ranges l globe g = record { west_in = omega arith; wide = omega arith; at_most_a_turn = omega arith; rows_in = from_below QUARTER 663551999 1327104000 (omega arith) (omega arith) (omega arith) }
cell_ranges l (pole n) g = round_ranges l n 14745600 (omega arith) (omega arith)
cell_ranges l (cell (ordinary n e) b) g =
    let y : b.y + b.h ≤ 648806400 = g.fit.high in
    quarter_ranges l n e b (cell_positive [] (ordinary n e) b g) g.fit.wide (omega arith)
cell_ranges l (cell (belt n e) b) g = quarter_ranges l n e b (cell_positive [] (belt n e) b g) g.fit.wide g.fit.high
cell_ranges l (cell (disc n) b) g =
    let p = cell_positive [] (disc n) b g in
    let q : 0 < b.w = p.0 in
    let x : b.x + b.w ≤ 2654208000 = g.fit.wide in
    let y : b.y + b.h ≤ 7372800 = g.fit.high in
    record { west_in = index_longitude_at b.x (omega arith); wide = q; at_most_a_turn = omega arith; rows_in = from_pole_law n b.y b.h p.1 (omega arith) }
cell_ranges l (cap n h) g =
    let y : h ≤ 7372800 = g.fit in
    round_ranges l n h (cap_positive [] h g) (omega arith)

-- west, south and the north edge of every accepted plane code's cell lie in their ranges
pub plane_in_ranges : (w : List ℕ) (c : Cell) → cell_of w ≡ accepted c → InRanges c
unfolding cell_of plane_codes plane_sound
plane_in_ranges w c e =
    let f = found plane_codes plane_sound w c e in
    subst (λ (x : Cell). InRanges x) f.same (cell_ranges f.l f.node (found_good plane_codes plane_sound w c f))

-- ---- space cells

stack_ranges : (top : ℕ) (n : Stack) → 0 < top → GoodStack top [] n → RunIn top (floor_of top n) (thickness_of top n)
stack_ranges top all p g = from_below top (top - 1) (2 * top) (omega arith) (omega arith) (omega arith)
stack_ranges top (part true low n) p g = from_up top low n (part_positive top [] n g.even) g.fit
stack_ranges top (part false low n) p g =
    let q : 0 < n = part_positive top [] n g.even in
    let h : low + n ≤ top = g.fit in
    from_below top (top - 1 - low) n q (omega arith) (omega arith)

-- and floor and top of every cell that an edition's space code names
pub space_in_ranges : (edition : ℤ) (rs w : List ℕ) (c : SpaceCell) → edition_in edition ≡ accepted rs → space_cell_of rs w ≡ accepted c → SpaceInRanges (product rs) c
unfolding space_cell_of space_codes space_sound
space_in_ranges edition rs w c h e =
    let S = space_sound rs (edition_fair edition rs h) in
    let f = found (space_codes rs) S w c e in
    let g = found_good (space_codes rs) S w c f in
    subst (λ (x : SpaceCell). SpaceInRanges (product rs) x) f.same
    (record { plan_in = cell_ranges f.l f.node.0 g.0; layers_in = stack_ranges (product rs) f.node.1 (edition_some edition rs h) g.1 })
