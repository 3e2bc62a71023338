-- `plane::stands_for` meets its contract. Assumes nothing.
use Rattle.std.proofs.Common.{◌≡◌, pos, sym, ap, ◌∙◌, lt_of_lt_of_le, lit≤, to_z-of_z, w64, w32, SFits, to_z, of_z, rules}
use mir.ValLaws.{to_z_pos}
use Rattle.grid.specs.Units.{index}
use Rattle.grid.specs.Answers.{accepted}
use Rattle.grid.specs.Ends.{unit_in}
use Rattle.grid.proofs.Ends.{unit_own, unit_end, unit_outside}
use Rattle.plane.proofs.stands_for.Goals as goal
use Rattle.plane.proofs.stands_for.Goals.{After-outward}

-- the index, as it is tested
across : (c : After-outward) → c.outward.result ≡ index c.args.u
across c = c.outward.ensures ∙ ap index (to_z-of_z c.ranges.u)

pub returns-then-outward-half : goal.returns-then-outward-half
returns-then-outward-half c r =
    ap accepted (to_z-of_z c.ranges.u)
    ∙ sym (unit_own r c.args.half c.args.up c.args.u (rw (across (goal.at.returns-then-outward-half c).After-outward) at c.if-outward-half.true))

pub returns-then-u-half : goal.returns-then-u-half
returns-then-u-half c r = let e : c.args.u ≡ pos c.args.half = sym (to_z-of_z c.ranges.u) ∙ ap (to_z w64) c.if-u-half.true ∙ to_z_pos w64 c.args.half (lt_of_lt_of_le c.requires.1 (lit≤ tt)) in
    let n = c.number_on.result in
    let k : SFits w64 n = search rules in
    let h : SFits w64 (to_z w32 (of_z w32 n)) = rw (to_z-of_z {w = w32} {z = n} (record { sfits = c.number_on.type_inv })) k in
    ap accepted (to_z-of_z h ∙ to_z-of_z {w = w32} {z = n} (record { sfits = c.number_on.type_inv }) ∙ c.number_on.ensures) ∙ sym (ap (unit_in r c.args.half c.args.up) e ∙ unit_end r c.args.half c.args.up)

pub returns : goal.returns
returns c r =
    sym (unit_outside r c.args.half c.args.up c.args.u (rw (across (goal.at.returns c).After-outward) at c.if-outward-half.false) (λ e. c.if-u-half.false (ap (of_z w64) e)))
