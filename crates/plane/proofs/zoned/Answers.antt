-- `plane::zoned` meets its contract. Assumes nothing.
use Rattle.std.proofs.Common.{◌≡◌, ap, ◌∙◌, arith}
use Rattle.grid.specs.Splits.{first}
use Rattle.plane.proofs.Start.{tens_high, ones_high, zone_high, zone_some, zone_pole, zone_no_pole}
use Rattle.plane.proofs.zoned.Goals as goal
use Rattle.plane.proofs.zoned.Goals.{After-split_of-zones}

zones : (c : After-split_of-zones) → c.split_of-zones.result.columns ≡ first.columns
zones c = ap (λ s. s.columns) c.split_of-zones.ensures

pub returns-then-zones-b : goal.returns-then-zones-b
returns-then-zones-b c = (tens_high _ _ _ _ (zones (goal.at.returns-then-zones-b c).After-split_of-zones) c.if-zones-b.true, tt)

pub returns-then-c-gt9 : goal.returns-then-c-gt9
returns-then-c-gt9 c = (ones_high _ _ _ _ (zones (goal.at.returns-then-c-gt9 c).After-split_of-zones) c.if-zones-b.false c.if-c-gt9.true, tt)

pub overflow_mul-z : goal.overflow_mul-z
overflow_mul-z c = let e = zones (goal.at.overflow_mul-z c).After-split_of-zones in omega (arith, e)

pub overflow_add-z : goal.overflow_add-z
overflow_add-z c = let e = zones (goal.at.overflow_add-z c).After-split_of-zones in omega (arith, e)

pub returns-then-zones-z : goal.returns-then-zones-z
returns-then-zones-z c = (zone_high _ _ _ _ (zones (goal.at.returns-then-zones-z c).After-split_of-zones) c.if-zones-b.false c.if-c-gt9.false c.if-zones-z.true, tt)

pub lettered-requires : goal.lettered-requires
lettered-requires c = let e = zones (goal.at.lettered-requires c).After-split_of-zones in (c.if-z-gt0.true, omega (arith, e))

pub returns-then-z-gt0 : goal.returns-then-z-gt0
returns-then-z-gt0 c = let e = zones (goal.at.returns-then-z-gt0 c).After-split_of-zones in
    (c.lettered.ensures.0 ∙ zone_some _ _ _ _ e c.if-zones-b.false c.if-c-gt9.false c.if-zones-z.false c.if-z-gt0.true, c.lettered.ensures.1)

pub returns-then-d-eq0 : goal.returns-then-d-eq0
returns-then-d-eq0 c = let e = zones (goal.at.returns-then-d-eq0 c).After-split_of-zones in
    (zone_pole _ _ _ _ e c.if-zones-b.false c.if-c-gt9.false c.if-z-gt0.false c.if-d-eq0.true, tt)

pub returns-else-d-eq0 : goal.returns-else-d-eq0
returns-else-d-eq0 c = let e = zones (goal.at.returns-else-d-eq0 c).After-split_of-zones in
    (zone_no_pole _ _ _ _ e c.if-zones-b.false c.if-c-gt9.false c.if-z-gt0.false c.if-d-eq0.false, tt)
