-- `plane::stray` meets its contract. Assumes nothing.
use Rattle.plane.proofs.Start.{stray_small, stray_is}
use Rattle.std.proofs.Common.{rules}
use Rattle.plane.proofs.stray.Goals as goal

pub overflow_mul-result : goal.overflow_mul-result
overflow_mul-result c = stray_small _ _ (search rules) (search rules)

pub returns : goal.returns
returns c = stray_is _ _ _ c.wrapping_sub_u8-from_n.ensures.value c.wrapping_sub_u8-from_s.ensures.value (search rules) (search rules)
