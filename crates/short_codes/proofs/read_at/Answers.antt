-- `short_codes::read_at` meets its contract. Assumes nothing.
use mathlib.Core.Path.{◌≡◌}
use Prim.Native.Nat.{◌+◌, ◌-◌}
use native.Mathlib.Omega.{arith}
use Rattle.short_codes.proofs.read_at.Goals as goal

pub returns : goal.returns
returns c = let p = c.args.s in
    let u : p.start + p.name + p.code - (p.start + p.name) ≡ p.code = omega arith in
    rw u at c.read_by.ensures
