-- `layers::put_first` meets its contract. Assumes nothing.
use Prim.Native.Nat.{◌/◌, ◌%◌}
use native.Mathlib.Omega.{arith}
use lib.ListN.{length-set}
use Rattle.grid.proofs.Characters.{char_decimal}
use Rattle.layers.proofs.Places.{place_in}
use Rattle.layers.proofs.Writing.{first_stored}
use Rattle.layers.proofs.put_first.Goals as goal

pub bounds-line-height_place : goal.bounds-line-height_place
bounds-line-height_place c = place_in 1 0 (omega arith) c.requires.1 (omega arith) c.height_place.ensures

pub bounds-line-height_place-2 : goal.bounds-line-height_place-2
bounds-line-height_place-2 c = simp length-set (place_in 1 1 (omega arith) c.requires.1 (omega arith) c.height_place-2.ensures)

pub bounds-line-height_place-3 : goal.bounds-line-height_place-3
bounds-line-height_place-3 c = simp length-set (place_in 1 2 (omega arith) c.requires.1 (omega arith) c.height_place-3.ensures)

pub returns : goal.returns
returns c = first_stored c.args.above c.args.n c.args.line.now c.height_place.ensures c.height_place-2.ensures c.height_place-3.ensures c.sign_of.ensures (char_decimal (c.args.n / 10) (omega (arith, c.requires.0))) (char_decimal (c.args.n % 10) (omega arith))
