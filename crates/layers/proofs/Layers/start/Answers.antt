-- `Layers::start` meets its contract. Assumes nothing.
use native.Mathlib.Omega.{arith}
use Rattle.layers.specs.inner.Editions.{radices_of}
use Rattle.layers.proofs.Places.{place_in}
use Rattle.layers.proofs.Radices.{edition_fair}
use Rattle.layers.proofs.Reading.{started}
use Rattle.layers.proofs.Layers.start.Goals as goal

pub bounds-code-height_place : goal.bounds-code-height_place
bounds-code-height_place c = place_in 1 0 (omega arith) c.requires (omega arith) c.height_place.ensures

pub bounds-code-height_place-2 : goal.bounds-code-height_place-2
bounds-code-height_place-2 c = place_in 1 1 (omega arith) c.requires (omega arith) c.height_place-2.ensures

pub bounds-code-height_place-3 : goal.bounds-code-height_place-3
bounds-code-height_place-3 c = place_in 1 2 (omega arith) c.requires (omega arith) c.height_place-3.ensures

pub returns-clause-read : goal.returns-clause-read
returns-clause-read c =
    started (radices_of c.args.edition) c.args.code.now _ (edition_fair c.args.edition) c.requires c.height_place.ensures c.height_place-2.ensures c.height_place-3.ensures
    c.digit_below-s.ensures c.digit_below-a.ensures c.digit_below-b.ensures c.first.ensures.read
