-- `Layers::first` meets its contract. Assumes nothing.
use native.Mathlib.Omega.{arith}
use Rattle.layers.specs.inner.Editions.{radices_of}
use Rattle.layers.proofs.Radices.{edition_fair}
use Rattle.layers.proofs.Reading.{first_fits, first_read, first_known}
use Rattle.layers.proofs.Layers.first.Goals as goal

pub overflow_mul-result-2 : goal.overflow_mul-result-2
overflow_mul-result-2 c =
    let f = first_fits (radices_of c.args.edition) c.args.s c.args.a c.args.b (edition_fair c.args.edition) _ c.thickness-t.ensures (omega arith) in
    record { fits = omega arith }

pub returns-clause-read : goal.returns-clause-read
returns-clause-read c =
    first_read (radices_of c.args.edition) c.args.s c.args.a c.args.b (edition_fair c.args.edition) _ c.thickness-t.ensures (omega arith) c.if-s-ge2.false (omega arith) c.if-b-gt9.false

pub returns-clause-known : goal.returns-clause-known
returns-clause-known c = first_known (radices_of c.args.edition) c.args.s c.args.a c.args.b (edition_fair c.args.edition) _ c.thickness-t.ensures (omega arith)
