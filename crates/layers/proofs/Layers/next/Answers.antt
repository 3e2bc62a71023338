-- `Layers::next` meets its contract. Assumes nothing.
use mathlib.Core.Path.{◌∙◌, ap}
use Prim.Native.Nat.{ℕ}
use lib.ListN.{get_or}
use Rattle.layers.specs.inner.Editions.{radices_of}
use Rattle.layers.specs.inner.Steps.{child_at}
use Rattle.layers.proofs.Radices.{edition_fair}
use Rattle.layers.proofs.Reading.{next_read, next_known}
use Rattle.layers.proofs.Layers.next.Goals as goal

pub returns-clause-read : goal.returns-clause-read
returns-clause-read c =
    next_read (radices_of c.args.edition) c.args.k (edition_fair c.args.edition) c.requires.0 c.requires.1 c.args.self c.requires.3 _ c.radix-r.ensures c.digit_below-v.ensures c.if-r-v.false
    ∙ ap (λ (p : ℕ). child_at (radices_of c.args.edition) c.args.k (get_or c.args.code.now p 0) c.args.self) c.height_place.ensures

pub returns-clause-known : goal.returns-clause-known
returns-clause-known c =
    next_known (radices_of c.args.edition) c.args.k (edition_fair c.args.edition) c.requires.0 c.requires.1 c.args.self c.requires.3 _ c.radix-r.ensures c.digit_below-v.ensures c.if-r-v.false
