-- `Edition::thickness` meets its contract: the iterator multiplies the radices from the one after level k on. Assumes nothing.
use mathlib.Core.Path.{◌≡◌, ◌∙◌}
use Prim.Native.Nat.{ℕ, ◌*◌}
use native.Mathlib.Omega.{arith}
use lib.ListN.{drop}
use Rattle.std.proofs.Common.{map-id}
use Rattle.std.proofs.lemmas.Iterator.{YieldsList-from_slice}
use Rattle.std.proofs.lemmas.Iterator.Adapters.{total_from_yields_List}
use Rattle.layers.specs.inner.Editions.{radices_of}
use Rattle.layers.specs.inner.Steps.{thickness_at}
use Rattle.layers.proofs.Radices.{edition_fair, ten, thick_some, thick_fits}
use Rattle.layers.proofs.Products.{fold_product, runs_fit, rest_all}
use Rattle.layers.proofs.Edition.thickness.Goals as goal
use Rattle.layers.proofs.Edition.thickness.Goals.{After-iter}

-- what is multiplied
left : (c : After-iter) → c.iter.result.rest.now ≡ drop c.args.k (radices_of c.args.self)
left c = c.iter.ensures.rest ∙ rest_all c.args.k c.radices.ensures (ten (radices_of c.args.self) (edition_fair c.args.self))

pub product-requires-clause-fits : goal.product-requires-clause-fits
unfolding thickness_at
product-requires-clause-fits c =
    runs_fit _ _ _ 4294967296 (YieldsList-from_slice (drop c.args.k (radices_of c.args.self)) (left (goal.at.product-requires-clause-fits c).After-iter))
    (thick_some (radices_of c.args.self) c.args.k (edition_fair c.args.self))
    (omega (arith, thick_fits (radices_of c.args.self) c.args.k (edition_fair c.args.self)))

pub returns : goal.returns
unfolding thickness_at
returns c =
    total_from_yields_List (λ a x. a * x) 1 _ c.product.ensures.ran (YieldsList-from_slice (drop c.args.k (radices_of c.args.self)) (left (goal.at.returns c).After-iter))
    ∙ fold_product (λ (x : ℕ). x) 1 (drop c.args.k (radices_of c.args.self)) ∙ rw (map-id (drop c.args.k (radices_of c.args.self))) (omega arith)
