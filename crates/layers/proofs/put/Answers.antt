-- `layers::put` meets its contract: each turn adds a level. Assumes nothing.
use mathlib.Core.Path.{◌≡◌, ◌∙◌, ap, subst}
use Prim.Native.Nat.{ℕ, ◌+◌, ◌-◌, ◌/◌, ◌%◌}
use native.Mathlib.Omega.{arith}
use Rattle.layers.specs.inner.Editions.{radices_of}
use Rattle.layers.proofs.Places.{place_in}
use Rattle.grid.specs.inner.Standing.{height_place, spread_back}
use Rattle.layers.proofs.Writing.{later_height_at, none_stored, one_stored, LaidAfter, laid_none, laid_next, first_ready, laid_all}
use Rattle.layers.proofs.put.Goals as goal
use Rattle.layers.proofs.put.Goals.{then-k-level, else-k-level, After-loop-k}

pub loop-k-init : goal.loop-k-init
loop-k-init c = (omega arith, laid_none c.requires)

pub bounds-line-height_place : goal.bounds-line-height_place
bounds-line-height_place c =
    let w = c.loop-k.invariant.1.writable in
    place_in c.args.level (c.loop-k.k - 1 + 2) w.ten_levels w.room (omega arith) c.height_place.ensures

pub loop-k-preserved : goal.loop-k-preserved
loop-k-preserved c =
    let k = c.loop-k.k - 1 in
    let rs = radices_of c.args.edition in
    let l : c.if-k-level.line ≡ spread_back height_place (k + 2) (later_height_at rs c.args.level k c.loop-k.n) c.loop-k.line =
    elim c.if-k-level.branch [
      | then-k-level w ↦ w.line-is
          ∙ one_stored rs c.args.level k c.loop-k.n c.loop-k.line w.if-k-level.true w.height_place.ensures (ap (λ (r : ℕ). c.loop-k.n % r) c.radix-r.ensures) w.character.ensures
      | else-k-level w ↦ w.line-is ∙ none_stored rs c.args.level k c.loop-k.n c.loop-k.line w.if-k-level.false
    ] in
    (omega arith, laid_next c.loop-k.k c.loop-k-test.true c.loop-k.auto.k c.loop-k.invariant.1 l (ap (λ (r : ℕ). c.loop-k.n / r) c.radix-r.ensures))

-- at the end level 1 is left
last : (c : After-loop-k) → LaidAfter c.args.edition c.args.level c.args.layer.above c.args.layer.rise c.args.line.now 1 c.loop-k.n c.loop-k.line
last c = let e : c.loop-k.k ≡ 1 = omega arith in
    subst (λ (k : ℕ). LaidAfter c.args.edition c.args.level c.args.layer.above c.args.layer.rise c.args.line.now k c.loop-k.n c.loop-k.line) e c.loop-k.invariant.1

pub put_first-requires : goal.put_first-requires
put_first-requires c = first_ready (last (goal.at.put_first-requires c).After-loop-k)

pub returns : goal.returns
returns c = (laid_all (last (goal.at.returns c).After-loop-k) c.put_first.ensures).0
