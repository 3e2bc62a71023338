-- `layers::read` meets its contract: each turn reads a level. Assumes nothing.
use mathlib.Core.Path.{◌≡◌, refl, sym, ◌∙◌, subst}
use Prim.Native.Nat.{ℕ, ◌+◌}
use native.Mathlib.Omega.{arith}
use Rattle.std.proofs.lemmas.Result.{err_from_is_err_and}
use Rattle.layers.specs.declared.Layers.{Layers}
use Rattle.std.specs.Prelude.{Ok, Err}
use Rattle.layers.specs.inner.Editions.{radices_of}
use Rattle.layers.specs.inner.Steps.{standing, Upto}
use Rattle.layers.proofs.Places.{place_in}
use Rattle.layers.proofs.Radices.{edition_fair}
use Rattle.layers.proofs.Reading.{sized, digit_stands, upto_first, upto_next, upto_ended, upto_all, upto_bad}
use Rattle.layers.proofs.read.Goals as goal
use Rattle.layers.proofs.read.Goals.{then-k-level+in_ok-layers-2, else-k-level}

pub returns-in_err-layers : goal.returns-in_err-layers
returns-in_err-layers c =
    let p = err_from_is_err_and c.from_residual.result c.from_residual.ensures.1 in
    rw (p.1, p.2) (upto_bad (radices_of c.args.edition) c.args.level 1 (standing c.args.level c.args.code.now)
    (upto_first (radices_of c.args.edition) c.args.level c.args.code.now {h = Err c.in_err-layers.field-0.0} (edition_fair c.args.edition) c.requires c.in_err-layers.ensures.read tt))

pub loop-k-init : goal.loop-k-init
loop-k-init c = (omega arith, upto_first (radices_of c.args.edition) c.args.level c.args.code.now (edition_fair c.args.edition) c.requires c.in_ok-layers.ensures.read c.in_ok-layers.ensures.known)

pub next-requires : goal.next-requires
next-requires c =
    let k = c.loop-k.k in (
      omega arith,
      omega arith,
      place_in c.args.level (k + 2) c.requires.ten_levels c.requires.room (omega arith) refl,
      c.loop-k.invariant.1.known (omega arith),
    )

pub returns-in_err-layers-2 : goal.returns-in_err-layers-2
returns-in_err-layers-2 c =
    let p = err_from_is_err_and c.from_residual-in_err-layers-2.result c.from_residual-in_err-layers-2.ensures.1 in
    let rs = radices_of c.args.edition in
    let k = c.loop-k.k in
    rw (p.1, p.2) (upto_bad rs c.args.level (k + 1) (standing c.args.level c.args.code.now)
    (upto_next rs c.args.level k (standing c.args.level c.args.code.now) (edition_fair c.args.edition) c.loop-k.auto.k c.loop-k-test.true (sized c.requires) {h = Err c.in_err-layers-2.field-0.0} c.if-k-level.true c.loop-k.invariant.1
    (c.in_err-layers-2.ensures.read ∙ digit_stands c.requires rs k c.loop-k.layers c.if-k-level.true) tt))

pub loop-k-preserved : goal.loop-k-preserved
loop-k-preserved c =
    let rs = radices_of c.args.edition in
    let k = c.loop-k.k in
    let w = standing c.args.level c.args.code.now in
    let f = edition_fair c.args.edition in (
      omega arith,
      elim c.if-k-level.branch [
        | then-k-level+in_ok-layers-2 b ↦ subst (λ (m : Layers). Upto rs c.args.level (k + 1) w (Ok m)) (sym b.layers-is)
            (upto_next rs c.args.level k w f c.loop-k.auto.k c.loop-k-test.true (sized c.requires) b.if-k-level.true c.loop-k.invariant.1
            (b.in_ok-layers-2.ensures.read ∙ digit_stands c.requires rs k c.loop-k.layers b.if-k-level.true) b.in_ok-layers-2.ensures.known)
        | else-k-level b ↦ subst (λ (m : Layers). Upto rs c.args.level (k + 1) w (Ok m)) (sym b.layers-is)
            (upto_ended rs c.args.level k w f c.loop-k.auto.k c.loop-k-test.true (sized c.requires) b.if-k-level.false c.loop-k.invariant.1)
      ],
    )

pub returns : goal.returns
returns c =
    let e : c.loop-k.k ≡ 10 = omega arith in
    upto_all (radices_of c.args.edition) c.args.level (standing c.args.level c.args.code.now) (edition_fair c.args.edition) (sized c.requires)
    (subst (λ (k : ℕ). Upto (radices_of c.args.edition) c.args.level k (standing c.args.level c.args.code.now) (Ok c.loop-k.layers)) e c.loop-k.invariant.1)
