-- `places::contents` meets its contract. Assumes nothing.
use mathlib.Core.Path.{◌∙◌}
use Prim.Native.Nat.{◌+◌, ◌*◌, ◌≤◌}
use lib.ListN.{length}
use native.Mathlib.Omega.{arith}
use Rattle.places.proofs.Sizes.{no_count, too_long, too_many, no_contents, in_contents, count_is, contents_are}
use Rattle.places.proofs.contents.Goals as goal
use Rattle.places.proofs.contents.Goals.{then-places-gt65535-via-then-places-gt65535, then-places-gt65535-via-else-places-gt65535+then-k-gt1000, then-places-gt65535-via-else-places-gt65535+else-k-gt1000+then-rest-k}

pub returns-in_err-count : goal.returns-in_err-count
returns-in_err-count c = rw c.from_residual.ensures (no_count c.args.places.now c.in_err-count.ensures.cases)

pub returns-then-places-gt65535 : goal.returns-then-places-gt65535
returns-then-places-gt65535 c = let s = c.args.places.now in
    let f = c.in_ok-count.ensures.cases in
    let head : 2 ≤ length s = omega (arith, f.2) in
    let k = count_is s head f.0 (c.from-k.ensures ∙ c.from_be_bytes.ensures) in
    elim c.then-places-gt65535.branch [
      | then-places-gt65535-via-then-places-gt65535 w ↦ too_long s head w.if-places-gt65535.true
      | then-places-gt65535-via-else-places-gt65535+then-k-gt1000 w ↦ too_many s head w.if-places-gt65535.false k w.if-k-gt1000.true
      | then-places-gt65535-via-else-places-gt65535+else-k-gt1000+then-rest-k w ↦
          no_contents s head w.if-places-gt65535.false k w.if-k-gt1000.false (omega (arith, f.2, w.if-rest-k.true))
    ]

pub returns : goal.returns
returns c = let s = c.args.places.now in
    let f = c.in_ok-count.ensures.cases in
    let head : 2 ≤ length s = omega (arith, f.2) in
    let k = count_is s head f.0 (c.from-k.ensures ∙ c.from_be_bytes.ensures) in
    let room : 2 + 4 * c.from-k.result ≤ length s = omega (arith, f.2, c.if-rest-k.false) in
    let e = contents_are s c.from-k.result c.if-places-gt65535.false c.if-k-gt1000.false f.1 room f.2 c.as_chunks.ensures.front c.as_chunks.ensures.front_len k in
    (in_contents s head c.if-places-gt65535.false k c.if-k-gt1000.false room, e)
