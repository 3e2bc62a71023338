-- What a derived `default` fills in. Assumes nothing.
use Rattle.std.proofs.Common.{◌≡◌}
use Rattle.hailgully.specs.declared.HgRefusal.{HgRefusal}
use Rattle.hailgully.specs.Results.{no_refusal}

-- three zeros are no refusal
pub no_refusal_is : {q : HgRefusal} → (q.number ≡ 0) × ((q.ordinal ≡ 0) × (q.place ≡ 0)) → q ≡ no_refusal
no_refusal_is e = λ j. record { number = e.0 j; ordinal = e.1.0 j; place = e.1.1 j }
