-- At most the last key.
use Rattle.std.proofs.Common.{◌≡◌, ◌*◌, ◌^◌, ap₂, div-mul-le_self, arith}
use Rattle.terms.specs.LeadingTerms.{leading_key, last_key}
use Rattle.packed.specs.Terms.{terms_in}
use Rattle.packed.proofs.Leading.{last-below}
use Rattle.packed.proofs.Lowered.{view-keys}
use Rattle.packed.proofs.view.View.leading_key.Goals as goal

pub returns-clause-bound : goal.returns-clause-bound
returns-clause-bound c =
    let ts = terms_in c.args.self.now in
    let e : c.degree.result * c.digit_place.result ≡ leading_key c.args.others.count ts = ap₂ ◌*◌ c.degree.ensures.value c.digit_place.ensures.value in
    omega (arith, e, div-mul-le_self (last_key ts) (32 ^ c.args.others.count), last-below (2 ^ 19) ts (view-keys c.args.self.now) (omega arith))
