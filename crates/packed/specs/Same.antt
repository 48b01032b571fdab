-- Lists of monomials are the same if they are equal. Assumes nothing.
use Rattle.std.proofs.Common.{◌≡◌, true, T, List, sym, subst}
use Rattle.std.specs.Cmp.{IsPartialEquivalence, IsEquivalence, equiv}
use Rattle.terms.specs.Monomial.{Monomial}
use Rattle.terms.specs.Operations.{same_terms}
use Rattle.terms.proofs.Tests.{T-same, T_true}
use Rattle.terms.proofs.Variables.{same_terms-equal, same_terms_refl}

holds : (p q : List Monomial) → same_terms p q ≡ true → T (same_terms p q)
holds p q e = subst T (sym e) tt

pub same_terms-per : IsPartialEquivalence same_terms
same_terms-per =
    record {
      symm = λ p q. T-same (same_terms p q) (same_terms q p) (λ t. subst (λ r. T (same_terms r p)) (same_terms-equal p q t) (same_terms_refl p))
          (λ t. subst (λ r. T (same_terms r q)) (same_terms-equal q p t) (same_terms_refl q));
      trans = λ p q r e f. subst (λ s. same_terms p s ≡ true) (same_terms-equal q r (holds q r f)) e;
    }

pub same_terms-equivalence : IsEquivalence same_terms
same_terms-equivalence = equiv same_terms-per (λ p. T_true (same_terms p p) (same_terms_refl p))
