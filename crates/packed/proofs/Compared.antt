-- Two lists of monomials whose iterators were compared. Assumes nothing.
use Rattle.std.proofs.Common.{◌≡◌, Bool, true, false, ◌&&◌, eqb, List, [], ◌∷◌, int_eq, Option, None, Some, refl, subst, MatchOption, IfSome, sym, ap, ◌∙◌, ap₂}
use Rattle.std.specs.List.{AllZip}
use Rattle.std.specs.Iterator.{YieldsFirstBy, YieldsThen, ComparesItemsByEq}
use Rattle.terms.specs.Monomial.{Monomial}
use Rattle.terms.specs.Operations.{same_terms}
use Rattle.packed.specs.declared.term.Term.{Term}
use Rattle.packed.specs.Terms.{monomial_in}
use Rattle.packed.proofs.Signed.{same_cons, same_none, terms_test}

abbrev Gives : List Monomial → Option Term → List Monomial → Type 0
Gives = YieldsFirstBy monomial_in (λ rest. rest)

abbrev term_eq : Term → Term → Bool
term_eq a b = eqb a.key b.key && int_eq a.coefficient b.coefficient

abbrev Last : Bool → Option Term → Option Term → Type 0
Last r None None = r ≡ true
Last r None (Some y) = r ≡ false
Last r (Some x) None = r ≡ false
Last r (Some x) (Some y) = (r ≡ false) × (term_eq x y ≡ false)

heads : (x y : Term) (s t u v : List Monomial) → s ≡ monomial_in x ∷ u → t ≡ monomial_in y ∷ v → same_terms s t ≡ term_eq x y && same_terms u v
heads x y s t u v e f =
    ap₂ same_terms e f ∙ same_cons (monomial_in x) (monomial_in y) u v ∙ sym (ap (λ b. b && same_terms u v) (terms_test x y))

last : (r : Bool) (o p : Option Term) → MatchOption o (MatchOption p (r ≡ true) (λ _. r ≡ false)) (λ x. (r ≡ false) × IfSome p (λ y. term_eq x y ≡ false)) → Last r o p
last r None None l = l
last r None (Some y) l = l
last r (Some x) None l = l.0
last r (Some x) (Some y) l = l

none-some : (m : Monomial) (ms : List Monomial) → same_terms [] (m ∷ ms) ≡ false
unfolding same_terms
none-some m ms = refl

some-none : (m : Monomial) (ms : List Monomial) → same_terms (m ∷ ms) [] ≡ false
unfolding same_terms
some-none m ms = refl

compared : (r : Bool) (s t : List Monomial) (xs ys : List Term) (o p : Option Term) (u v : List Monomial) → YieldsThen Gives s xs o u → YieldsThen Gives t ys p v →
    AllZip (λ x y. term_eq x y ≡ true) xs ys → Last r o p → r ≡ same_terms s t
compared r s t [] [] None None u v a b z l = l ∙ sym (ap₂ same_terms (a.1 ∙ a.2.0) (b.1 ∙ b.2.0) ∙ same_none)
compared r s t [] [] None (Some y) u v a b z l = l ∙ sym (ap₂ same_terms (a.1 ∙ a.2.0) (b.1 ∙ b.2) ∙ none-some (monomial_in y) v)
compared r s t [] [] (Some x) None u v a b z l = l ∙ sym (ap₂ same_terms (a.1 ∙ a.2) (b.1 ∙ b.2.0) ∙ some-none (monomial_in x) u)
compared r s t [] [] (Some x) (Some y) u v a b z l =
    l.0 ∙ sym (heads x y s t u v (a.1 ∙ a.2) (b.1 ∙ b.2) ∙ ap (λ b. b && same_terms u v) l.1)
compared r s t (x ∷ xs) [] o p u v a b z l = absurd z
compared r s t [] (y ∷ ys) o p u v a b z l = absurd z
compared r s t (x ∷ xs) (y ∷ ys) o p u v a b z l =
    let left = a.1 in
    let right = b.1 in
    compared r left.0 right.0 xs ys o p u v (a.0, left.2, a.2) (b.0, right.2, b.2) z.1 l ∙
    sym (heads x y s t left.0 right.0 left.1 right.1 ∙ ap (λ b. b && same_terms left.0 right.0) z.0)

-- `eq` of two iterators answers whether the lists are the same
pub same_compared : (s t : List Monomial) (r : Bool) → ComparesItemsByEq Gives (λ a b. b ≡ a) Gives s t term_eq r → r ≡ same_terms s t
same_compared s t r c =
    compared r s t c.1 c.2 c.3 c.4 c.5 c.6 c.8 (subst (λ w. YieldsThen Gives w c.2 c.4 c.6) c.7 c.9) c.10 (last r c.3 c.4 c.11)
