-- One step of a loop over lists of monomials: of a merge, of a product, and the last key. Assumes nothing.
use Rattle.std.proofs.Common.{◌≡◌, ◌<◌, not, T, List, [], ◌∷◌, length, get_or, ◌+ℤ◌, refl, ap, arith, T_not}
use Rattle.poly.specs.Poly.{is_zero_number}
use Rattle.terms.specs.Monomial.{Monomial, monomial}
use Rattle.terms.specs.Operations.{put_term, merge_term, add_terms, scale_terms, add_product}
use Rattle.terms.specs.LeadingTerms.{last_key}
use Rattle.terms.proofs.Coefficients.{merge_cases, put_cases}

pub add_none : (s : List Monomial) → add_terms s [] ≡ s
unfolding add_terms merge_term
add_none [] = refl
add_none (m ∷ s) = ap (λ l. m ∷ l) (add_none s)

pub none_add : (s : List Monomial) → add_terms [] s ≡ s
unfolding add_terms
none_add s = refl

pub add_less : (a b : Monomial) (p q : List Monomial) → a.key < b.key → add_terms (a ∷ p) (b ∷ q) ≡ a ∷ add_terms p (b ∷ q)
unfolding add_terms
add_less a b p q l = merge_cases a b (add_terms p) q (λ ts. ts ≡ a ∷ add_terms p (b ∷ q)) (λ _. refl) (λ g. absurd (omega arith)) (λ e. absurd (omega arith))

pub add-greater : (a b : Monomial) (p q : List Monomial) → b.key < a.key → add_terms (a ∷ p) (b ∷ q) ≡ b ∷ add_terms (a ∷ p) q
unfolding add_terms
add-greater a b p q l = merge_cases a b (add_terms p) q (λ ts. ts ≡ b ∷ merge_term a (add_terms p) q) (λ g. absurd (omega arith)) (λ _. refl) (λ e. absurd (omega arith))

pub add-equal : (a b : Monomial) (p q : List Monomial) → a.key ≡ b.key → add_terms (a ∷ p) (b ∷ q) ≡ put_term (monomial a.key (a.times +ℤ b.times)) (add_terms p q)
unfolding add_terms
add-equal a b p q l = merge_cases a b (add_terms p) q (λ ts. ts ≡ put_term (monomial a.key (a.times +ℤ b.times)) (add_terms p q)) (λ g. absurd (omega arith)) (λ g. absurd (omega arith)) (λ _. refl)

pub put_zero : (m : Monomial) (ms : List Monomial) → T (is_zero_number m.times) → put_term m ms ≡ ms
put_zero m ms t = put_cases m ms (λ ts. ts ≡ ms) (λ _. refl) (λ s. absurd (T_not (is_zero_number m.times) s t))

pub put_more : (m : Monomial) (ms : List Monomial) → T (not (is_zero_number m.times)) → put_term m ms ≡ m ∷ ms
put_more m ms t = put_cases m ms (λ ts. ts ≡ m ∷ ms) (λ s. absurd (T_not (is_zero_number m.times) t s)) (λ _. refl)

pub product_cons : (m : Monomial) (p q acc : List Monomial) → add_product (m ∷ p) q acc ≡ add_terms (scale_terms m.key m.times q) (add_product p q acc)
unfolding add_product
product_cons m p q acc = refl

pub last_key_at : (d m : Monomial) (ms : List Monomial) → last_key (m ∷ ms) ≡ (get_or (m ∷ ms) (length ms) d).key
unfolding last_key
last_key_at d m [] = refl
last_key_at d m (k ∷ ms) = last_key_at d k ms
