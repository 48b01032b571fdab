-- What is made of two polynomials, of their monomials and of two terms. Assumes nothing.
use Rattle.std.specs.Prelude.{ℕ, List}
use Rattle.field.specs.Sentence as sentence
use Rattle.field.specs.Sentence.{Term}
use Rattle.poly.specs.Poly.{Poly}
use Rattle.poly.specs.Arithmetic.{sum, product}
use Rattle.terms.specs.Monomial.{Monomial}
use Rattle.terms.specs.Operations.{add_terms, mul_terms}
use Rattle.sentence_tree.specs.declared.operation.Operation.{Operation}
use Rattle.sentence_tree.specs.declared.operation.Operation.TheVariants.{Sum, Product}

abbrev pub combined : Operation → ℕ → Poly → Poly → Poly
combined Sum = sum
combined Product = product

abbrev pub combined_lists : Operation → List Monomial → List Monomial → List Monomial
combined_lists Sum = add_terms
combined_lists Product = mul_terms

abbrev pub combined_term : Operation → Term → Term → Term
combined_term Sum = sentence.Sum
combined_term Product = sentence.Product
