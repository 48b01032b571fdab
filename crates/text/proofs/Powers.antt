-- The words of a power.
use Rattle.std.proofs.Common.{◌≡◌, ℕ, zero, suc, ◌∷◌, ◌++◌, pos, sym, ap, ◌∙◌, append_assoc, append-nil}
use Rattle.field.specs.Sentence.{Term}
use Rattle.grammar.specs.Meaning.{power, term_words}
use Rattle.text.specs.Sheet.{copies, products}

pub power_words : (t : Term) (n : ℕ) → term_words (power t (suc n)) ≡ products n ++ (term_words t ++ copies n (term_words t))
unfolding power term_words copies products
power_words t zero = sym (append-nil (term_words t))
power_words t (suc n) =
    ap (λ l. pos 9 ∷ l) (ap (λ l. l ++ term_words t) (power_words t n) ∙ append_assoc (products n) (term_words t ++ copies n (term_words t)) (term_words t) ∙
    ap (λ l. products n ++ l) (append_assoc (term_words t) (copies n (term_words t)) (term_words t)))
