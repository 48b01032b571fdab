-- The number of a term and the outline of a formula, a kind at a time, from those of the parts.
use Rattle.std.proofs.Common.{◌≡◌, ℕ, ◌-◌, cond, List, [], ◌∷◌, ℤ, pos, negsuc, ◌+ℤ◌, ◌*ℤ◌, Some, None, refl, ap}
use lib.Dec.{leb-suc-zero}
use Rattle.field.specs.Sentence.{Term, Num, Sum, Product, Formula, BelowZero, EqualsZero, Not, And, Or}
use Rattle.words.specs.declared.kind.Kind.{Kind}
use Rattle.words.specs.Reading.{Reading, Refused, Read, mapped, two, meant, if_some}
use Rattle.words.specs.Kind.{kind_of}
use Rattle.words.specs.Words.{term_at, term_by, formula_at, formula_by, variable_of}
use Rattle.words.specs.Words as words
use Rattle.words.proofs.Words.{term_none, term_open, formula_none, formula_open, formula_of_kind, mapped-two}
use Rattle.words.specs.declared.answer.Answer.TheVariants.{Yes, No}
use Rattle.ground.specs.Ground.{modest, on_both, number_of}
use Rattle.ground.specs.declared.outline.Outline.{Outline}
use Rattle.ground.specs.Outline.{outline_of, compared, negated, conjoined}

mapped-mapped : {A B C : Type 0} (h : B → C) (g : A → B) (k : A → C) → ((a : A) → h (g a) ≡ k a) → (m : Reading A) → mapped h (mapped g m) ≡ mapped k m
mapped-mapped h g k e Refused = refl
mapped-mapped h g k e (Read a zs) = ap (λ c. Read c zs) (e a)

module _ (go : List ℤ → Reading Term) (zs : List ℤ) where
  pub number-number : mapped number_of (term_by 0 go Kind.Number zs) ≡ mapped modest (meant words.number_of zs)
  unfolding number_of
  number-number = mapped-mapped number_of Num modest (λ z. refl) (meant words.number_of zs)

  pub sum_number : mapped number_of (term_by 0 go Kind.Sum zs) ≡ two (on_both (λ x y. modest (x +ℤ y))) (λ ws. mapped number_of (go ws)) zs
  unfolding number_of
  sum_number = mapped-two number_of number_of Sum (on_both (λ x y. modest (x +ℤ y))) (λ s t. refl) go zs

  pub product-number : mapped number_of (term_by 0 go Kind.Product zs) ≡ two (on_both (λ x y. modest (x *ℤ y))) (λ ws. mapped number_of (go ws)) zs
  unfolding number_of
  product-number = mapped-two number_of number_of Product (on_both (λ x y. modest (x *ℤ y))) (λ s t. refl) go zs

-- there are no variables
pub no_variable : (zs : List ℤ) → meant (variable_of 0) zs ≡ Refused
no_variable [] = refl
no_variable (pos i ∷ zs) = ap (λ b. if_some (cond b (Some i) None) zs) (leb-suc-zero i)
no_variable (negsuc i ∷ zs) = refl

module _ (term : List ℤ → Reading Term) (go : List ℤ → Reading Formula) (zs : List ℤ) where
  pub below_outline : mapped outline_of (formula_by term go Kind.BelowZero zs) ≡ mapped (λ v. compared v Yes No No 1 2) (mapped number_of (term zs))
  unfolding outline_of
  below_outline = twice (term zs)
    where
      twice : (m : Reading Term) → mapped outline_of (mapped BelowZero m) ≡ mapped (λ v. compared v Yes No No 1 2) (mapped number_of m)
      twice Refused = refl
      twice (Read t more) = refl

  pub equals_outline : mapped outline_of (formula_by term go Kind.EqualsZero zs) ≡ mapped (λ v. compared v No Yes No 1 2) (mapped number_of (term zs))
  unfolding outline_of
  equals_outline = twice (term zs)
    where
      twice : (m : Reading Term) → mapped outline_of (mapped EqualsZero m) ≡ mapped (λ v. compared v No Yes No 1 2) (mapped number_of m)
      twice Refused = refl
      twice (Read t more) = refl

  pub not_outline : mapped outline_of (formula_by term go Kind.Not zs) ≡ mapped negated (mapped outline_of (go zs))
  unfolding outline_of
  not_outline = twice (go zs)
    where
      twice : (m : Reading Formula) → mapped outline_of (mapped Not m) ≡ mapped negated (mapped outline_of m)
      twice Refused = refl
      twice (Read p more) = refl

  pub and_outline : mapped outline_of (formula_by term go Kind.And zs) ≡ two conjoined (λ ws. mapped outline_of (go ws)) zs
  unfolding outline_of
  and_outline = mapped-two outline_of outline_of And conjoined (λ p q. refl) go zs

  pub or_outline : mapped outline_of (formula_by term go Kind.Or zs) ≡ two (λ p q. negated (conjoined (negated p) (negated q))) (λ ws. mapped outline_of (go ws)) zs
  unfolding outline_of
  or_outline = mapped-two outline_of outline_of Or (λ p q. negated (conjoined (negated p) (negated q))) (λ p q. refl) go zs

-- the outline that a formula reads as, once its kind is known
pub outline_by_kind : (d : ℕ) (zs rest more : List ℤ) (k kind : Kind) (made o : Outline) → (d ≡ 0 → ⊥) → Read k rest ≡ meant kind_of zs → k ≡ kind → made ≡ o →
    Read o more ≡ mapped outline_of (formula_by (term_at (d - 1) 0) (formula_at (d - 1) 0) kind rest) → Read made more ≡ mapped outline_of (formula_at d 0 zs)
outline_by_kind d zs rest more k kind made o deep e is h by =
    rw (formula_of_kind d 0 zs rest k deep e, is, ← by) (ap (λ v. Read v more) h)

-- the level below, with its numbers
pub ruleset term_steps = (term_none, term_open, number-number, sum_number, product-number, no_variable)

-- the level below, with its outlines
pub ruleset formula_steps = (formula_none, formula_open, below_outline, equals_outline, not_outline, and_outline, or_outline)
