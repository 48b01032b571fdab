-- The main theorem, by induction over the quantifiers, from the innermost. Assumes nothing.
use Rattle.std.proofs.Common.{◌≡◌, suc, Bool, true, false, ltb, List, [], ◌∷◌, length, sym, refl, ap, subst, inl, inr}
use Rattle.field.specs.declared.sign.Sign.{Sign}
use Rattle.field.specs.declared.sign.Sign.TheVariants.{Neg, Zero, Pos}
use Rattle.field.specs.Sign.{sign_of}
use Rattle.field.specs.Field.{RealClosedField}
use Rattle.field.specs.Sentence.{Formula, Sentence, Satisfies, Quantified, reverse_onto, Holds}
use Rattle.poly.specs.Poly.{the_number}
use Rattle.poly.proofs.Equality.{sign_number}
use Rattle.poly.proofs.Theorems.{value_laws}
use Rattle.sign_table.specs.Tree.{Tree, Yes, No, GivenUp, Ask, by_sign}
use Rattle.sign_table.specs.Meaning.{Says, YesOrNo, DepthTree}
use Rattle.decision.specs.FormulaTree.{formula_tree}
use Rattle.decision.specs.Asked.{questions}
use Rattle.decision.specs.Eliminate.{eliminated}
use Rattle.decision.specs.Decide.{decided, plain, sentence_tree, decide}
use Rattle.decision.specs.Theorems.{Decides, OneQuantifier, Main}
use Rattle.decision.proofs.AskNothing.{given_up_refused}
use Rattle.decision.proofs.FormulaTree.{Depth-formula_tree, tree_right}
use Rattle.decision.proofs.Eliminate.{Depth-eliminated, unless, eliminates}

-- a sentence with an answer hasn't too many questions
not_too_many : (s : Sentence) (what : Tree) → YesOrNo what → decide s ≡ what → plain (decided s.quantifiers (sentence_tree s)) ≡ what
unfolding decide
not_too_many s what y = test (ltb (questions (sentence_tree s)) 3500)
  where
    test : (b : Bool) → unless b (plain (decided s.quantifiers (sentence_tree s))) ≡ what → plain (decided s.quantifiers (sentence_tree s)) ≡ what
    test true h = h
    test false h = given_up_refused y (sym h)

module _ {R : Type 0} (f : RealClosedField R) where
  by_number : (s : Sign) (x y z a b c : Tree) → Says f x a [] → Says f y b [] → Says f z c [] →
      by_sign s (Says f (by_sign s x y z) a []) (Says f (by_sign s x y z) b []) (Says f (by_sign s x y z) c [])
  by_number Neg x y z a b c ha hb hc = ha
  by_number Zero x y z a b c ha hb hc = hb
  by_number Pos x y z a b c ha hb hc = hc

  plain_says : (t : Tree) → DepthTree 0 t → Says f (plain t) t []
  unfolding plain Says DepthTree
  plain_says Yes d = refl
  plain_says No d = refl
  plain_says GivenUp d = refl
  plain_says (Ask p a b c) d =
      let s = sign_of (the_number p) in
      let w = by_sign s (plain a) (plain b) (plain c) in
      subst (λ r. by_sign r (Says f w a []) (Says f w b []) (Says f w c [])) (sym (sign_number f p d.0))
      (by_number s (plain a) (plain b) (plain c) a b c (plain_says a d.1) (plain_says b d.2) (plain_says c d.3))

  -- at e the tree says yes only if H is so, and no only if it isn't
  abbrev SpeaksOf : Tree → List R → Type 0 → Type 0
  SpeaksOf t e H = (Says f Yes t e → H) × (Says f No t e → H → ⊥)

  quantifier_speaks : (q : Bool) (e : List R) (t : Tree) (rest : List Bool) (p : Formula) → DepthTree (suc (length e)) t →
      ((x : R) → SpeaksOf t (x ∷ e) (Quantified f (x ∷ e) rest p)) → SpeaksOf (eliminated (length e) q t) e (Quantified f e (q ∷ rest) p)
  unfolding Quantified
  quantifier_speaks false e t rest p d h = (
    (λ s. let (x, y) = (eliminates f).some_yes t e d s in (x, (h x).0 y)),
    λ s k. let (x, y) = k in (h x).1 ((eliminates f).some_no t e d s x) y,
  )
  quantifier_speaks true e t rest p d h = (
    (λ s x. (h x).0 ((eliminates f).every_yes t e d s x)),
    λ s k. let (x, y) = (eliminates f).every_no t e d s in (h x).1 y (k x),
  )

  decided_right : (qs rest : List Bool) (p : Formula) (t : Tree) → DepthTree (length qs) t →
      ((e : List R) → length e ≡ length qs → SpeaksOf t e (Quantified f e rest p)) →
      (plain (decided qs t) ≡ Yes → Quantified f [] (reverse_onto qs rest) p) × (plain (decided qs t) ≡ No → Quantified f [] (reverse_onto qs rest) p → ⊥)
  unfolding decided reverse_onto
  decided_right [] rest p t d h =
      ((λ q. (h [] refl).0 (subst (λ w. Says f w t []) q (plain_says t d))), λ q. (h [] refl).1 (subst (λ w. Says f w t []) q (plain_says t d)))
  decided_right (q ∷ qs) rest p t d h =
      decided_right qs (q ∷ rest) p (eliminated (length qs) q t) (Depth-eliminated (length qs) q t d)
      (λ e l. subst (λ n. SpeaksOf (eliminated n q t) e (Quantified f e (q ∷ rest) p)) l
      (quantifier_speaks q e t rest p (subst (λ n. DepthTree (suc n) t) (sym l) d) (λ x. h (x ∷ e) (ap suc l))))

  right : (s : Sentence) → (plain (decided s.quantifiers (sentence_tree s)) ≡ Yes → Holds f s) × (plain (decided s.quantifiers (sentence_tree s)) ≡ No → Holds f s → ⊥)
  unfolding Quantified DepthTree
  right s =
      decided_right s.quantifiers [] s.body (sentence_tree s) (Depth-formula_tree (length s.quantifiers) s.body Yes No tt tt)
      (λ e l. subst (λ n. SpeaksOf (formula_tree n s.body Yes No) e (Satisfies f e s.body)) l ((tree_right f).tree_yes s.body e, (tree_right f).tree_no s.body e))

  pub decides : Decides f
  decides = record { yes_holds = λ s h. (right s).0 (not_too_many s Yes (inl refl) h); no_fails = λ s h. (right s).1 (not_too_many s No (inr refl) h) }

pub main : {R : Type 0} (f : RealClosedField R) → Main f
main f = (decides f, (value_laws f, (tree_right f, eliminates f)))

pub one-quantifier : {R : Type 0} (f : RealClosedField R) → OneQuantifier f
unfolding Quantified reverse_onto
one-quantifier f =
    record {
      some_holds = λ p. (decides f).yes_holds (record { quantifiers = false ∷ []; body = p });
      some_fails = λ p h x s. (decides f).no_fails (record { quantifiers = false ∷ []; body = p }) h (x, s);
      every_holds = λ p. (decides f).yes_holds (record { quantifiers = true ∷ []; body = p });
      every_fails = λ p. (decides f).no_fails (record { quantifiers = true ∷ []; body = p });
    }
