-- What is promised, in every real closed field: a quantifier is eliminated rightly, and a sentence's answer is right. Assumes nothing.
use Rattle.std.specs.Prelude.{◌≡◌, ℕ, suc, true, false, List, [], ◌∷◌, length, ℤ, Some}
use Rattle.field.specs.Field.{RealClosedField}
use Rattle.field.specs.Sentence.{Formula, Sentence, Satisfies, Holds}
use Rattle.poly.specs.Theorems.{ValueLaws}
use Rattle.words.specs.Words.{sentence_of}
use Rattle.sign_table.specs.Tree.{Tree, Yes, No}
use Rattle.sign_table.specs.Meaning.{Says, DepthTree}
use Rattle.decision.specs.FormulaTree.{formula_tree}
use Rattle.decision.specs.Eliminate.{eliminated}
use Rattle.decision.specs.Decide.{decide}
use Rattle.decision.specs.Answer.{answer, verdict}

module _ {R : Type 0} (f : RealClosedField R) where
  -- A formula's tree says yes only where the formula is satisfied, and no only where it isn't.
  pub record TreeRight : Type 0 where
    pub tree_yes : (p : Formula) (e : List R) → Says f Yes (formula_tree (length e) p Yes No) e → Satisfies f e p
    pub tree_no : (p : Formula) (e : List R) → Says f No (formula_tree (length e) p Yes No) e → Satisfies f e p → ⊥

  -- A quantifier over the first variable x is eliminated: what is left, at the values e of the other variables,
  -- says yes only where the tree says yes at some x (or at every x), and no only where it says no at every x (or at some x).
  pub record Eliminates : Type 0 where
    pub some_yes : (t : Tree) (e : List R) → DepthTree (suc (length e)) t → Says f Yes (eliminated (length e) false t) e → (x : R) × Says f Yes t (x ∷ e)
    pub some_no : (t : Tree) (e : List R) → DepthTree (suc (length e)) t → Says f No (eliminated (length e) false t) e → (x : R) → Says f No t (x ∷ e)
    pub every_yes : (t : Tree) (e : List R) → DepthTree (suc (length e)) t → Says f Yes (eliminated (length e) true t) e → (x : R) → Says f Yes t (x ∷ e)
    pub every_no : (t : Tree) (e : List R) → DepthTree (suc (length e)) t → Says f No (eliminated (length e) true t) e → (x : R) × Says f No t (x ∷ e)

  -- A sentence, of however many quantifiers, that is answered yes holds, and one that is answered no doesn't.
  pub record Decides : Type 0 where
    pub yes_holds : (s : Sentence) → decide s ≡ Yes → Holds f s
    pub no_fails : (s : Sentence) → decide s ≡ No → Holds f s → ⊥

  -- The same of one quantifier, said of numbers: some x with p, and p of every x.
  pub record OneQuantifier : Type 0 where
    pub some_holds : (p : Formula) → decide (record { quantifiers = false ∷ []; body = p }) ≡ Yes → (x : R) × Satisfies f (x ∷ []) p
    pub some_fails : (p : Formula) → decide (record { quantifiers = false ∷ []; body = p }) ≡ No → (x : R) → Satisfies f (x ∷ []) p → ⊥
    pub every_holds : (p : Formula) → decide (record { quantifiers = true ∷ []; body = p }) ≡ Yes → (x : R) → Satisfies f (x ∷ []) p
    pub every_fails : (p : Formula) → decide (record { quantifiers = true ∷ []; body = p }) ≡ No → ((x : R) → Satisfies f (x ∷ []) p) → ⊥

  -- The answers to words, and the verdicts of a call that is lent so many numbers: 1 is for a sentence that holds, 0 for one that doesn't.
  pub record AnswersRight : Type 0 where
    pub one_holds : (words : List ℤ) → answer words ≡ 1 → (s : Sentence) × (sentence_of words ≡ Some s) × Holds f s
    pub zero_fails : (words : List ℤ) → answer words ≡ 0 → (s : Sentence) × (sentence_of words ≡ Some s) × (Holds f s → ⊥)
    pub verdict_one_holds : (words : List ℤ) (lent : ℕ) → verdict words lent ≡ 1 → (s : Sentence) × (sentence_of words ≡ Some s) × Holds f s
    pub verdict_zero_fails : (words : List ℤ) (lent : ℕ) → verdict words lent ≡ 0 → (s : Sentence) × (sentence_of words ≡ Some s) × (Holds f s → ⊥)

-- The main theorem: sentences are decided rightly; with what that rests on: polynomials have their terms' values, trees say what formulas say, and quantifiers are eliminated.
abbrev pub Main : {R : Type 0} → RealClosedField R → Type 0
Main f = Decides f × (ValueLaws f × (TreeRight f × Eliminates f))
