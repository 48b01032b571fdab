-- A tree followed question by question.
use Rattle.std.proofs.Common.{◌≡◌, ℕ, ◌+◌, ◌*◌, ◌<◌, ◌≤◌, min, List, length, get_or, ℤ, sym, refl, ap, ◌∙◌, subst, arith}
use Rattle.field.specs.declared.sign.Sign.{Sign}
use Rattle.field.specs.declared.sign.Sign.TheVariants.{Neg, Zero, Pos}
use Rattle.sign_table.specs.Tree as sign
use Rattle.words.specs.declared.answer.Answer.{Answer}
use Rattle.question.specs.declared.tree.Tree.{Tree}
use Rattle.question.specs.declared.tree.Tree.TheVariants.{Yes, No, GivenUp, Question as Numbered}
use Rattle.question.specs.Nodes.{node_at, chosen}
use Rattle.question.specs.Denote.{Earlier, IsTree}
use Rattle.question.specs.Follow.{answer_by, answer_tree, Follows}

module _ (cells : List ℤ) (limit : ℕ) (t : Tree) (signs : List Sign) where
  pub follows_yes : t ≡ Yes → Follows cells limit t signs Answer.Yes
  unfolding IsTree answer_by
  follows_yes e ps sg sign.Yes h l m = refl
  follows_yes e ps sg sign.No h l m = absurd (cc)
  follows_yes e ps sg sign.GivenUp h l m = absurd (cc)
  follows_yes e ps sg (sign.Ask p a b c) h l m = let i = h.is in absurd (cc)

  pub follows_no : t ≡ No → Follows cells limit t signs Answer.No
  unfolding IsTree answer_by
  follows_no e ps sg sign.Yes h l m = absurd (cc)
  follows_no e ps sg sign.No h l m = refl
  follows_no e ps sg sign.GivenUp h l m = absurd (cc)
  follows_no e ps sg (sign.Ask p a b c) h l m = let i = h.is in absurd (cc)

  pub follows_given_up : t ≡ GivenUp → Follows cells limit t signs Answer.GivenUp
  unfolding IsTree answer_by
  follows_given_up e ps sg sign.Yes h l m = absurd (cc)
  follows_given_up e ps sg sign.No h l m = absurd (cc)
  follows_given_up e ps sg sign.GivenUp h l m = refl
  follows_given_up e ps sg (sign.Ask p a b c) h l m = let i = h.is in absurd (cc)

  -- a question that was never asked, or not before the limit, is no tree
  pub follows_beyond : (i len : ℕ) → t ≡ Numbered i → length cells ≤ 5 * len → min limit len ≤ i → (r : Answer) → Follows cells limit t signs r
  unfolding IsTree
  follows_beyond i len e long o r ps sg sign.Yes h l m = absurd (cc)
  follows_beyond i len e long o r ps sg sign.No h l m = absurd (cc)
  follows_beyond i len e long o r ps sg sign.GivenUp h l m = absurd (cc)
  follows_beyond i len e long o r ps sg (sign.Ask p a b c) h l m =
      let is = h.is in
      let same : h.place ≡ i = cc in
      let before : i < limit = subst (Earlier limit) e l in
      let inside : 5 * h.place + 5 ≤ length cells = h.inside in absurd (omega arith)

  pub follows_question : (i : ℕ) → t ≡ Numbered i → (s : Sign) → s ≡ get_or signs (node_at cells i).polynomial Zero → (r : Answer) →
      Follows cells i (chosen (node_at cells i) s) signs r → Follows cells limit t signs r
  unfolding IsTree answer_by
  follows_question i e s at r f ps sg sign.Yes h l m = absurd (cc)
  follows_question i e s at r f ps sg sign.No h l m = absurd (cc)
  follows_question i e s at r f ps sg sign.GivenUp h l m = absurd (cc)
  follows_question i e s at r f ps sg (sign.Ask p a b c) h l m =
      let is = h.is in
      let same : h.place ≡ i = cc in
      let j = h.place in
      let f' : Follows cells j (chosen (node_at cells j) s) signs r = subst (λ n. Follows cells n (chosen (node_at cells n) s) signs r) (sym same) f in
      let at' : s ≡ get_or signs (node_at cells j).polynomial Zero = subst (λ n. s ≡ get_or signs (node_at cells n).polynomial Zero) (sym same) at in
      let given : s ≡ sg p = at' ∙ m (node_at cells j).polynomial h.named ∙ ap sg h.about in
      led s f' ∙ ap (λ u. sign.by_sign u (answer_by sg a) (answer_by sg b) (answer_by sg c)) given
    where
      led : (u : Sign) → Follows cells h.place (chosen (node_at cells h.place) u) signs r →
          answer_tree r ≡ sign.by_sign u (answer_by sg a) (answer_by sg b) (answer_by sg c)
      led Neg g = g ps sg a h.below h.below_earlier m
      led Zero g = g ps sg b h.at h.at_earlier m
      led Pos g = g ps sg c h.above h.above_earlier m
