-- A tree in lent memory stays what it is while more is asked, and a new question is the tree that it should be.
use Rattle.std.proofs.Common.{◌≡◌, ℕ, ◌+◌, ◌*◌, ◌<◌, ◌≤◌, List, [], ◌++◌, length, get_or, ℤ, pos, sym, refl, ap, ◌∙◌, subst, append-nil, arith, length-append, get_or-append-add}
use lib.ListN.{get_or-append}
use Rattle.std.proofs.lemmas.Bool.Decides.{nat_tests}
use Rattle.poly.specs.Poly.{Poly, End}
use Rattle.sign_table.specs.Tree as sign
use Rattle.decision.specs.Asked.{questions}
use Rattle.question.specs.declared.tree.Tree.{Tree}
use Rattle.question.specs.declared.tree.Tree.TheVariants.{Yes, No, GivenUp, Question as Numbered}
use Rattle.question.specs.declared.tree.Question.{Question}
use Rattle.question.specs.Cells.{cell_of, tree_at, small_of}
use Rattle.question.specs.Nodes.{node_at, node_cells, capped, weight_of, asking}
use Rattle.question.specs.Denote.{Earlier, IsTree}
use Rattle.question.proofs.Nodes.{small_of_small, weight-inside}

-- the question that five numbers are
abbrev node : ℤ → ℤ → ℤ → ℤ → ℤ → Question
node k a b c w = record { polynomial = small_of k; below = tree_at a; at = tree_at b; above = tree_at c; weight = small_of w }

same_node : (k a b c w k' a' b' c' w' : ℤ) → k ≡ k' → a ≡ a' → b ≡ b' → c ≡ c' → w ≡ w' → node k a b c w ≡ node k' a' b' c' w'
same_node k a b c w k' a' b' c' w' p q r s t = λ i. node (p i) (q i) (r i) (s i) (t i)

-- a question that stands is the same with more numbers behind
pub node_at_more : (cells more : List ℤ) (i : ℕ) → 5 * i + 5 ≤ length cells → node_at (cells ++ more) i ≡ node_at cells i
node_at_more cells more i h =
    let stays : (k : ℕ) → k < length cells → get_or (cells ++ more) k (pos 0) ≡ get_or cells k (pos 0) = λ k l. get_or-append cells more (pos 0) k l in
    same_node _ _ _ _ _ _ _ _ _ _ (stays (5 * i) (omega arith)) (stays (5 * i + 1) (omega arith)) (stays (5 * i + 2) (omega arith)) (stays (5 * i + 3) (omega arith)) (stays (5 * i + 4) (omega arith))

pub tree_of_cell : (t : Tree) → Earlier 65536 t → tree_at (cell_of t) ≡ t
tree_of_cell Yes e = refl
tree_of_cell No e = refl
tree_of_cell GivenUp e = refl
tree_of_cell (Numbered j) e = grind (arith, nat_tests)

-- the question just behind those that stand
pub node_at-new : (cells : List ℤ) (len : ℕ) (q : Question) → length cells ≡ 5 * len → q.polynomial < 65536 → q.weight < 65536 →
    Earlier 65536 q.below → Earlier 65536 q.at → Earlier 65536 q.above → node_at (cells ++ node_cells q) len ≡ q
node_at-new cells len q long k w a b c =
    let there : (i j : ℕ) → i ≡ length cells + j → get_or (cells ++ node_cells q) i (pos 0) ≡ get_or (node_cells q) j (pos 0) =
    λ i j e. ap (λ n. get_or (cells ++ node_cells q) n (pos 0)) e ∙ get_or-append-add cells (node_cells q) j (pos 0) in
    same_node _ _ _ _ _ _ _ _ _ _ (there (5 * len) 0 (omega arith)) (there (5 * len + 1) 1 (omega arith)) (there (5 * len + 2) 2 (omega arith)) (there (5 * len + 3) 3 (omega arith)) (there (5 * len + 4) 4 (omega arith)) ∙
    (λ i. record { polynomial = small_of_small q.polynomial k i; below = tree_of_cell q.below a i; at = tree_of_cell q.at b i; above = tree_of_cell q.above c i; weight = small_of_small q.weight w i })

get_d_more : (ps qs : List Poly) (k : ℕ) → k < length ps → get_or (ps ++ qs) k End ≡ get_or ps k End
get_d_more ps qs k h = get_or-append ps qs End k h

-- more polynomials and more questions change no tree that stands
pub tree_stays : (ps qs : List Poly) (cells more : List ℤ) (s : sign.Tree) (t : Tree) → IsTree ps cells s t → IsTree (ps ++ qs) (cells ++ more) s t
unfolding IsTree
tree_stays ps qs cells more sign.Yes t h = h
tree_stays ps qs cells more sign.No t h = h
tree_stays ps qs cells more sign.GivenUp t h = h
tree_stays ps qs cells more (sign.Ask p a b c) t h =
    let i = h.place in
    let same : node_at (cells ++ more) i ≡ node_at cells i = node_at_more cells more i h.inside in
    record {
      place = i;
      is = h.is;
      inside = simp length-append (omega arith);
      named = subst (λ q. q.polynomial < length (ps ++ qs)) (sym same) (simp length-append (omega (arith, h.named)));
      about = ap (λ q. get_or (ps ++ qs) q.polynomial End) same ∙ get_d_more ps qs (node_at cells i).polynomial h.named ∙ h.about;
      weighs = ap (λ q. q.weight) same ∙ h.weighs;
      below_earlier = subst (λ q. Earlier i q.below) (sym same) h.below_earlier;
      at_earlier = subst (λ q. Earlier i q.at) (sym same) h.at_earlier;
      above_earlier = subst (λ q. Earlier i q.above) (sym same) h.above_earlier;
      below = subst (λ q. IsTree (ps ++ qs) (cells ++ more) a q.below) (sym same) (tree_stays ps qs cells more a (node_at cells i).below h.below);
      at = subst (λ q. IsTree (ps ++ qs) (cells ++ more) b q.at) (sym same) (tree_stays ps qs cells more b (node_at cells i).at h.at);
      above = subst (λ q. IsTree (ps ++ qs) (cells ++ more) c q.above) (sym same) (tree_stays ps qs cells more c (node_at cells i).above h.above);
    }

-- the count that is kept of a tree is its count of questions, up to 3,500
pub tree_weighs : (ps : List Poly) (cells : List ℤ) (s : sign.Tree) (t : Tree) → IsTree ps cells s t → weight_of cells t ≡ capped (questions s)
unfolding IsTree questions
tree_weighs ps cells sign.Yes t h = ap (weight_of cells) h
tree_weighs ps cells sign.No t h = ap (weight_of cells) h
tree_weighs ps cells sign.GivenUp t h = ap (weight_of cells) h
tree_weighs ps cells (sign.Ask p a b c) t h = ap (weight_of cells) h.is ∙ weight-inside cells h.place h.inside ∙ h.weighs

-- a tree names only questions that stand
pub tree_earlier : (ps : List Poly) (cells : List ℤ) (len : ℕ) (s : sign.Tree) (t : Tree) → length cells ≡ 5 * len → IsTree ps cells s t → Earlier len t
unfolding IsTree
tree_earlier ps cells len sign.Yes t long h = subst (Earlier len) (sym h) tt
tree_earlier ps cells len sign.No t long h = subst (Earlier len) (sym h) tt
tree_earlier ps cells len sign.GivenUp t long h = subst (Earlier len) (sym h) tt
tree_earlier ps cells len (sign.Ask p a b c) t long h =
    let l : h.place < len = omega (arith, h.inside) in subst (Earlier len) (sym h.is) l

earlier_more : (i j : ℕ) (t : Tree) → i ≤ j → Earlier i t → Earlier j t
earlier_more i j Yes l e = tt
earlier_more i j No l e = tt
earlier_more i j GivenUp l e = tt
earlier_more i j (Numbered k) l e = omega arith

-- a new question about polynomial k is the tree that asks it
module _ (ps : List Poly) (cells : List ℤ) (len k : ℕ) (long : length cells ≡ 5 * len) (few : len ≤ 65536) (named : k < length ps) (small : k < 65536) where
  pub question-is : (a b c : sign.Tree) (t u v : Tree) → IsTree ps cells a t → IsTree ps cells b u → IsTree ps cells c v →
      IsTree ps (cells ++ node_cells (asking cells k t u v)) (sign.Ask (get_or ps k End) a b c) (Numbered len)
  unfolding IsTree questions
  question-is a b c t u v at bu cv =
      let q = asking cells k t u v in
      let te : Earlier len t = tree_earlier ps cells len a t long at in
      let ue : Earlier len u = tree_earlier ps cells len b u long bu in
      let ve : Earlier len v = tree_earlier ps cells len c v long cv in
      let light : q.weight < 65536 = omega arith in
      let new : node_at (cells ++ node_cells q) len ≡ q =
      node_at-new cells len q long small light (earlier_more len 65536 t few te) (earlier_more len 65536 u few ue) (earlier_more len 65536 v few ve) in
      let stays : (s : sign.Tree) (w : Tree) → IsTree ps cells s w → IsTree ps (cells ++ node_cells q) s w =
      λ s w h. subst (λ rs. IsTree rs (cells ++ node_cells q) s w) (append-nil ps) (tree_stays ps [] cells (node_cells q) s w h) in
      let x : weight_of cells t ≡ capped (questions a) = tree_weighs ps cells a t at in
      let y : weight_of cells u ≡ capped (questions b) = tree_weighs ps cells b u bu in
      let z : weight_of cells v ≡ capped (questions c) = tree_weighs ps cells c v cv in
      let total : capped (1 + (weight_of cells t + (weight_of cells u + weight_of cells v))) ≡ capped (1 + (questions a + (questions b + questions c))) = omega arith in
      record {
        place = len;
        is = refl;
        inside = simp length-append (omega arith);
        named = subst (λ r. r.polynomial < length ps) (sym new) named;
        about = ap (λ r. get_or ps r.polynomial End) new;
        weighs = ap (λ r. r.weight) new ∙ total;
        below_earlier = subst (λ r. Earlier len r.below) (sym new) te;
        at_earlier = subst (λ r. Earlier len r.at) (sym new) ue;
        above_earlier = subst (λ r. Earlier len r.above) (sym new) ve;
        below = subst (λ r. IsTree ps (cells ++ node_cells q) a r.below) (sym new) (stays a t at);
        at = subst (λ r. IsTree ps (cells ++ node_cells q) b r.at) (sym new) (stays b u bu);
        above = subst (λ r. IsTree ps (cells ++ node_cells q) c r.above) (sym new) (stays c v cv);
      }
