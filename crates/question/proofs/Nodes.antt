-- Reading questions out of numbers, and what stays as more of them are asked.
use Rattle.std.proofs.Common.{◌≡◌, ℕ, ◌+◌, ◌*◌, ◌<◌, ◌≤◌, leb, List, length, get_or, take, drop, ℤ, pos, sym, ap, ◌∙◌, add-zero, arith, le-leb, get_or-take}
use Rattle.std.proofs.lemmas.Bool.{cond-true}
use Rattle.std.proofs.lemmas.Bool.Decides.{nat_tests}
use Rattle.std.proofs.lemmas.List.{get_or-drop}
use Rattle.question.specs.declared.tree.Tree.TheVariants.{Question as Numbered}
use Rattle.question.specs.Cells.{tree_at, small_of}
use Rattle.question.specs.Nodes.{node_of, node_at, weight_of}

-- the part of the numbers that a question takes, of those that stand
pub node_in-part : (top : ℕ) (cells : List ℤ) (i : ℕ) → 5 * i + 5 ≤ top → node_of (take 5 (drop (5 * i) cells)) ≡ node_at (take top cells) i
node_in-part top cells i h =
    let there : (d : ℕ) → d < 5 → get_or (take 5 (drop (5 * i) cells)) d (pos 0) ≡ get_or (take top cells) (5 * i + d) (pos 0) =
    λ d l. get_or-take 5 (drop (5 * i) cells) d (pos 0) l ∙ get_or-drop (5 * i) cells d (pos 0) ∙ sym (get_or-take top cells (5 * i + d) (pos 0) (omega arith)) in
    let first : get_or (take 5 (drop (5 * i) cells)) 0 (pos 0) ≡ get_or (take top cells) (5 * i) (pos 0) =
    there 0 (omega arith) ∙ ap (λ k. get_or (take top cells) k (pos 0)) (add-zero (5 * i)) in
    λ j. record {
      polynomial = small_of (first j);
      below = tree_at (there 1 (omega arith) j);
      at = tree_at (there 2 (omega arith) j);
      above = tree_at (there 3 (omega arith) j);
      weight = small_of (there 4 (omega arith) j);
    }

pub small_of_small : (n : ℕ) → n < 65536 → small_of (pos n) ≡ n
small_of_small n h = grind (arith, nat_tests)

pub weight-inside : (cells : List ℤ) (i : ℕ) → 5 * i + 5 ≤ length cells → weight_of cells (Numbered i) ≡ (node_at cells i).weight
weight-inside cells i h = cond-true (leb (5 * i + 5) (length cells)) (node_at cells i).weight 0 (le-leb (5 * i + 5) (length cells) h)
