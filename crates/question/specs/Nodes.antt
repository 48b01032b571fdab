-- Questions as numbers, five each, one behind the other. Assumes nothing.
use Rattle.std.specs.Prelude.{ℕ, ◌+◌, ◌*◌, min, cond, List, [], ◌∷◌, length, ℤ, pos, nat_le, slice_index_or}
use Rattle.field.specs.declared.sign.Sign.{Sign}
use Rattle.sign_table.specs.Tree.{by_sign}
use Rattle.question.specs.declared.tree.Tree.{Tree}
use Rattle.question.specs.declared.tree.Tree.TheVariants.{Yes, No, GivenUp, Question as Numbered}
use Rattle.question.specs.declared.tree.Question.{Question}
use Rattle.question.specs.Cells.{cell_of, tree_at, small_of}

-- the question that five numbers stand for
abbrev pub node_of : List ℤ → Question
node_of cells = record {
  polynomial = small_of (slice_index_or cells 0 (pos 0));
  below = tree_at (slice_index_or cells 1 (pos 0));
  at = tree_at (slice_index_or cells 2 (pos 0));
  above = tree_at (slice_index_or cells 3 (pos 0));
  weight = small_of (slice_index_or cells 4 (pos 0));
}

-- question i of those that these numbers are
abbrev pub node_at : List ℤ → ℕ → Question
node_at cells i = record {
  polynomial = small_of (slice_index_or cells (5 * i) (pos 0));
  below = tree_at (slice_index_or cells (5 * i + 1) (pos 0));
  at = tree_at (slice_index_or cells (5 * i + 2) (pos 0));
  above = tree_at (slice_index_or cells (5 * i + 3) (pos 0));
  weight = small_of (slice_index_or cells (5 * i + 4) (pos 0));
}

abbrev pub node_cells : Question → List ℤ
node_cells q = pos q.polynomial ∷ cell_of q.below ∷ cell_of q.at ∷ cell_of q.above ∷ pos q.weight ∷ []

-- counts stop at 3,500
abbrev pub capped : ℕ → ℕ
capped n = min n 3500

-- how many questions a tree has, up to 3,500
abbrev pub weight_of : List ℤ → Tree → ℕ
weight_of cells Yes = 0
weight_of cells No = 0
weight_of cells GivenUp = 0
weight_of cells (Numbered i) = cond (nat_le (5 * i + 5) (length cells)) (node_at cells i).weight 0

-- a new question about polynomial k, with these trees
abbrev pub asking : List ℤ → ℕ → Tree → Tree → Tree → Question
asking cells k a b c = record
    { polynomial = k; below = a; at = b; above = c; weight = capped (1 + (weight_of cells a + (weight_of cells b + weight_of cells c))) }

-- the tree that the polynomial's sign leads to
abbrev pub chosen : Question → Sign → Tree
chosen q s = by_sign s q.below q.at q.above
