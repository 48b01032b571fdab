-- Trees and small numbers as one number each. Assumes nothing.
use Rattle.std.specs.Prelude.{ℕ, ◌+◌, ◌-◌, cond, ◌&&◌, ℤ, pos, negsuc, ◌==◌, nat_le, nat_lt}
use Rattle.question.specs.declared.tree.Tree.{Tree}
use Rattle.question.specs.declared.tree.Tree.TheVariants.{Yes, No, GivenUp, Question}

abbrev pub cell_of : Tree → ℤ
cell_of Yes = pos 0
cell_of No = pos 1
cell_of GivenUp = pos 2
cell_of (Question i) = pos (i + 3)

abbrev pub tree_at : ℤ → Tree
tree_at (pos n) = cond (n == 0) Yes (cond (n == 1) No (cond (nat_le 3 n && nat_le n 65538) (Question (n - 3)) GivenUp))
tree_at (negsuc n) = GivenUp

abbrev pub small_of : ℤ → ℕ
small_of (pos n) = cond (nat_lt n 65536) n 0
small_of (negsuc n) = 0
