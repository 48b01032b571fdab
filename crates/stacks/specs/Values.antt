-- The values in the machine's arrays as numbers. Assumes nothing.
use Rattle.std.specs.Prelude.{ℕ, ◌*◌, cond, List, ℤ, pos, ◌==◌, slice_index_or}
use Rattle.field.specs.Sign.{sign_of}
use Rattle.question.specs.declared.tree.Tree.{Tree}
use Rattle.question.specs.Cells.{tree_at, small_of}
use Rattle.stacks.specs.declared.marks.Left.{Left}
use Rattle.stacks.specs.declared.marks.Fact.{Fact}
use Rattle.stacks.specs.declared.marks.Frame.{Frame}
use Rattle.stacks.specs.declared.marks.Marks.{Marks}
use Rattle.stacks.specs.declared.marks.Branch.{Branch}
use Rattle.stacks.specs.declared.marks.Branch.TheVariants.{Above, At, Below}
use Rattle.stacks.specs.declared.marks.Question.{Question}
use Rattle.stacks.specs.Written.{part}

abbrev pub small_in : List ℤ → ℕ → ℕ
small_in zs i = small_of (slice_index_or zs i (pos 0))

abbrev pub tree_in : List ℤ → ℕ → Tree
tree_in zs i = tree_at (slice_index_or zs i (pos 0))

abbrev pub left_of : List ℤ → Left
left_of zs = record { count = small_in zs 0; sign = sign_of (slice_index_or zs 1 (pos 0)) }

abbrev pub fact_of : List ℤ → Fact
fact_of zs = record { slot = small_in zs 0; count = small_in zs 1; sign = sign_of (slice_index_or zs 2 (pos 0)) }

abbrev pub frame_of : List ℤ → Frame
frame_of zs = record { base = small_in zs 0; size = small_in zs 1; place = small_in zs 2; divisors = small_in zs 3 }

abbrev pub marks_of : List ℤ → Marks
marks_of zs = record
    { looks = small_in zs 0; base = small_in zs 1; done = small_in zs 2; ahead = small_in zs 3; count = small_in zs 4; facts = small_in zs 5; frames = small_in zs 6 }

-- by the number of trees that are finished
abbrev pub branch_from : ℕ → (above at : Tree) → Branch
branch_from finished above at = cond (finished == 0) Above (cond (finished == 1) (At above) (Below at above))

abbrev pub branch_of_three : List ℤ → Branch
branch_of_three zs = branch_from (small_in zs 0) (tree_in zs 1) (tree_in zs 2)

-- behind the seven marks
abbrev pub branch_of : List ℤ → Branch
branch_of zs = branch_of_three (part 3 7 zs)

abbrev pub question_of : List ℤ → Question
question_of zs = record { marks = marks_of zs; branch = branch_of zs }

-- the i-th value of an array, of so many numbers each
abbrev pub value_in : {A : Type 0} → (width : ℕ) → (List ℤ → A) → List ℤ → ℕ → A
value_in width of cells i = of (part width (width * i) cells)

abbrev pub left_in : List ℤ → ℕ → Left
left_in = value_in 2 left_of

abbrev pub fact_in : List ℤ → ℕ → Fact
fact_in = value_in 3 fact_of

abbrev pub frame_in : List ℤ → ℕ → Frame
frame_in = value_in 4 frame_of

abbrev pub question_in : List ℤ → ℕ → Question
question_in = value_in 10 question_of
