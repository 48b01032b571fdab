-- Which memory of the machine arrays of numbers are; n: the variables of the coefficients. Assumes nothing.
use Rattle.std.specs.Prelude.{ℕ, zero, suc, ◌+◌, List, take, ℤ}
use Rattle.field.specs.declared.sign.Sign.{Sign}
use Rattle.poly.specs.Poly.{Poly}
use Rattle.poly.specs.Leading.{leading}
use Rattle.terms.specs.Cells.{monomials_of}
use Rattle.sign_table.specs.Tree as sign
use Rattle.sign_table.specs.Facts as known
use Rattle.sign_table.specs.Leadings as table
use Rattle.machine.specs.Machine as machine
use Rattle.machine.specs.Stacks as stack
use Rattle.packed.specs.Stored.{Stored}
use Rattle.storage.specs.Denoting.{Denotes}
use Rattle.question.specs.declared.tree.Tree.{Tree}
use Rattle.stacks.specs.declared.marks.Left.{Left}
use Rattle.stacks.specs.declared.marks.Fact.{Fact}
use Rattle.stacks.specs.declared.marks.Frame.{Frame}
use Rattle.stacks.specs.declared.marks.Marks.{Marks}
use Rattle.stacks.specs.declared.marks.Branch.{Branch}
use Rattle.stacks.specs.declared.marks.Branch.TheVariants.{Above, At, Below}
use Rattle.stacks.specs.declared.marks.Question.{Question}
use Rattle.stacks.specs.Values.{left_in, fact_in, frame_in, question_in}
use Rattle.stacks.specs.Slots.{slot_in}
use Rattle.stacks.specs.Spelt.{spelt}

-- the numbers of each array
pub record Cells : Type 0 where
  pub slots : List ℤ
  pub lefts : List ℤ
  pub facts : List ℤ
  pub frames : List ℤ
  pub questions : List ℤ

-- the polynomial whose monomials are these numbers
abbrev pub poly_of : ℕ → List ℤ → Poly
poly_of n zs = spelt (suc n) (monomials_of zs)

-- the first monomials of the polynomial in a slot
abbrev pub front_poly : ℕ → List ℤ → (slot count : ℕ) → Poly
front_poly n slots i count = poly_of n (take count (slot_in slots i))

-- the numbers are a stored polynomial
pub record Holds (n : ℕ) (zs : List ℤ) : Type 0 where
  pub stored : Stored zs
  pub denotes : Denotes (suc n) (monomials_of zs) (poly_of n zs)

-- every slot holds a polynomial
abbrev pub AllHold : ℕ → List ℤ → Type 0
AllHold n slots = (i : ℕ) → Holds n (slot_in slots i)

abbrev pub left_with : (count : ℕ) → Poly → Sign → table.Left
left_with zero p s = table.Plain s
left_with (suc k) p s = table.Real p s

-- what is left of the polynomial in slot i
abbrev pub left_from : ℕ → List ℤ → ℕ → Left → table.Left
left_from n slots i l = left_with l.count (front_poly n slots i l.count) l.sign

abbrev pub fact_from : ℕ → List ℤ → Fact → known.Fact
fact_from n slots f = record { poly = leading n (front_poly n slots f.slot f.count); sign = f.sign }

abbrev pub frame_from : Frame → stack.FrameCell
frame_from f = stack.Kept f.base f.size f.place f.divisors

abbrev pub marks_from : ℕ → List ℤ → Marks → stack.Marks
marks_from n slots m = stack.Marked m.looks m.base m.done m.ahead (front_poly n slots (m.base + m.done) m.count) m.facts m.frames

-- trees: what each tree of questions stands for
abbrev pub exploring : (trees : Tree → sign.Tree) → Branch → machine.Branch
exploring trees Above = machine.Above
exploring trees (At above) = machine.At (trees above)
exploring trees (Below at above) = machine.Below (trees at) (trees above)

abbrev pub question_from : ℕ → (trees : Tree → sign.Tree) → List ℤ → Question → stack.QuestionCell
question_from n trees slots q = stack.Pending (marks_from n slots q.marks) (exploring trees q.branch)

abbrev pub memory_of : ℕ → (trees : Tree → sign.Tree) → Cells → stack.Memory
memory_of n trees c = record {
  poly_at = λ i. poly_of n (slot_in c.slots i);
  left_at = λ i. left_from n c.slots i (left_in c.lefts i);
  fact_at = λ i. fact_from n c.slots (fact_in c.facts i);
  frame_at = λ i. frame_from (frame_in c.frames i);
  question_at = λ i. question_from n trees c.slots (question_in c.questions i);
}
