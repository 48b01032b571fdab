-- Steps of the machine on its arrays. Assumes nothing.
use Rattle.std.specs.Prelude.{◌≡◌, ℕ, ◌+◌, ◌-◌, ◌*◌, ◌<◌, ◌≤◌, Bool, true, false, List, length, take, ℤ, Some, None, Option}
use Rattle.field.specs.declared.sign.Sign.{Sign}
use Rattle.field.specs.declared.sign.Sign.TheVariants.{Zero}
use Rattle.poly.specs.Poly.{Poly}
use Rattle.poly.specs.Leading.{leading}
use Rattle.sign_table.specs.Tree as sign
use Rattle.sign_table.specs.Facts.{Known, known}
use Rattle.sign_table.specs.Leadings.{Plain}
use Rattle.machine.specs.Machine.{Run, start}
use Rattle.machine.specs.Stacks as stack
use Rattle.machine.specs.Stacks.{Sound, passed, back, polys_forth, state_of}
use Rattle.machine.specs.Theorems.{Advances, nothing_more}
use Rattle.machine.specs.Counts.{noted}
use Rattle.question.specs.declared.tree.Tree.{Tree}
use Rattle.stacks.specs.declared.marks.Marks.{Marks}
use Rattle.stacks.specs.declared.marks.Branch.{Branch}
use Rattle.stacks.specs.declared.marks.Branch.TheVariants.{Above, At, Below}
use Rattle.stacks.specs.Written.{Written}
use Rattle.stacks.specs.Values.{left_in, fact_in, question_in}
use Rattle.stacks.specs.Memories.{Cells, front_poly, left_from, fact_from, marks_from, memory_of, poly_of}
use Rattle.stacks.specs.Slots.{slot_in}
use Rattle.table_machine.specs.declared.facing.Facing.{Facing}
use Rattle.table_machine.specs.declared.arrays.Machine.{Machine}
use Rattle.table_machine.specs.Cells.{cells_of, rewritten}
use Rattle.table_machine.specs.Fitting.{Fitting}
use Rattle.table_machine.specs.Settling.{Settles}

-- the current polynomial
abbrev pub current_poly : ℕ → List ℤ → Marks → Poly
current_poly n slots m = front_poly n slots (m.base + m.done) m.count

-- what is known of the sign of its leading coefficient
abbrev pub current_known : ℕ → (slots facts : List ℤ) → Marks → Known
current_known n slots facts m = known n (leading n (current_poly n slots m)) (back (λ i. fact_from n slots (fact_in facts i)) m.facts)

abbrev pub facing : ℕ → List ℤ → Facing → stack.Stacks
facing n slots f = stack.Facing (marks_from n slots f.marks) f.pending

-- a step of any run, from sound arrays, that asks so many questions
abbrev pub Moves : ℕ → Cells → Facing → Cells → Facing → (asked : ℕ) → Type 0
Moves n c f d g asked = (trees : Tree → sign.Tree) (run : Run) → Sound (memory_of n trees c) (facing n c.slots f) →
    Advances run n (memory_of n trees c) (facing n c.slots f) (memory_of n trees d) (facing n d.slots g) asked nothing_more

-- one question more, or none
pub record Looks (n : ℕ) (c : Cells) (f : Facing) (d : Cells) (g : Facing) : Type 0 where
  pub asked : ℕ
  pub counted : g.pending ≡ f.pending + asked
  pub moves : Moves n c f d g asked

-- the current polynomial is zero: it is passed
pub record PassesZero (n : ℕ) (c : Cells) (m : Marks) (lefts : List ℤ) (r : Marks) : Type 0 where
  pub marks : marks_from n c.slots r ≡ passed (poly_of n (slot_in c.slots (m.base + (m.done + 1)))) (marks_from n c.slots m)
  pub written : left_from n c.slots (m.base + m.done) (left_in lefts (m.base + m.done)) ≡ Plain Zero
  pub kept : (i : ℕ) → i < m.base + m.done → left_in lefts i ≡ left_in c.lefts i

-- there is room for one more fact and one more question
pub record Room (c : Cells) (m : Marks) (pending : ℕ) : Type 0 where
  pub lefts : 2 * 2521 ≤ length c.lefts
  pub facts : 3 * m.facts + 3 ≤ length c.facts
  pub questions : 10 * pending + 10 ≤ length c.questions
  pub few : m.facts < 60000
  pub fewer : pending < 60000

-- no array has another length
pub record SameLengths (c d : Cells) : Type 0 where
  pub lefts : length d.lefts ≡ length c.lefts
  pub facts : length d.facts ≡ length c.facts
  pub questions : length d.questions ≡ length c.questions

-- a step stays among the same variables and polynomials, in arrays as long
pub record Stays (a b : Machine) : Type 0 where
  pub others : b.others ≡ a.others
  pub slots : b.slots.now ≡ a.slots.now
  pub long : SameLengths (cells_of a) (cells_of b)

-- with one fact more
abbrev pub one_fact : Marks → Marks
one_fact m = record { looks = m.looks; base = m.base; done = m.done; ahead = m.ahead; count = m.count; facts = m.facts + 1; frames = m.frames }

abbrev pub is_below : Branch → Bool
is_below Above = false
is_below (At above) = false
is_below (Below at above) = true

-- a branch of question k is explored, which was asked at the marks m: it becomes a fact that the leading coefficient has this sign
pub record Explores (n : ℕ) (c : Cells) (m : Marks) (k : ℕ) (b : Branch) (s : Sign) (d : Cells) (r : Marks) : Type 0 where
  pub question : Written question_in k (record { marks = m; branch = b }) c.questions d.questions
  pub fact : Written fact_in m.facts (record { slot = m.base + m.done; count = m.count; sign = s }) c.facts d.facts
  pub settles : Settles n (rewritten c c.lefts d.facts d.questions) (one_fact m) s d.lefts r
  pub rest : d ≡ rewritten c d.lefts d.facts d.questions
  pub long : length d.lefts ≡ length c.lefts

-- marks at which a question can be asked
pub record Askable (c : Cells) (m : Marks) : Type 0 where
  pub fits : Fitting m
  pub looks : 0 < m.looks
  pub ahead : 0 < m.ahead
  pub facts : 3 * m.facts + 3 ≤ length c.facts
  pub few : m.facts < 60000

-- the last question is finished: its tree is made of those of its three branches, and its polynomial is collected
abbrev pub Finishes : ℕ → Cells → Tree → (pending : ℕ) → Type 0
Finishes n c t k = (at above : Tree) → (question_in c.questions (k - 1)).branch ≡ Below at above → (trees : Tree → sign.Tree) (run : Run) →
    let p = leading n (current_poly n c.slots (question_in c.questions (k - 1)).marks) in
    Sound (memory_of n trees c) (stack.Holding (trees t) k) →
    Advances run n (memory_of n trees c) (stack.Holding (trees t) k) (memory_of n trees c) (stack.Holding (run.join p (trees t) (trees at) (trees above)) (k - 1)) 0 (noted n p)

-- the next branch of the last question is explored; none is left if it was the one below
abbrev pub Returns : ℕ → Cells → Tree → (pending : ℕ) → Cells → Option Facing → Type 0
Returns n c t k d (Some g) = (g.pending ≡ k) × ((trees : Tree → sign.Tree) (run : Run) → Sound (memory_of n trees c) (stack.Holding (trees t) k) →
    Advances run n (memory_of n trees c) (stack.Holding (trees t) k) (memory_of n trees d) (facing n d.slots g) 0 nothing_more)
Returns n c t k d None = (d ≡ c) × (is_below (question_in c.questions (k - 1)).branch ≡ true) × Finishes n c t k

-- the machine starts with these polynomials, of which the first 64 are in the slots
abbrev pub Begins : ℕ → Cells → (size : ℕ) → Facing → Type 0
Begins n c size g = (trees : Tree → sign.Tree) (ps : List Poly) → polys_forth (memory_of n trees c) 0 0 size ≡ take 64 ps →
    (state_of (memory_of n trees c) (facing n c.slots g) ≡ start 40 ps) × Sound (memory_of n trees c) (facing n c.slots g)
