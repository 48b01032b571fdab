-- The machine's state in arrays that are written from the front on, with marks for how much of each is in use. Going back to a question is going back to its marks.
-- Assumes nothing.
use Rattle.std.specs.Prelude.{◌≡◌, List, [], ◌∷◌, ℕ, zero, suc, ◌+◌, ◌*◌, ◌-◌, ◌≤◌, ◌<◌}
use Rattle.field.specs.declared.sign.Sign.{Sign}
use Rattle.field.specs.declared.sign.Sign.TheVariants.{Neg, Zero, Pos}
use Rattle.poly.specs.Poly.{Poly}
use Rattle.poly.specs.Leading.{without_leading}
use Rattle.sign_table.specs.Tree.{Tree}
use Rattle.sign_table.specs.Facts.{Fact}
use Rattle.sign_table.specs.Leadings.{Left, left_of, turned_round}
use Rattle.machine.specs.Machine.{Frame, Waiting, Phase, Settling, Branch, Question, Open, State, Looking, Returning}

-- The polynomials of a table stand from `base` on. Of the first `done` of them it is known what is left; `ahead` are still to be settled, the first of which
-- may have lost leading coefficients and is now `current`. Then how many facts and frames there are.
pub data Marks : Type 0 where
  Marked : (looks base done ahead : ℕ) (current : Poly) (facts frames : ℕ) → Marks

-- a table that waits, with `size` polynomials from `base` on
pub data FrameCell : Type 0 where
  Kept : (base size place divisors : ℕ) → FrameCell

-- a question about the current polynomial's leading coefficient, with the marks when it was asked
pub data QuestionCell : Type 0 where
  Pending : Marks → Branch → QuestionCell

-- what is left of a polynomial has the polynomial's index
pub record Memory : Type 0 where
  pub poly_at : ℕ → Poly
  pub left_at : ℕ → Left
  pub fact_at : ℕ → Fact
  pub frame_at : ℕ → FrameCell
  pub question_at : ℕ → QuestionCell

-- the first k cells, the last of them first
unfoldable pub back : {A : Type 0} → (ℕ → A) → ℕ → List A
back f zero = []
back f (suc k) = f k ∷ back f k

-- k cells from i on
unfoldable pub forth : {A : Type 0} → (ℕ → A) → ℕ → ℕ → List A
forth f i zero = []
forth f i (suc k) = f i ∷ forth f (suc i) k

-- one less, of zero none
abbrev pub less_one : ℕ → ℕ
less_one zero = zero
less_one (suc k) = k

-- at most so many frames: a table is made 40 tables deep
abbrev pub deepest : ℕ
deepest = 39

abbrev pub lefts_back : Memory → (base done : ℕ) → List Left
lefts_back mem base done = back (λ i. mem.left_at (base + i)) done

-- the polynomials of the table from place i on
abbrev pub polys_forth : Memory → (base i k : ℕ) → List Poly
polys_forth mem base i k = forth (λ j. mem.poly_at (base + j)) i k

abbrev pub frame_of : Memory → FrameCell → Frame
frame_of mem (Kept base size place divisors) = Waiting (turned_round (lefts_back mem base size) []) place divisors

abbrev pub frames_of : Memory → ℕ → List Frame
frames_of mem k = back (λ i. frame_of mem (mem.frame_at i)) k

abbrev pub ahead_of : Memory → (base done ahead : ℕ) → Poly → List Poly
ahead_of mem base done zero current = []
ahead_of mem base done (suc ahead) current = current ∷ polys_forth mem base (suc done) ahead

abbrev pub phase_of : Memory → Marks → Phase
phase_of mem (Marked looks base done ahead current facts frames) =
    Settling (deepest - frames) looks (ahead_of mem base done ahead current) (lefts_back mem base done) (back mem.fact_at facts) (frames_of mem frames)

-- the phase without the current polynomial, which was looked at
abbrev pub rest_of : Memory → Marks → Phase
rest_of mem (Marked looks base done ahead current facts frames) =
    Settling (deepest - frames) (less_one looks) (polys_forth mem base (suc done) (less_one ahead)) (lefts_back mem base done) (back mem.fact_at facts) (frames_of mem frames)

abbrev pub current_of : Marks → Poly
current_of (Marked looks base done ahead current facts frames) = current

abbrev pub marks_of : QuestionCell → Marks
marks_of (Pending m e) = m

abbrev pub question_of : Memory → QuestionCell → Question
question_of mem (Pending m e) = Open (current_of m) e (rest_of mem m)

abbrev pub questions_of : Memory → ℕ → List Question
questions_of mem k = back (λ i. question_of mem (mem.question_at i)) k

-- with how many questions are open
pub data Stacks : Type 0 where
  Facing : Marks → ℕ → Stacks
  Holding : Tree → ℕ → Stacks

abbrev pub state_of : Memory → Stacks → State
state_of mem (Facing m k) = Looking (phase_of mem m) (questions_of mem k)
state_of mem (Holding t k) = Returning t (questions_of mem k)

-- the marks at the next polynomial, p
abbrev pub passed : Poly → Marks → Marks
passed p (Marked looks base done ahead current facts frames) = Marked (less_one looks) base (suc done) (less_one ahead) p facts frames

-- the marks when the current polynomial loses its leading coefficient
abbrev pub shortened : Marks → Marks
shortened (Marked looks base done ahead current facts frames) = Marked (less_one looks) base done ahead (without_leading current) facts frames

-- the marks when the current polynomial's leading coefficient has this sign; p: the next polynomial
abbrev pub signed : Poly → Sign → Marks → Marks
signed p Neg m = passed p m
signed p Zero m = shortened m
signed p Pos m = passed p m

abbrev pub with_one_fact : Marks → Marks
with_one_fact (Marked looks base done ahead current facts frames) = Marked looks base done ahead current (suc facts) frames

-- the marks at the beginning of a table of so many polynomials, p the first, below this one, which is settled
abbrev pub entered : Poly → ℕ → Marks → Marks
entered p size (Marked looks base done ahead current facts frames) = Marked 63 (base + done) 0 size p (suc facts) (suc frames)

-- the first place for what is left of a polynomial, for a polynomial, for a fact and for a frame
abbrev pub lefts_end : Marks → ℕ
lefts_end (Marked looks base done ahead current facts frames) = base + done

abbrev pub polys_end : Marks → ℕ
polys_end (Marked looks base done ahead current facts frames) = base + (done + ahead)

abbrev pub facts_end : Marks → ℕ
facts_end (Marked looks base done ahead current facts frames) = facts

abbrev pub frames_end : Marks → ℕ
frames_end (Marked looks base done ahead current facts frames) = frames

abbrev pub looks_left : Marks → ℕ
looks_left (Marked looks base done ahead current facts frames) = looks

abbrev pub ahead_count : Marks → ℕ
ahead_count (Marked looks base done ahead current facts frames) = ahead

abbrev pub base_of : Marks → ℕ
base_of (Marked looks base done ahead current facts frames) = base

abbrev pub done_count : Marks → ℕ
done_count (Marked looks base done ahead current facts frames) = done

-- where the polynomials of a waiting table end
abbrev pub frame_end : FrameCell → ℕ
frame_end (Kept base size place divisors) = base + size

-- nothing that is in use at these marks, with k questions open, was written over
pub record Agree (before after : Memory) (m : Marks) (k : ℕ) : Type 0 where
  pub polys : (i : ℕ) → i < polys_end m → after.poly_at i ≡ before.poly_at i
  pub lefts : (i : ℕ) → i < lefts_end m → after.left_at i ≡ before.left_at i
  pub facts : (i : ℕ) → i < facts_end m → after.fact_at i ≡ before.fact_at i
  pub frames : (i : ℕ) → i < frames_end m → after.frame_at i ≡ before.frame_at i
  pub questions : (i : ℕ) → i < k → after.question_at i ≡ before.question_at i

-- what is in use at the first marks is so at the others
pub record Before (m o : Marks) : Type 0 where
  pub polys : polys_end m ≤ polys_end o
  pub lefts : lefts_end m ≤ lefts_end o
  pub facts : facts_end m ≤ facts_end o
  pub frames : frames_end m ≤ frames_end o

-- the bounds of marks with k questions open, and waiting tables stand before this one
pub record Fits (mem : Memory) (m : Marks) (k : ℕ) : Type 0 where
  pub looks_bound : done_count m + looks_left m ≤ 63
  pub size_bound : done_count m + ahead_count m ≤ 64
  pub base_bound : base_of m ≤ 63 * frames_end m
  pub depth_bound : frames_end m ≤ deepest
  pub facts_count : facts_end m ≡ frames_end m + k
  pub frames_below : (i : ℕ) → i < frames_end m → frame_end (mem.frame_at i) ≤ base_of m

-- the marks of a question could be looked at, and fit
pub record Asking (mem : Memory) (m : Marks) (k : ℕ) : Type 0 where
  pub looks : 0 < looks_left m
  pub ahead : 0 < ahead_count m
  pub fits : Fits mem m k

-- each of the open questions, k of them, comes before the next, and the last before these marks
unfoldable pub Ordered : Memory → Marks → ℕ → Type 0
Ordered mem m zero = Unit {0}
Ordered mem m (suc k) = let q = marks_of (mem.question_at k) in Before q m × Asking mem q k × Ordered mem q k

-- the same with no marks after the last
abbrev pub OrderedOpen : Memory → ℕ → Type 0
OrderedOpen mem zero = Unit {0}
OrderedOpen mem (suc k) = let q = marks_of (mem.question_at k) in Asking mem q k × Ordered mem q k

-- what holds of the arrays after every step
abbrev pub Sound : Memory → Stacks → Type 0
Sound mem (Facing m k) = Fits mem m k × Ordered mem m k
Sound mem (Holding t k) = OrderedOpen mem k

-- the current polynomial, if any is ahead, is the one that stands in its place: it has lost nothing yet
abbrev pub Untouched : Memory → Marks → Type 0
Untouched mem m = 0 < ahead_count m → current_of m ≡ mem.poly_at (lefts_end m)

-- where the sign isn't zero, what is left of the current polynomial stands at its index, and p is the next polynomial
abbrev pub LeftWritten : Memory → Marks → Sign → Poly → Type 0
LeftWritten mem m Neg p = (mem.left_at (lefts_end m) ≡ left_of (current_of m) Neg) × Untouched mem (passed p m)
LeftWritten mem m Zero p = Unit {0}
LeftWritten mem m Pos p = (mem.left_at (lefts_end m) ≡ left_of (current_of m) Pos) × Untouched mem (passed p m)
