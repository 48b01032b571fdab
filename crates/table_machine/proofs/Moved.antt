-- The steps of the machine that look at a polynomial, on its arrays. Assumes nothing.
use Rattle.std.proofs.Common.{◌≡◌, ℕ, zero, suc, ◌+◌, ◌-◌, ◌<◌, min, true, false, List, length, take, ℤ, sym, refl, ap, ◌∙◌, subst, ap₂, arith, length-take, take_all}
use Rattle.field.specs.declared.sign.Sign.{Sign}
use Rattle.field.specs.declared.sign.Sign.TheVariants.{Neg, Zero, Pos}
use Rattle.poly.specs.Poly.{Poly, is_zero}
use Rattle.poly.specs.Leading.{leading}
use Rattle.sign_table.specs.Tree as sign
use Rattle.sign_table.specs.Facts.{Unknown, Is}
use Rattle.machine.specs.Machine as machine
use Rattle.machine.specs.Machine.{Run, start}
use Rattle.machine.specs.Stacks as stack
use Rattle.machine.specs.Stacks.{Agree, Sound, Untouched, passed, signed, with_one_fact, forth, polys_forth, state_of}
use Rattle.machine.specs.Theorems.{Advances, nothing_more}
use Rattle.machine.specs.Counts.{noted}
use Rattle.machine.proofs.Advances.{stacks_mirror}
use Rattle.question.specs.declared.tree.Tree.{Tree}
use Rattle.stacks.specs.declared.marks.Marks.{Marks}
use Rattle.stacks.specs.declared.marks.Branch.TheVariants.{Above, At, Below}
use Rattle.stacks.specs.declared.marks.Question.{Question}
use Rattle.stacks.specs.Values.{left_in, fact_in, question_in}
use Rattle.stacks.specs.Slots.{slot_in}
use Rattle.stacks.specs.Memories.{Cells, poly_of, left_from, fact_from, question_from, exploring, marks_from, memory_of}
use Rattle.table_machine.specs.Cells.{rewritten}
use Rattle.table_machine.specs.Settling.{Settles}
use Rattle.table_machine.specs.Moving.{current_poly, current_known, PassesZero, one_fact, Explores, Finishes}

pub agree : (n : ℕ) (trees : Tree → sign.Tree) (c : Cells) (lefts facts questions : List ℤ) (m : Marks) (k : ℕ) →
    ((i : ℕ) → i < m.base + m.done → left_in lefts i ≡ left_in c.lefts i) →
    ((i : ℕ) → i < m.facts → fact_in facts i ≡ fact_in c.facts i) →
    ((i : ℕ) → i < k → question_in questions i ≡ question_in c.questions i) →
    Agree (memory_of n trees c) (memory_of n trees (rewritten c lefts facts questions)) (marks_from n c.slots m) k
agree n trees c lefts facts questions m k l f q =
    record {
      polys = λ i h. refl;
      lefts = λ i h. ap (left_from n c.slots i) (l i h);
      facts = λ i h. ap (fact_from n c.slots) (f i h);
      frames = λ i h. refl;
      questions = λ i h. ap (question_from n trees c.slots) (q i h);
    }

-- a step between marks, which need not fit, with so many questions open before and after
abbrev pub MovesBetween : ℕ → Cells → Marks → (pending : ℕ) → Cells → Marks → (pending : ℕ) → (asked : ℕ) → Type 0
MovesBetween n c m k d r j asked = (trees : Tree → sign.Tree) (run : Run) → Sound (memory_of n trees c) (stack.Facing (marks_from n c.slots m) k) →
    Advances run n (memory_of n trees c) (stack.Facing (marks_from n c.slots m) k) (memory_of n trees d) (stack.Facing (marks_from n d.slots r) j) asked nothing_more

pub moves_zero : (n : ℕ) (c : Cells) (m : Marks) (k : ℕ) (lefts : List ℤ) (r : Marks) (j : ℕ) → 0 < m.looks → 0 < m.ahead → is_zero (current_poly n c.slots m) ≡ true →
    PassesZero n c m lefts r → j ≡ k → MovesBetween n c m k (rewritten c lefts c.facts c.questions) r j 0
moves_zero n c m k lefts r j looks ahead z p q trees run sound =
    let new = memory_of n trees (rewritten c lefts c.facts c.questions) in
    let next = poly_of n (slot_in c.slots (m.base + (m.done + 1))) in
    let done : m.done + 1 ≡ suc m.done = omega arith in
    let untouched : Untouched new (passed next (marks_from n c.slots m)) = λ h. ap (λ d. poly_of n (slot_in c.slots (m.base + d))) done in
    subst (λ x. Advances run n (memory_of n trees c) (stack.Facing (marks_from n c.slots m) k) new x 0 nothing_more) (ap₂ stack.Facing (sym p.marks) (sym q))
    (stacks_mirror.passes_zero run n (memory_of n trees c) new (marks_from n c.slots m) k sound
    (agree n trees c lefts c.facts c.questions m k p.kept (λ i h. refl) (λ i h. refl)) looks ahead z p.written next untouched)

pub moves-known : (n : ℕ) (c : Cells) (m : Marks) (k : ℕ) (s : Sign) (lefts : List ℤ) (r : Marks) (j : ℕ) → 0 < m.looks → 0 < m.ahead → is_zero (current_poly n c.slots m) ≡ false →
    Is s ≡ current_known n c.slots c.facts m → Settles n c m s lefts r → j ≡ k → MovesBetween n c m k (rewritten c lefts c.facts c.questions) r j 0
moves-known n c m k s lefts r j looks ahead z t p q trees run sound =
    let new = memory_of n trees (rewritten c lefts c.facts c.questions) in
    subst (λ x. Advances run n (memory_of n trees c) (stack.Facing (marks_from n c.slots m) k) new x 0 nothing_more) (ap₂ stack.Facing (sym p.marks) (sym q))
    (stacks_mirror.passes_known run n (memory_of n trees c) new (marks_from n c.slots m) k sound
    (agree n trees c lefts c.facts c.questions m k p.kept (λ i h. refl) (λ i h. refl)) looks ahead z s (sym t) p.next (p.written trees c.facts c.questions))

one-fact : (n : ℕ) (slots : List ℤ) (m : Marks) → marks_from n slots (one_fact m) ≡ with_one_fact (marks_from n slots m)
one-fact n slots m =
    let fact : m.facts + 1 ≡ suc m.facts = omega arith in
    λ i. stack.Marked m.looks m.base m.done m.ahead (current_poly n slots m) (fact i) m.frames

pub moves-asked : (n : ℕ) (c : Cells) (m : Marks) (k : ℕ) (d : Cells) (r : Marks) (j : ℕ) → 0 < m.looks → 0 < m.ahead → is_zero (current_poly n c.slots m) ≡ false →
    current_known n c.slots c.facts m ≡ Unknown → Explores n c m k Above Pos d r → j ≡ k + 1 → MovesBetween n c m k d r j 1
moves-asked n c m k d r j looks ahead z t x q =
    subst (λ e. MovesBetween n c m k e r j 1) (sym x.rest) (λ trees run sound.
    let lefts = d.lefts in
    let facts = d.facts in
    let questions = d.questions in
    let p = x.settles in
    let new = memory_of n trees (rewritten c lefts facts questions) in
    let old = marks_from n c.slots m in
    let more : suc k ≡ j = omega arith in
    let marks : signed p.next Pos (with_one_fact old) ≡ marks_from n c.slots r = ap (signed p.next Pos) (sym (one-fact n c.slots m)) ∙ sym p.marks in
    let both : stack.Facing (signed p.next Pos (with_one_fact old)) (suc k) ≡ stack.Facing (marks_from n c.slots r) j = ap₂ stack.Facing marks more in
    subst (λ y. Advances run n (memory_of n trees c) (stack.Facing old k) new y 1 nothing_more) both
    (stacks_mirror.asks run n (memory_of n trees c) new old k sound (agree n trees c lefts facts questions m k p.kept x.fact.under x.question.under) looks ahead z t
    (ap (question_from n trees c.slots) x.question.there) (ap (fact_from n c.slots) x.fact.there) p.next (p.written trees facts questions)))

-- the last question's branch above is finished
pub returns_above : (n : ℕ) (c : Cells) (t : Tree) (q : Question) (k : ℕ) (d : Cells) (r : Marks) → q ≡ question_in c.questions k → q.branch ≡ Above →
    Explores n c q.marks k (At t) Zero d r → (trees : Tree → sign.Tree) (run : Run) → Sound (memory_of n trees c) (stack.Holding (trees t) (suc k)) →
    Advances run n (memory_of n trees c) (stack.Holding (trees t) (suc k)) (memory_of n trees d) (stack.Facing (marks_from n d.slots r) (suc k)) 0 nothing_more
returns_above n c t q k d r e b x trees run sound =
    let m = q.marks in
    let p = x.settles in
    let new = memory_of n trees (rewritten c d.lefts d.facts d.questions) in
    let old = marks_from n c.slots m in
    let marks : signed p.next Zero (with_one_fact old) ≡ marks_from n c.slots r = ap (signed p.next Zero) (sym (one-fact n c.slots m)) ∙ sym p.marks in
    let was : (memory_of n trees c).question_at k ≡ stack.Pending old machine.Above =
    ap (question_from n trees c.slots) (sym e) ∙ ap (λ b. stack.Pending old (exploring trees b)) b in
    subst (λ y. Advances run n (memory_of n trees c) (stack.Holding (trees t) (suc k)) (memory_of n trees y) (stack.Facing (marks_from n y.slots r) (suc k)) 0 nothing_more) (sym x.rest)
    (subst (λ y. Advances run n (memory_of n trees c) (stack.Holding (trees t) (suc k)) new (stack.Facing y (suc k)) 0 nothing_more) marks
    (stacks_mirror.returns_above run n (memory_of n trees c) new (trees t) old k sound was
    (agree n trees c d.lefts d.facts d.questions m k p.kept x.fact.under x.question.under)
    (ap (question_from n trees c.slots) x.question.there) (ap (fact_from n c.slots) x.fact.there)))

pub returns_at : (n : ℕ) (c : Cells) (t above : Tree) (q : Question) (k : ℕ) (d : Cells) (r : Marks) → q ≡ question_in c.questions k → q.branch ≡ At above →
    Explores n c q.marks k (Below t above) Neg d r → (trees : Tree → sign.Tree) (run : Run) → Sound (memory_of n trees c) (stack.Holding (trees t) (suc k)) →
    Advances run n (memory_of n trees c) (stack.Holding (trees t) (suc k)) (memory_of n trees d) (stack.Facing (marks_from n d.slots r) (suc k)) 0 nothing_more
returns_at n c t above q k d r e b x trees run sound =
    let m = q.marks in
    let p = x.settles in
    let new = memory_of n trees (rewritten c d.lefts d.facts d.questions) in
    let old = marks_from n c.slots m in
    let marks : signed p.next Neg (with_one_fact old) ≡ marks_from n c.slots r = ap (signed p.next Neg) (sym (one-fact n c.slots m)) ∙ sym p.marks in
    let was : (memory_of n trees c).question_at k ≡ stack.Pending old (machine.At (trees above)) =
    ap (question_from n trees c.slots) (sym e) ∙ ap (λ b. stack.Pending old (exploring trees b)) b in
    subst (λ y. Advances run n (memory_of n trees c) (stack.Holding (trees t) (suc k)) (memory_of n trees y) (stack.Facing (marks_from n y.slots r) (suc k)) 0 nothing_more) (sym x.rest)
    (subst (λ y. Advances run n (memory_of n trees c) (stack.Holding (trees t) (suc k)) new (stack.Facing y (suc k)) 0 nothing_more) marks
    (stacks_mirror.returns_at run n (memory_of n trees c) new (trees t) (trees above) old k sound was
    (agree n trees c d.lefts d.facts d.questions m k p.kept x.fact.under x.question.under)
    (ap (question_from n trees c.slots) x.question.there) (ap (fact_from n c.slots) x.fact.there) p.next (p.written trees d.facts d.questions)))

-- the same by how many questions are open
module _ (n : ℕ) (c : Cells) (t : Tree) (q : Question) (pending : ℕ) (d : Cells) (r : Marks) (after : ℕ) (some : 0 < pending) (is : q ≡ question_in c.questions (pending - 1)) (same : after ≡ pending) where
  abbrev Goes : ℕ → ℕ → Type 0
  Goes k j = (trees : Tree → sign.Tree) (run : Run) → Sound (memory_of n trees c) (stack.Holding (trees t) k) →
      Advances run n (memory_of n trees c) (stack.Holding (trees t) k) (memory_of n trees d) (stack.Facing (marks_from n d.slots r) j) 0 nothing_more

  moved : Goes (suc (pending - 1)) (suc (pending - 1)) → Goes pending after
  moved h =
      let k : suc (pending - 1) ≡ pending = omega arith in
      subst (Goes pending) (sym same) (subst (λ k. Goes k k) k h)

  pub returned_above : q.branch ≡ Above → Explores n c q.marks (pending - 1) (At t) Zero d r → Goes pending after
  returned_above b x = moved (returns_above n c t q (pending - 1) d r is b x)

  pub returned_at : (above : Tree) → q.branch ≡ At above → Explores n c q.marks (pending - 1) (Below t above) Neg d r → Goes pending after
  returned_at above b x = moved (returns_at n c t above q (pending - 1) d r is b x)

pub finishes : (n : ℕ) (c : Cells) (t : Tree) (pending : ℕ) → 0 < pending → Finishes n c t pending
finishes n c t pending l at above b trees run =
    let j : suc (pending - 1) ≡ pending = omega arith in
    let m = (question_in c.questions (pending - 1)).marks in
    let p = leading n (current_poly n c.slots m) in
    subst (λ k. Sound (memory_of n trees c) (stack.Holding (trees t) k) →
    Advances run n (memory_of n trees c) (stack.Holding (trees t) k) (memory_of n trees c) (stack.Holding (run.join p (trees t) (trees at) (trees above)) (pending - 1)) 0 (noted n p)) j
    (λ sound. stacks_mirror.returns_below run n (memory_of n trees c) (trees t) (trees at) (trees above) (marks_from n c.slots m) (pending - 1) sound
    (ap (λ b. stack.Pending (marks_from n c.slots m) (exploring trees b)) b))

abbrev first_marks : (ahead count : ℕ) → Marks
first_marks ahead count = record { looks = 63; base = 0; done = 0; ahead = ahead; count = count; facts = 0; frames = 0 }

length-forth : {A : Type 0} (f : ℕ → A) (i k : ℕ) → length (forth f i k) ≡ k
unfolding forth
length-forth f i zero = refl
length-forth f i (suc k) = ap suc (length-forth f (suc i) k)

-- at most 64 polynomials are begun with
pub begins : (n : ℕ) (c : Cells) (size count ahead : ℕ) → count ≡ length (slot_in c.slots 0) → ahead ≡ min size 64 →
    (trees : Tree → sign.Tree) (ps : List Poly) → polys_forth (memory_of n trees c) 0 0 size ≡ take 64 ps →
    let s = stack.Facing (marks_from n c.slots (first_marks ahead count)) 0 in (state_of (memory_of n trees c) s ≡ start 40 ps) × Sound (memory_of n trees c) s
begins n c size count ahead e few trees ps first =
    let mem = memory_of n trees c in
    let slot = slot_in c.slots 0 in
    let p = poly_of n (take count slot) in
    let whole : take count slot ≡ slot = take_all count slot (omega arith) in
    let long : size ≡ length (take 64 ps) = sym (length-forth (λ j. mem.poly_at (0 + j)) 0 size) ∙ ap length first in
    let same : size ≡ ahead = omega (arith, length-take 64 ps) in
    subst (λ k. let f = stack.Facing (stack.Marked 63 0 0 k p 0 0) 0 in (state_of mem f ≡ start 40 ps) × Sound mem f) same
    (stacks_mirror.begins mem ps p size first (λ h. ap (poly_of n) whole))
