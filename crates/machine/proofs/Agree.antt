-- What the arrays say of a phase and of the open questions depends only on the cells in use. Assumes nothing.
use mathlib.Core.Path.{◌≡◌, refl, ap, ap₂, sym, ◌∙◌, subst}
use mathlib.Core.List.{[], ◌∷◌}
use Prim.Native.Nat.{ℕ, zero, suc, ◌+◌, ◌-◌, ◌≤◌, ◌<◌}
use native.Mathlib.Omega.{arith}
use Rattle.sign_table.specs.Leadings.{turned_round}
use Rattle.machine.specs.Machine.{Waiting, Settling, Open}
use Rattle.machine.specs.Stacks.{Marks, Marked, FrameCell, Kept, QuestionCell, Pending, Memory, back, forth, less_one, deepest, lefts_back, polys_forth, frame_of, frames_of, rest_of, current_of, marks_of, question_of, questions_of, lefts_end, facts_end, frames_end, ahead_count, base_of, done_count, frame_end, Agree, Before, Fits, Asking, Ordered}

back_agrees : {A : Type 0} (f g : ℕ → A) (k : ℕ) → ((i : ℕ) → i < k → f i ≡ g i) → back f k ≡ back g k
unfolding back
back_agrees f g zero h = refl
back_agrees f g (suc k) h = ap₂ ◌∷◌ (h k (omega arith)) (back_agrees f g k (λ i less. h i (omega arith)))

forth_agrees : {A : Type 0} (f g : ℕ → A) (i k : ℕ) → ((j : ℕ) → j < i + k → f j ≡ g j) → forth f i k ≡ forth g i k
unfolding forth
forth_agrees f g i zero h = refl
forth_agrees f g i (suc k) h = ap₂ ◌∷◌ (h i (omega arith)) (forth_agrees f g (suc i) k (λ j less. h j (omega arith)))

frame_agrees : (mem new : Memory) (end : ℕ) → ((i : ℕ) → i < end → new.left_at i ≡ mem.left_at i) → (c : FrameCell) → frame_end c ≤ end → frame_of new c ≡ frame_of mem c
frame_agrees mem new end h (Kept base size place divisors) le =
    ap (λ ls. Waiting (turned_round ls []) place divisors) (back_agrees (λ i. new.left_at (base + i)) (λ i. mem.left_at (base + i)) size (λ i less. h (base + i) (omega arith)))

module _ (mem new : Memory) where
  pub frames_agree : (m : Marks) (k l : ℕ) → Fits mem m k → Agree mem new m l → frames_of new (frames_end m) ≡ frames_of mem (frames_end m)
  frames_agree m k l fits agree =
      back_agrees (λ i. frame_of new (new.frame_at i)) (λ i. frame_of mem (mem.frame_at i)) (frames_end m)
      (λ i less. ap (frame_of new) (agree.frames i less) ∙ frame_agrees mem new (lefts_end m) agree.lefts (mem.frame_at i) (below m (fits.frames_below i less)))
    where
      below : (m : Marks) {x : ℕ} → x ≤ base_of m → x ≤ lefts_end m
      below (Marked looks base done ahead current facts frames) h = omega arith

  pub lefts_agree : (m : Marks) (l : ℕ) → Agree mem new m l → lefts_back new (base_of m) (done_count m) ≡ lefts_back mem (base_of m) (done_count m)
  lefts_agree (Marked looks base done ahead current facts frames) l agree =
      back_agrees (λ j. new.left_at (base + j)) (λ j. mem.left_at (base + j)) done (λ j less. agree.lefts (base + j) (omega arith))

  pub facts_agree : (m : Marks) (l : ℕ) → Agree mem new m l → back new.fact_at (facts_end m) ≡ back mem.fact_at (facts_end m)
  facts_agree m l agree = back_agrees new.fact_at mem.fact_at (facts_end m) agree.facts

  pub rest_agrees : (m : Marks) (k l : ℕ) → 0 < ahead_count m → Fits mem m k → Agree mem new m l → rest_of new m ≡ rest_of mem m
  rest_agrees (Marked looks base done zero current facts frames) k l some fits agree = absurd (omega arith)
  rest_agrees (Marked looks base done (suc ahead) current facts frames) k l some fits agree =
      let m = Marked looks base done (suc ahead) current facts frames in
      let ps : polys_forth new base (suc done) ahead ≡ polys_forth mem base (suc done) ahead =
      forth_agrees (λ j. new.poly_at (base + j)) (λ j. mem.poly_at (base + j)) (suc done) ahead (λ j less. agree.polys (base + j) (omega arith)) in
      λ i. Settling (deepest - frames) (less_one looks) (ps i) (lefts_agree m l agree i) (facts_agree m l agree i) (frames_agree m k l fits agree i)

  agree_before : (q m : Marks) (k l : ℕ) → Before q m → k ≤ l → Agree mem new m l → Agree mem new q k
  agree_before q m k l before le agree = record {
    polys = λ i less. agree.polys i (let h = before.polys in omega arith);
    lefts = λ i less. agree.lefts i (let h = before.lefts in omega arith);
    facts = λ i less. agree.facts i (let h = before.facts in omega arith);
    frames = λ i less. agree.frames i (let h = before.frames in omega arith);
    questions = λ i less. agree.questions i (omega arith);
  }

  pub fits_agrees : (m : Marks) (k l : ℕ) → Fits mem m k → Agree mem new m l → Fits new m k
  fits_agrees m k l fits agree = record {
    looks_bound = fits.looks_bound;
    size_bound = fits.size_bound;
    base_bound = fits.base_bound;
    depth_bound = fits.depth_bound;
    facts_count = fits.facts_count;
    frames_below = λ i less. rw (agree.frames i less) (fits.frames_below i less);
  }

  pub questions_agree : (m : Marks) (k : ℕ) → Ordered mem m k → Agree mem new m k → questions_of new k ≡ questions_of mem k
  unfolding back Ordered
  questions_agree m zero ordered agree = refl
  questions_agree m (suc k) ordered agree =
      let q = marks_of (mem.question_at k) in
      let within = agree_before q m k (suc k) ordered.0 (omega arith) agree in
      ap₂ ◌∷◌ (ap (question_of new) (agree.questions k (omega arith)) ∙ question_agrees (mem.question_at k) ordered.1 within) (questions_agree q k ordered.2 within)
    where
      question_agrees : (c : QuestionCell) → Asking mem (marks_of c) k → Agree mem new (marks_of c) k → question_of new c ≡ question_of mem c
      question_agrees (Pending m e) asking within = ap (Open (current_of m) e) (rest_agrees m k k asking.ahead asking.fits within)

  pub ordered_agrees : (m : Marks) (k : ℕ) → Ordered mem m k → Agree mem new m k → Ordered new m k
  unfolding Ordered
  ordered_agrees m zero ordered agree = tt
  ordered_agrees m (suc k) ordered agree =
      let q = marks_of (mem.question_at k) in
      let within = agree_before q m k (suc k) ordered.0 (omega arith) agree in
      let asking : Asking new q k = record { looks = ordered.1.looks; ahead = ordered.1.ahead; fits = fits_agrees q k k ordered.1.fits within } in
      let rest = ordered_agrees q k ordered.2 within in
      subst (λ c. Before (marks_of c) m × Asking new (marks_of c) k × Ordered new (marks_of c) k) (sym (agree.questions k (omega arith))) (ordered.0, asking, rest)

pub before-trans : (q m o : Marks) → Before q m → Before m o → Before q o
before-trans q m o h k = record {
  polys = let x = h.polys in let y = k.polys in omega arith;
  lefts = let x = h.lefts in let y = k.lefts in omega arith;
  facts = let x = h.facts in let y = k.facts in omega arith;
  frames = let x = h.frames in let y = k.frames in omega arith;
}

pub ordered_before : (mem : Memory) (m o : Marks) (k : ℕ) → Before m o → Ordered mem m k → Ordered mem o k
unfolding Ordered
ordered_before mem m o zero before ordered = tt
ordered_before mem m o (suc k) before ordered = (before-trans (marks_of (mem.question_at k)) m o ordered.0 before, ordered.1, ordered.2)
