-- Each kind of step on the arrays is a step of the machine, and keeps the arrays sound. Assumes nothing.
use mathlib.Core.Path.{◌≡◌, refl, ap, ap₂, sym, ◌∙◌, subst}
use mathlib.Core.Bool.{Bool, true, false}
use mathlib.Core.List.{List, [], ◌∷◌}
use Prim.Native.Nat.{ℕ, zero, suc, ◌+◌, ◌-◌, ◌≤◌, ◌<◌}
use native.Mathlib.Omega.{arith}
use native.Mathlib.Decide.{dec_lt}
use lib.ListN.{length, take, get_or, length-take}
use Rattle.field.specs.declared.sign.Sign.{Sign}
use Rattle.field.specs.declared.sign.Sign.TheVariants.{Neg, Zero, Pos}
use Rattle.poly.specs.Poly.{Poly, is_zero}
use Rattle.poly.specs.Leading.{leading}
use Rattle.sign_table.specs.Tree.{Tree, GivenUp}
use Rattle.sign_table.specs.Facts.{Fact, Known, Unknown, Is, known}
use Rattle.sign_table.specs.Leadings.{Left, Plain, turned_round, reals, filled_all}
use Rattle.sign_table.specs.Table.{without, none_left}
use Rattle.machine.specs.Machine.{Waiting, Phase, Settling, Branch, Above, At, Below, Question, Open, State, Looking, Returning, Run, resume, with_sign, with_fact, assumed, with_zero, begun, divisors, divisible, polys_below, fact_below, highest_place, settled, looked_at, step, start}
use Rattle.machine.specs.Stacks.{Marks, Marked, Kept, QuestionCell, Pending, Memory, back, forth, less_one, deepest, lefts_back, polys_forth, frame_of, frames_of, ahead_of, phase_of, rest_of, current_of, marks_of, question_of, questions_of, Stacks, Facing, Holding, state_of, passed, shortened, signed, with_one_fact, entered, lefts_end, facts_end, frames_end, looks_left, ahead_count, base_of, done_count, frame_end, Agree, Before, Fits, Asking, Ordered, Sound, Untouched, LeftWritten}
use Rattle.machine.specs.Theorems.{all_lefts}
use Rattle.machine.proofs.Agree.{frames_agree, lefts_agree, facts_agree, rest_agrees, fits_agrees, questions_agree, ordered_agrees, ordered_before}

-- the arrays stand for the next state, and stay sound
abbrev pub Mirrors : Run → ℕ → Memory → Stacks → Memory → Stacks → Type 0
Mirrors run n before s after t = (state_of after t ≡ step run n (state_of before s)) × Sound after t

ahead-forth : (mem : Memory) (base i ahead : ℕ) (p : Poly) → (0 < ahead → p ≡ mem.poly_at (base + i)) → ahead_of mem base i ahead p ≡ polys_forth mem base i ahead
unfolding forth
ahead-forth mem base i zero p h = refl
ahead-forth mem base i (suc ahead) p h = ap (λ q. q ∷ polys_forth mem base (suc i) ahead) (h (omega arith))

-- what is left of a polynomial, noted
abbrev with_left : Left → Phase → Phase
with_left l (Settling depth looks ps ls fs frames) = Settling depth looks ps (l ∷ ls) fs frames

passed_phase : (mem : Memory) (m : Marks) (p : Poly) (l : Left) → mem.left_at (lefts_end m) ≡ l → Untouched mem (passed p m) → phase_of mem (passed p m) ≡ with_left l (rest_of mem m)
unfolding back
passed_phase mem (Marked looks base done ahead current facts frames) p l e h =
    λ i. Settling (deepest - frames) (less_one looks) (ahead-forth mem base (suc done) (less_one ahead) p h i) (e i ∷ lefts_back mem base done) (back mem.fact_at facts) (frames_of mem frames)

signed_phase : (mem : Memory) (m : Marks) (p : Poly) (s : Sign) → 0 < ahead_count m → LeftWritten mem m s p → phase_of mem (signed p s m) ≡ with_sign (current_of m) s (rest_of mem m)
signed_phase mem (Marked looks base done ahead current facts frames) p Neg some e = passed_phase mem (Marked looks base done ahead current facts frames) p _ e.0 e.1
signed_phase mem (Marked looks base done zero current facts frames) p Zero some e = absurd (omega arith)
signed_phase mem (Marked looks base done (suc ahead) current facts frames) p Zero some e = refl
signed_phase mem (Marked looks base done ahead current facts frames) p Pos some e = passed_phase mem (Marked looks base done ahead current facts frames) p _ e.0 e.1

assumed_phase : (n : ℕ) (mem : Memory) (m : Marks) (p : Poly) (s : Sign) → 0 < ahead_count m → LeftWritten mem m s p →
    mem.fact_at (facts_end m) ≡ record { poly = leading n (current_of m); sign = s } → phase_of mem (signed p s (with_one_fact m)) ≡ assumed n (current_of m) s (rest_of mem m)
unfolding back
assumed_phase n mem (Marked looks base done ahead current facts frames) p s some l e =
    signed_phase mem (Marked looks base done ahead current (suc facts) frames) p s some (written s l) ∙ ap (λ f. with_sign current s (with_fact f (rest_of mem (Marked looks base done ahead current facts frames)))) e
  where
    written : (s : Sign) → LeftWritten mem (Marked looks base done ahead current facts frames) s p → LeftWritten mem (Marked looks base done ahead current (suc facts) frames) s p
    written Neg l = l
    written Zero l = l
    written Pos l = l

-- marks with a look and a polynomial less, and perhaps a fact more, fit
passed-fits : (mem : Memory) (looks base done ahead : ℕ) (p q : Poly) (facts frames k : ℕ) → Fits mem (Marked (suc looks) base done (suc ahead) p facts frames) k →
    Fits mem (Marked looks base (suc done) ahead q facts frames) k
passed-fits mem looks base done ahead p q facts frames k fits = record {
  looks_bound = let h = fits.looks_bound in omega arith;
  size_bound = let h = fits.size_bound in omega arith;
  base_bound = fits.base_bound;
  depth_bound = fits.depth_bound;
  facts_count = fits.facts_count;
  frames_below = fits.frames_below;
}

shortened-fits : (mem : Memory) (looks base done ahead : ℕ) (p q : Poly) (facts frames k : ℕ) → Fits mem (Marked (suc looks) base done ahead p facts frames) k →
    Fits mem (Marked looks base done ahead q facts frames) k
shortened-fits mem looks base done ahead p q facts frames k fits = record {
  looks_bound = let h = fits.looks_bound in omega arith;
  size_bound = fits.size_bound;
  base_bound = fits.base_bound;
  depth_bound = fits.depth_bound;
  facts_count = fits.facts_count;
  frames_below = fits.frames_below;
}

signed-fits : (mem : Memory) (m : Marks) (q : Poly) (s : Sign) (k : ℕ) → 0 < looks_left m → 0 < ahead_count m → Fits mem m k → Fits mem (signed q s m) k
signed-fits mem (Marked zero base done ahead p facts frames) q s k look some fits = absurd (omega arith)
signed-fits mem (Marked (suc looks) base done zero p facts frames) q s k look some fits = absurd (omega arith)
signed-fits mem (Marked (suc looks) base done (suc ahead) p facts frames) q Neg k look some fits = passed-fits mem looks base done ahead p _ facts frames k fits
signed-fits mem (Marked (suc looks) base done (suc ahead) p facts frames) q Zero k look some fits = shortened-fits mem looks base done (suc ahead) p _ facts frames k fits
signed-fits mem (Marked (suc looks) base done (suc ahead) p facts frames) q Pos k look some fits = passed-fits mem looks base done ahead p _ facts frames k fits

one-fact-fits : (mem : Memory) (m : Marks) (k : ℕ) → Fits mem m k → Fits mem (with_one_fact m) (suc k)
one-fact-fits mem (Marked looks base done ahead p facts frames) k fits = record {
  looks_bound = fits.looks_bound;
  size_bound = fits.size_bound;
  base_bound = fits.base_bound;
  depth_bound = fits.depth_bound;
  facts_count = let e = fits.facts_count in omega arith;
  frames_below = fits.frames_below;
}

signed_after : (m : Marks) (q : Poly) (s : Sign) → 0 < ahead_count m → Before m (signed q s m)
signed_after (Marked looks base done zero p facts frames) q s some = absurd (omega arith)
signed_after (Marked looks base done (suc ahead) p facts frames) q Neg some = record { polys = omega arith; lefts = omega arith; facts = omega arith; frames = omega arith }
signed_after (Marked looks base done (suc ahead) p facts frames) q Zero some = record { polys = omega arith; lefts = omega arith; facts = omega arith; frames = omega arith }
signed_after (Marked looks base done (suc ahead) p facts frames) q Pos some = record { polys = omega arith; lefts = omega arith; facts = omega arith; frames = omega arith }

assumed_after : (m : Marks) (q : Poly) (s : Sign) → 0 < ahead_count m → Before m (signed q s (with_one_fact m))
assumed_after (Marked looks base done zero p facts frames) q s some = absurd (omega arith)
assumed_after (Marked looks base done (suc ahead) p facts frames) q Neg some = record { polys = omega arith; lefts = omega arith; facts = omega arith; frames = omega arith }
assumed_after (Marked looks base done (suc ahead) p facts frames) q Zero some = record { polys = omega arith; lefts = omega arith; facts = omega arith; frames = omega arith }
assumed_after (Marked looks base done (suc ahead) p facts frames) q Pos some = record { polys = omega arith; lefts = omega arith; facts = omega arith; frames = omega arith }

-- a question was asked or goes on: its marks come before the next
assumed-sound : (mem : Memory) (m : Marks) (q : Poly) (s : Sign) (k : ℕ) (c : QuestionCell) → marks_of c ≡ m → mem.question_at k ≡ c → Asking mem m k → Ordered mem m k →
    Sound mem (Facing (signed q s (with_one_fact m)) (suc k))
unfolding Ordered
assumed-sound mem m q s k c marks written asking ordered = (
  signed-fits mem (with_one_fact m) q s (suc k) (one-look m asking.looks) (one-ahead m asking.ahead) (one-fact-fits mem m k asking.fits),
  subst (λ o. Before o (signed q s (with_one_fact m)) × Asking mem o k × Ordered mem o k) (sym (ap marks_of written ∙ marks)) (assumed_after m q s asking.ahead, asking, ordered),
)
  where
    one-look : (m : Marks) → 0 < looks_left m → 0 < looks_left (with_one_fact m)
    one-look (Marked looks base done ahead p facts frames) h = h

    one-ahead : (m : Marks) → 0 < ahead_count m → 0 < ahead_count (with_one_fact m)
    one-ahead (Marked looks base done ahead p facts frames) h = h

facing-step : (run : Run) (n : ℕ) (mem : Memory) (m : Marks) (k : ℕ) → 0 < looks_left m → 0 < ahead_count m →
    step run n (state_of mem (Facing m k)) ≡
    looked_at n (is_zero (current_of m)) (known n (leading n (current_of m)) (back mem.fact_at (facts_end m))) (current_of m) (rest_of mem m) (questions_of mem k)
facing-step run n mem (Marked zero base done ahead p facts frames) k look some = absurd (omega arith)
facing-step run n mem (Marked (suc looks) base done zero p facts frames) k look some = absurd (omega arith)
facing-step run n mem (Marked (suc looks) base done (suc ahead) p facts frames) k look some = refl

module _ (run : Run) (n : ℕ) (mem new : Memory) (m : Marks) (k : ℕ) (sound : Sound mem (Facing m k)) (agree : Agree mem new m k) (look : 0 < looks_left m) (some : 0 < ahead_count m) where
  rest-same : rest_of new m ≡ rest_of mem m
  rest-same = rest_agrees mem new m k k some sound.0 agree

  questions-same : questions_of new k ≡ questions_of mem k
  questions-same = questions_agree mem new m k sound.1 agree

  fits_still : Fits new m k
  fits_still = fits_agrees mem new m k k sound.0 agree

  ordered_still : Ordered new m k
  ordered_still = ordered_agrees mem new m k sound.1 agree

  pub passes_zero : is_zero (current_of m) ≡ true → new.left_at (lefts_end m) ≡ Plain Zero → (p : Poly) → Untouched new (passed p m) → Mirrors run n mem (Facing m k) new (Facing (passed p m) k)
  passes_zero zero-poly left p untouched =
      let e : phase_of new (passed p m) ≡ with_zero (rest_of mem m) = passed_phase new m p (Plain Zero) left untouched ∙ ap with_zero rest-same in
      let looks : looked_at n (is_zero (current_of m)) (known n (leading n (current_of m)) (back mem.fact_at (facts_end m))) (current_of m) (rest_of mem m) (questions_of mem k) ≡
      Looking (with_zero (rest_of mem m)) (questions_of mem k) =
      ap (λ b. looked_at n b (known n (leading n (current_of m)) (back mem.fact_at (facts_end m))) (current_of m) (rest_of mem m) (questions_of mem k)) zero-poly in (
        ap₂ Looking e questions-same ∙ (sym looks ∙ sym (facing-step run n mem m k look some)),
        (signed-fits new m p Neg k look some fits_still, ordered_before new m (passed p m) k (signed_after m p Neg some) ordered_still),
      )

  -- what is looked at, when the current polynomial isn't zero and this is known of its leading coefficient
  looking_at : (b : Known) → is_zero (current_of m) ≡ false → known n (leading n (current_of m)) (back mem.fact_at (facts_end m)) ≡ b →
      step run n (state_of mem (Facing m k)) ≡ looked_at n false b (current_of m) (rest_of mem m) (questions_of mem k)
  looking_at b not_zero e = facing-step run n mem m k look some ∙ ap₂ (λ z c. looked_at n z c (current_of m) (rest_of mem m) (questions_of mem k)) not_zero e

  pub passes_known : is_zero (current_of m) ≡ false → (s : Sign) → known n (leading n (current_of m)) (back mem.fact_at (facts_end m)) ≡ Is s → (p : Poly) → LeftWritten new m s p →
      Mirrors run n mem (Facing m k) new (Facing (signed p s m) k)
  passes_known not_zero s e p left = (
    ap₂ Looking (signed_phase new m p s some left ∙ ap (with_sign (current_of m) s) rest-same) questions-same ∙ sym (looking_at (Is s) not_zero e),
    (signed-fits new m p s k look some fits_still, ordered_before new m (signed p s m) k (signed_after m p s some) ordered_still),
  )

  pub asks : is_zero (current_of m) ≡ false → known n (leading n (current_of m)) (back mem.fact_at (facts_end m)) ≡ Unknown →
      new.question_at k ≡ Pending m Above → new.fact_at (facts_end m) ≡ record { poly = leading n (current_of m); sign = Pos } → (p : Poly) → LeftWritten new m Pos p →
      Mirrors run n mem (Facing m k) new (Facing (signed p Pos (with_one_fact m)) (suc k))
  unfolding back
  asks not_zero e question fact p left =
      let phase = assumed_phase n new m p Pos some left fact ∙ ap (assumed n (current_of m) Pos) rest-same in
      let asked = ap (question_of new) question ∙ ap (Open (current_of m) Above) rest-same in (
        ap₂ Looking phase (ap₂ ◌∷◌ asked questions-same) ∙ sym (looking_at Unknown not_zero e),
        assumed-sound new m p Pos k (Pending m Above) refl question (record { looks = look; ahead = some; fits = fits_still }) ordered_still,
      )

-- the open questions are in order where no marks are after the last
ordered_open : (mem : Memory) (m : Marks) (t : Tree) (k : ℕ) → Ordered mem m k → Sound mem (Holding t k)
unfolding Ordered
ordered_open mem m t zero ordered = tt
ordered_open mem m t (suc k) ordered = (ordered.1, ordered.2)

-- the phase at the beginning of a table below
entered_phase : (mem : Memory) (m : Marks) (p : Poly) (size : ℕ) → Untouched mem (entered p size m) → (ps : List Poly) (f : Fact) (place count : ℕ) → polys_forth mem (lefts_end m) 0 size ≡ take 64 ps → mem.fact_at (facts_end m) ≡ f →
    mem.frame_at (frames_end m) ≡ Kept (base_of m) (done_count m) place count →
    phase_of mem (entered p size m) ≡
    Settling (deepest - suc (frames_end m)) 63 (take 64 ps) [] (f ∷ back mem.fact_at (facts_end m)) (Waiting (all_lefts mem m) place count ∷ frames_of mem (frames_end m))
unfolding back
entered_phase mem (Marked looks base done ahead current facts frames) p size h ps f place count polys fact frame =
    let e = ahead-forth mem (base + done) 0 size p h ∙ polys in
    λ i. Settling (deepest - suc frames) 63 (e i) [] (fact i ∷ back mem.fact_at facts) (frame_of mem (frame i) ∷ frames_of mem frames)

length-forth : {A : Type 0} (f : ℕ → A) (i k : ℕ) → length (forth f i k) ≡ k
unfolding forth
length-forth f i zero = refl
length-forth f i (suc k) = ap suc (length-forth f (suc i) k)

-- a table has at most 64 polynomials
forth_bound : (f : ℕ → Poly) (i size : ℕ) (ps : List Poly) → forth f i size ≡ take 64 ps → size ≤ 64
forth_bound f i size ps e =
    let l : size ≡ length (take 64 ps) = sym (length-forth f i size) ∙ ap length e in
    let t = length-take 64 ps in
    omega arith

-- what holds below k and at k holds up to k
below_suc : (P : ℕ → Type 0) (k : ℕ) → ((i : ℕ) → i < k → P i) → P k → (i : ℕ) → i < suc k → P i
below_suc P k h last i less = go (dec_lt i k)
  where
    go : Dec (i < k) → P i
    go (yes l) = h i l
    go (no nl) = let e : i ≡ k = omega arith in subst P (sym e) last

entered-sound : (mem new : Memory) (m : Marks) (p : Poly) (k size : ℕ) → Sound mem (Facing m k) → Agree mem new m k → ahead_count m ≡ 0 → frames_end m < deepest →
    (ps : List Poly) → polys_forth new (lefts_end m) 0 size ≡ take 64 ps → (place count : ℕ) → new.frame_at (frames_end m) ≡ Kept (base_of m) (done_count m) place count →
    Sound new (Facing (entered p size m) k)
entered-sound mem new (Marked looks base done ahead current facts frames) p k size sound agree none deep ps polys place count frame =
    let m = Marked looks base done ahead current facts frames in
    let fits = fits_agrees mem new m k k sound.0 agree in
    let small = forth_bound (λ j. new.poly_at (base + done + j)) 0 size ps polys in
    let last : frame_end (new.frame_at frames) ≤ base + done = rw frame (omega arith) in
    let f : Fits new (entered p size m) k = record {
      looks_bound = omega arith;
      size_bound = omega arith;
      base_bound = let h = fits.base_bound in let l = fits.looks_bound in omega arith;
      depth_bound = omega arith;
      facts_count = let e = fits.facts_count in omega arith;
      frames_below = below_suc (λ i. frame_end (new.frame_at i) ≤ base + done) frames (λ i less. let h = fits.frames_below i less in omega arith) last;
    } in
    let before : Before m (entered p size m) = record { polys = omega arith; lefts = omega arith; facts = omega arith; frames = omega arith } in
    (f, ordered_before new m (entered p size m) k before (ordered_agrees mem new m k sound.1 agree))

module _ (run : Run) (n : ℕ) (mem : Memory) (m : Marks) (k : ℕ) (sound : Sound mem (Facing m k)) where
  pub gives_up_looking : looks_left m ≡ 0 → 0 < ahead_count m → Mirrors run n mem (Facing m k) mem (Holding GivenUp k)
  gives_up_looking none some = (sym (gave m none some), ordered_open mem m GivenUp k sound.1)
    where
      gave : (m : Marks) → looks_left m ≡ 0 → 0 < ahead_count m → step run n (state_of mem (Facing m k)) ≡ Returning GivenUp (questions_of mem k)
      gave (Marked zero base done zero p facts frames) none some = absurd (omega arith)
      gave (Marked zero base done (suc ahead) p facts frames) none some = refl
      gave (Marked (suc looks) base done ahead p facts frames) none some = absurd (omega arith)

  module _ (none : ahead_count m ≡ 0) where
    settled-step : step run n (state_of mem (Facing m k)) ≡
        settled run.leaf n (deepest - frames_end m) (reals (all_lefts mem m)) (all_lefts mem m) (back mem.fact_at (facts_end m)) (frames_of mem (frames_end m)) (questions_of mem k)
    settled-step = steps m none
      where
        steps : (m : Marks) → ahead_count m ≡ 0 → step run n (state_of mem (Facing m k)) ≡
            settled run.leaf n (deepest - frames_end m) (reals (all_lefts mem m)) (all_lefts mem m) (back mem.fact_at (facts_end m)) (frames_of mem (frames_end m)) (questions_of mem k)
        steps (Marked zero base done zero p facts frames) none = refl
        steps (Marked (suc looks) base done zero p facts frames) none = refl
        steps (Marked zero base done (suc ahead) p facts frames) none = absurd (omega arith)
        steps (Marked (suc looks) base done (suc ahead) p facts frames) none = absurd (omega arith)

    -- settled, with these real ones
    settled_with : (ls : List Left) → reals (all_lefts mem m) ≡ ls → step run n (state_of mem (Facing m k)) ≡
        settled run.leaf n (deepest - frames_end m) ls (all_lefts mem m) (back mem.fact_at (facts_end m)) (frames_of mem (frames_end m)) (questions_of mem k)
    settled_with ls e =
        settled-step ∙ ap (λ rs. settled run.leaf n (deepest - frames_end m) rs (all_lefts mem m) (back mem.fact_at (facts_end m)) (frames_of mem (frames_end m)) (questions_of mem k)) e

    pub answers : reals (all_lefts mem m) ≡ [] →
        Mirrors run n mem (Facing m k) mem (Holding (resume run.leaf (frames_of mem (frames_end m)) (filled_all (all_lefts mem m) ([] ∷ []))) k)
    answers e = (sym (settled_with [] e), ordered_open mem m GivenUp k sound.1)

    module _ (l : Left) (ls : List Left) (real : reals (all_lefts mem m) ≡ l ∷ ls) where
      abbrev place : ℕ
      place = highest_place l ls

      abbrev top : Left
      top = get_or (l ∷ ls) place none_left

      abbrev others : List Left
      others = without place (l ∷ ls)

      -- what a test of the table below comes to, at some depth
      tested : (b : Bool) (depth : ℕ) → State
      tested b depth =
          elim b [
            | true ↦ begun depth (polys_below n top others) (fact_below n top ∷ back mem.fact_at (facts_end m))
                (Waiting (all_lefts mem m) place (length (divisors n top others)) ∷ frames_of mem (frames_end m)) (questions_of mem k)
            | false ↦ Returning GivenUp (questions_of mem k)
          ]

      tested_step : step run n (state_of mem (Facing m k)) ≡ tested (divisible n top others) (deepest - frames_end m)
      unfolding tested
      tested_step = settled_with (l ∷ ls) real

      pub gives_up_dividing : divisible n top others ≡ false → Mirrors run n mem (Facing m k) mem (Holding GivenUp k)
      unfolding tested
      gives_up_dividing e = (sym (tested_step ∙ ap (λ b. tested b (deepest - frames_end m)) e), ordered_open mem m GivenUp k sound.1)

      pub gives_up_depth : frames_end m ≡ deepest → Mirrors run n mem (Facing m k) mem (Holding GivenUp k)
      unfolding tested
      gives_up_depth e =
          let deep : deepest - frames_end m ≡ 0 = omega arith in
          (sym (tested_step ∙ (ap (tested (divisible n top others)) deep ∙ either (divisible n top others))), ordered_open mem m GivenUp k sound.1)
        where
          either : (b : Bool) → tested b 0 ≡ Returning GivenUp (questions_of mem k)
          either true = refl
          either false = refl

      pub enters : (new : Memory) → Agree mem new m k → frames_end m < deepest → divisible n top others ≡ true →
          new.frame_at (frames_end m) ≡ Kept (base_of m) (done_count m) place (length (divisors n top others)) → new.fact_at (facts_end m) ≡ fact_below n top →
          (size : ℕ) → polys_forth new (lefts_end m) 0 size ≡ take 64 (polys_below n top others) → (p : Poly) → Untouched new (entered p size m) →
          Mirrors run n mem (Facing m k) new (Facing (entered p size m) k)
      unfolding tested
      enters new agree deep fine frame fact size ps p untouched =
          let depth : deepest - frames_end m ≡ suc (deepest - suc (frames_end m)) = omega arith in
          let lefts : all_lefts new m ≡ all_lefts mem m = ap (λ ls. turned_round ls []) (lefts_agree mem new m k agree) in
          let phase = entered_phase new m p size untouched (polys_below n top others) (fact_below n top) place (length (divisors n top others)) ps fact frame in
          let facts = facts_agree mem new m k agree in
          let frames = frames_agree mem new m k k sound.0 agree in
          let qs = questions_agree mem new m k sound.1 agree in
          let next : state_of new (Facing (entered p size m) k) ≡ tested true (suc (deepest - suc (frames_end m))) =
          ap (λ ph. Looking ph (questions_of new k)) phase
          ∙ (λ i. Looking (Settling (deepest - suc (frames_end m)) 63 (take 64 (polys_below n top others)) [] (fact_below n top ∷ facts i) (Waiting (lefts i) place (length (divisors n top others)) ∷ frames i)) (qs i)) in
          (next ∙ sym (tested_step ∙ ap₂ tested fine depth), entered-sound mem new m p k size sound agree none deep (polys_below n top others) ps place (length (divisors n top others)) frame)

-- the last question goes on with its next branch
returns_to : (run : Run) (n : ℕ) (mem new : Memory) (t : Tree) (m : Marks) (k : ℕ) (old next : Branch) (p : Poly) (s : Sign) →
    ((phase : Phase) (qs : List Question) → step run n (Returning t (Open (current_of m) old phase ∷ qs)) ≡ Looking (assumed n (current_of m) s phase) (Open (current_of m) next phase ∷ qs)) →
    Sound mem (Holding t (suc k)) → mem.question_at k ≡ Pending m old → Agree mem new m k → new.question_at k ≡ Pending m next →
    new.fact_at (facts_end m) ≡ record { poly = leading n (current_of m); sign = s } → LeftWritten new m s p →
    Mirrors run n mem (Holding t (suc k)) new (Facing (signed p s (with_one_fact m)) (suc k))
unfolding back
returns_to run n mem new t m k old next p s goes sound was agree now fact left =
    let held : Asking mem m k × Ordered mem m k = subst (λ c. Asking mem (marks_of c) k × Ordered mem (marks_of c) k) was sound in
    let some = held.0.ahead in
    let rest = rest_agrees mem new m k k some held.0.fits agree in
    let qs = questions_agree mem new m k held.1 agree in
    let phase = assumed_phase n new m p s some left fact ∙ ap (assumed n (current_of m) s) rest in
    let question = ap (question_of new) now ∙ ap (Open (current_of m) next) rest in
    let back_to : step run n (state_of mem (Holding t (suc k))) ≡ Looking (assumed n (current_of m) s (rest_of mem m)) (Open (current_of m) next (rest_of mem m) ∷ questions_of mem k) =
    ap (λ c. step run n (Returning t (question_of mem c ∷ questions_of mem k))) was ∙ goes (rest_of mem m) (questions_of mem k) in (
      ap₂ Looking phase (ap₂ ◌∷◌ question qs) ∙ sym back_to,
      assumed-sound new m p s k (Pending m next) refl now (record { looks = held.0.looks; ahead = some; fits = fits_agrees mem new m k k held.0.fits agree })
          (ordered_agrees mem new m k held.1 agree),
    )

pub returns_above : (run : Run) (n : ℕ) (mem new : Memory) (t : Tree) (m : Marks) (k : ℕ) → Sound mem (Holding t (suc k)) →
    mem.question_at k ≡ Pending m Above → Agree mem new m k → new.question_at k ≡ Pending m (At t) → new.fact_at (facts_end m) ≡ record { poly = leading n (current_of m); sign = Zero } →
    Mirrors run n mem (Holding t (suc k)) new (Facing (shortened (with_one_fact m)) (suc k))
returns_above run n mem new t m k sound was agree now fact = returns_to run n mem new t m k Above (At t) (current_of m) Zero (λ phase qs. refl) sound was agree now fact tt

pub returns_at : (run : Run) (n : ℕ) (mem new : Memory) (t above : Tree) (m : Marks) (k : ℕ) → Sound mem (Holding t (suc k)) →
    mem.question_at k ≡ Pending m (At above) → Agree mem new m k → new.question_at k ≡ Pending m (Below t above) →
    new.fact_at (facts_end m) ≡ record { poly = leading n (current_of m); sign = Neg } → (p : Poly) → LeftWritten new m Neg p →
    Mirrors run n mem (Holding t (suc k)) new (Facing (signed p Neg (with_one_fact m)) (suc k))
returns_at run n mem new t above m k sound was agree now fact p left = returns_to run n mem new t m k (At above) (Below t above) p Neg (λ phase qs. refl) sound was agree now fact left

pub returns_below : (run : Run) (n : ℕ) (mem : Memory) (t at above : Tree) (m : Marks) (k : ℕ) → Sound mem (Holding t (suc k)) →
    mem.question_at k ≡ Pending m (Below at above) →
    Mirrors run n mem (Holding t (suc k)) mem (Holding (run.join (leading n (current_of m)) t at above) k)
unfolding back
returns_below run n mem t at above m k sound was =
    (sym (ap (λ c. step run n (Returning t (question_of mem c ∷ questions_of mem k))) was), ordered_open mem (marks_of (mem.question_at k)) GivenUp k sound.1)

pub begins : (mem : Memory) (ps : List Poly) (p : Poly) (size : ℕ) → polys_forth mem 0 0 size ≡ take 64 ps → Untouched mem (Marked 63 0 0 size p 0 0) →
    let s = Facing (Marked 63 0 0 size p 0 0) 0 in (state_of mem s ≡ start 40 ps) × Sound mem s
unfolding back Ordered
begins mem ps p size e untouched =
    let small = forth_bound (λ j. mem.poly_at (0 + j)) 0 size ps e in
    let f : Fits mem (Marked 63 0 0 size p 0 0) 0 = record {
      looks_bound = omega arith;
      size_bound = omega arith;
      base_bound = omega arith;
      depth_bound = omega arith;
      facts_count = omega arith;
      frames_below = λ i less. absurd (omega arith);
    } in
    (ap (λ qs. Looking (Settling 39 63 qs [] [] []) []) (ahead-forth mem 0 0 size p untouched ∙ e), (f, tt))
