-- What a formula's outline says is what its tree says.
use Rattle.std.proofs.Common.{◌≡◌, ℕ, zero, suc, ◌+◌, ◌*◌, Bool, true, false, cond, eqb, leb, List, [], ◌∷◌, length, ℤ, pos, negsuc, Some, None, Option, Ok, Err, sym, refl, ap, ◌∙◌, subst, ap₂, arith}
use Rattle.field.specs.Sentence.{Formula, BelowZero, EqualsZero, Not, And, Or, Sentence}
use Rattle.words.specs.Reading.{Reading, Refused, Read, mapped, then, meant}
use Rattle.words.specs.Words.{is_there, whole, count_of, quantifier_of, quantifiers_at, formula_at, is_sentence}
use Rattle.words.specs.declared.answer.Answer.{Answer}
use Rattle.ground.specs.declared.outline.Outline.{Outline}
use Rattle.ground.specs.declared.verdict.Refusal.TheVariants.{NotDecided}
use Rattle.ground.specs.Ground.{number_of, Tree, Yes, No, asks, tree_of, questions, by_sign, followed, answered, verdict_if, verdict_of}
use Rattle.ground.specs.Outline.{capped, onward, compared, negated, conjoined, outline_of, concluded, concluded_by}
use Rattle.ground.proofs.Counts.{capped-join, capped-below}

-- how many questions a tree of this outline has, its two ends having so many
abbrev counted : Outline → ℕ → ℕ → ℕ
counted o y n = o.questions + (o.yes * y + o.no * n)

swapped : (o : Outline) (y n : ℕ) → counted (negated o) y n ≡ counted o n y
swapped o y n = omega arith

below_counts : (z : Option ℤ) (y n : Tree) → capped (questions (asks z y n n)) ≡ capped (counted (compared z Answer.Yes Answer.No Answer.No 1 2) (questions y) (questions n))
unfolding questions
below_counts None y n = omega arith
below_counts (Some z) y n = omega arith

equals_counts : (z : Option ℤ) (y n : Tree) → capped (questions (asks z n y n)) ≡ capped (counted (compared z Answer.No Answer.Yes Answer.No 1 2) (questions y) (questions n))
unfolding questions
equals_counts None y n = omega arith
equals_counts (Some z) y n = omega arith

-- y, n and x are the questions of the ends and of the second formula's tree
joined_counts : (o r : Outline) (x y n : ℕ) → capped x ≡ capped (counted r y n) → capped (counted o x n) ≡ capped (counted (conjoined o r) y n)
joined_counts o r x y n e = capped-join o.questions o.yes o.no r.questions r.yes r.no x y n e

outline_counts : (p : Formula) (y n : Tree) → capped (questions (tree_of p y n)) ≡ capped (counted (outline_of p) (questions y) (questions n))
unfolding tree_of outline_of
outline_counts (BelowZero t) y n = below_counts (number_of t) y n
outline_counts (EqualsZero t) y n = equals_counts (number_of t) y n
outline_counts (Not p) y n = outline_counts p n y ∙ sym (ap capped (swapped (outline_of p) (questions y) (questions n)))
outline_counts (And p q) y n =
    outline_counts p (tree_of q y n) n ∙ joined_counts (outline_of p) (outline_of q) (questions (tree_of q y n)) (questions y) (questions n) (outline_counts q y n)
outline_counts (Or p q) y n =
    outline_counts p y (tree_of q y n) ∙
    sym (ap capped (swapped (outline_of p) (questions (tree_of q y n)) (questions y))) ∙
    joined_counts (negated (outline_of p)) (negated (outline_of q)) (questions (tree_of q y n)) (questions n) (questions y)
    (outline_counts q y n ∙ sym (ap capped (swapped (outline_of q) (questions n) (questions y)))) ∙
    sym (ap capped (swapped (conjoined (negated (outline_of p)) (negated (outline_of q))) (questions y) (questions n)))

-- the answer of the tree that stands at the end that is led to
abbrev at : Answer → Answer → Answer → Answer
at Answer.Yes y n = y
at Answer.No y n = n
at Answer.GivenUp y n = Answer.GivenUp

at_sign : (z : ℤ) (a b c : Answer) (y n : Answer) → by_sign z (at a y n) (at b y n) (at c y n) ≡ at (by_sign z a b c) y n
at_sign (pos k) a b c y n = under (eqb k 0)
  where
    under : (t : Bool) → cond t (at b y n) (at c y n) ≡ at (cond t b c) y n
    under true = refl
    under false = refl
at_sign (negsuc k) a b c y n = refl

at_negated : (e : Answer) (y n : Answer) → at (onward e Answer.No Answer.Yes Answer.GivenUp) y n ≡ at e n y
at_negated Answer.Yes y n = refl
at_negated Answer.No y n = refl
at_negated Answer.GivenUp y n = refl

at_conjoined : (d e : Answer) (y n : Answer) → at d (at e y n) n ≡ at (onward d e Answer.No Answer.GivenUp) y n
at_conjoined Answer.Yes e y n = refl
at_conjoined Answer.No e y n = refl
at_conjoined Answer.GivenUp e y n = refl

compared_leads : (z : Option ℤ) (a b c : Tree) (d e f : Answer) (k l : ℕ) (y n : Answer) → followed a ≡ at d y n → followed b ≡ at e y n → followed c ≡ at f y n →
    followed (asks z a b c) ≡ at (compared z d e f k l).end y n
unfolding followed
compared_leads None a b c d e f k l y n p q r = refl
compared_leads (Some z) a b c d e f k l y n p q r = rw (p, q, r) (at_sign z d e f y n)

outline_leads : (p : Formula) (y n : Tree) → followed (tree_of p y n) ≡ at (outline_of p).end (followed y) (followed n)
unfolding tree_of outline_of
outline_leads (BelowZero t) y n = compared_leads (number_of t) y n n Answer.Yes Answer.No Answer.No 1 2 (followed y) (followed n) refl refl refl
outline_leads (EqualsZero t) y n = compared_leads (number_of t) n y n Answer.No Answer.Yes Answer.No 1 2 (followed y) (followed n) refl refl refl
outline_leads (Not p) y n = outline_leads p n y ∙ sym (at_negated (outline_of p).end (followed y) (followed n))
outline_leads (And p q) y n =
    outline_leads p (tree_of q y n) n ∙
    ap (λ v. at (outline_of p).end v (followed n)) (outline_leads q y n) ∙
    at_conjoined (outline_of p).end (outline_of q).end (followed y) (followed n)
outline_leads (Or p q) y n =
    let d = (outline_of p).end in
    let e = (outline_of q).end in
    outline_leads p y (tree_of q y n) ∙
    ap (λ v. at d (followed y) v) (outline_leads q y n ∙ sym (at_negated e (followed n) (followed y))) ∙
    sym (at_negated d (at (onward e Answer.No Answer.Yes Answer.GivenUp) (followed n) (followed y)) (followed y)) ∙
    at_conjoined (onward d Answer.No Answer.Yes Answer.GivenUp) (onward e Answer.No Answer.Yes Answer.GivenUp) (followed n) (followed y) ∙
    sym (at_negated (onward (onward d Answer.No Answer.Yes Answer.GivenUp) (onward e Answer.No Answer.Yes Answer.GivenUp) Answer.No Answer.GivenUp) (followed y) (followed n))

at_ends : (e : Answer) → e ≡ at e (followed Yes) (followed No)
unfolding followed
at_ends Answer.Yes = refl
at_ends Answer.No = refl
at_ends Answer.GivenUp = refl

no_ends : (o : Outline) → counted o (questions Yes) (questions No) ≡ o.questions
unfolding questions
no_ends o = omega arith

pub outline_answers : (p : Formula) → concluded (outline_of p) ≡ answered (tree_of p Yes No)
outline_answers p =
    ap₂ (λ t v. cond t v Answer.GivenUp)
    (capped-below (outline_of p).questions (questions (tree_of p Yes No)) (sym (outline_counts p Yes No ∙ ap capped (no_ends (outline_of p)))))
    (at_ends (outline_of p).end ∙ sym (outline_leads p Yes No))

-- a sentence, once it is known how many quantifiers it has
abbrev bodied : List Bool → Formula → Sentence
bodied qs p = record { quantifiers = qs; body = p }

abbrev quantified : ℕ → Reading (List Bool) → Reading Sentence
quantified n m = then m (λ qs body. mapped (bodied qs) (formula_at 1024 n body))

abbrev sentence_from : Reading ℕ → Reading Sentence
sentence_from m = then m (λ n rest. quantified n (quantifiers_at n rest))

-- short: the words are few enough
abbrev kept : Bool → Reading Sentence → Option Sentence
kept short m = cond short (whole m) None

none_there : (o : Option Sentence) → is_there o ≡ true → o ≡ None → ⊥
none_there o h e = let z : ◌≡◌ {A = ℕ} 0 1 = cc in omega arith

no_body : (short : Bool) → kept short Refused ≡ None
no_body true = refl
no_body false = refl

with_no_quantifier : (short : Bool) (m : Reading Formula) → is_there (kept short (mapped (bodied []) m)) ≡ true → concluded_by m ≡ verdict_if (kept short (mapped (bodied []) m))
with_no_quantifier false m h = let z : ◌≡◌ {A = ℕ} 0 1 = cc in absurd (omega arith)
with_no_quantifier true Refused h = let z : ◌≡◌ {A = ℕ} 0 1 = cc in absurd (omega arith)
with_no_quantifier true (Read p []) h = ap Ok (outline_answers p)
with_no_quantifier true (Read p (z ∷ zs)) h = let o : ◌≡◌ {A = ℕ} 0 1 = cc in absurd (omega arith)

with_quantifiers : (short : Bool) (q : Bool) (qs : List Bool) (m : Reading Formula) → is_there (kept short (mapped (bodied (q ∷ qs)) m)) ≡ true →
    Err NotDecided ≡ verdict_if (kept short (mapped (bodied (q ∷ qs)) m))
with_quantifiers false q qs m h = let z : ◌≡◌ {A = ℕ} 0 1 = cc in absurd (omega arith)
with_quantifiers true q qs Refused h = let z : ◌≡◌ {A = ℕ} 0 1 = cc in absurd (omega arith)
with_quantifiers true q qs (Read p []) h = refl
with_quantifiers true q qs (Read p (z ∷ zs)) h = let o : ◌≡◌ {A = ℕ} 0 1 = cc in absurd (omega arith)

some-quantifiers : (short : Bool) (n : ℕ) (rest : List ℤ) → (n ≡ 0 → ⊥) → is_there (kept short (quantified n (quantifiers_at n rest))) ≡ true →
    Err NotDecided ≡ verdict_if (kept short (quantified n (quantifiers_at n rest)))
unfolding quantifiers_at
some-quantifiers short zero rest h s = absurd (h refl)
some-quantifiers short (suc n) rest h s = first (meant quantifier_of rest) s
  where
    later : (q : Bool) (m : Reading (List Bool)) → is_there (kept short (quantified (suc n) (mapped (λ qs. q ∷ qs) m))) ≡ true →
        Err NotDecided ≡ verdict_if (kept short (quantified (suc n) (mapped (λ qs. q ∷ qs) m)))
    later q Refused t = absurd (none_there (kept short Refused) t (no_body short))
    later q (Read qs body) t = with_quantifiers short q qs (formula_at 1024 (suc n) body) t

    first : (m : Reading Bool) → is_there (kept short (quantified (suc n) (then m (λ q more. mapped (λ qs. q ∷ qs) (quantifiers_at n more))))) ≡ true →
        Err NotDecided ≡ verdict_if (kept short (quantified (suc n) (then m (λ q more. mapped (λ qs. q ∷ qs) (quantifiers_at n more)))))
    first Refused t = absurd (none_there (kept short Refused) t (no_body short))
    first (Read q more) t = later q (quantifiers_at n more) t

-- the verdict on words that are a sentence
module _ (zs rest : List ℤ) (sentence : is_sentence zs ≡ true) where
  pub ground_verdict : Read 0 rest ≡ meant count_of zs → concluded_by (formula_at 1024 0 rest) ≡ verdict_of zs
  unfolding quantifiers_at
  ground_verdict e =
      let short = leb (length zs) 1024 in
      subst (λ m. is_there (kept short (sentence_from m)) ≡ true → concluded_by (formula_at 1024 0 rest) ≡ verdict_if (kept short (sentence_from m))) e
      (with_no_quantifier short (formula_at 1024 0 rest)) sentence

  pub quantified_verdict : (n : ℕ) → (n ≡ 0 → ⊥) → Read n rest ≡ meant count_of zs → Err NotDecided ≡ verdict_of zs
  quantified_verdict n h e =
      let short = leb (length zs) 1024 in
      subst (λ m. is_there (kept short (sentence_from m)) ≡ true → Err NotDecided ≡ verdict_if (kept short (sentence_from m))) e (some-quantifiers short n rest h) sentence
