-- Steps of a reader on a text: what was looked at, what was chosen, what was read.
use Rattle.std.proofs.Common.{◌≡◌, ℕ, suc, ◌-◌, Bool, true, false, cond, List, ◌++◌, ℤ, IsErrAnd, Some, None, Ok, Err, Option, Result, sym, refl, ap, ◌∙◌, append_assoc, arith}
use Rattle.std.specs.Option.{ok_or}
use Rattle.field.specs.Sentence.{Term}
use Rattle.grammar.specs.declared.fault.Fault.{Fault}
use Rattle.grammar.specs.declared.fault.Fault.TheVariants.{Unfit}
use Rattle.grammar.specs.Formulas.{claimed}
use Rattle.grammar.specs.Meaning.{term_words}
use Rattle.grammar.specs.Reader.{Reader, Give, Outcome, Refused, Read, refusal_at, ◌>>=◌, run}
use Rattle.grammar.specs.Terms.{Claim, Piece, OfTerm, OfClaim}
use Rattle.grammar.proofs.Runs.{goes_on, stops}
use Rattle.text.specs.declared.claim.Claim.{Claim as ReadClaim}
use Rattle.text.specs.declared.sheet.Sheet.{Sheet}
use Rattle.text.specs.Claims.{ClaimShown, PieceShown}
use Rattle.text.specs.Outcome.{outcome_of}
use Rattle.text.specs.Reads.{ReadAs}
use Rattle.text.specs.Sheet.{Holds}
use Rattle.text.proofs.Sheets.{same_words}

-- the same outcome says the same
pub read_by : {A V : Type 0} (shows : A → V → Type 0) (o o' : Outcome A) (r : Result V Fault) (at : ℕ) → o ≡ o' → ReadAs shows o' r at → ReadAs shows o r at
read_by shows o o' (Ok v) at e h = (h.0, e ∙ h.1, h.2)
read_by shows o o' (Err f) at e h = e ∙ h

pub refused_by : {A V : Type 0} (shows : A → V → Type 0) (o : Outcome A) (r : Result V Fault) (at : ℕ) (e : Fault) → o ≡ Refused (refusal_at e at) → IsErrAnd r (λ y. y ≡ e) → ReadAs shows o r at
refused_by shows o (Ok v) at e p q = absurd q
refused_by shows o (Err f) at e p q = p ∙ ap (λ g. Refused (refusal_at g at)) (sym q)

pub chose : {A : Type 0} (b : Bool) (x y : Reader A) (text : List ℕ) (i : ℕ) → b ≡ true → run (cond b x y) text i ≡ run x text i
chose b x y text i e = ap (λ b. run (cond b x y) text i) e

pub passed_over : {A : Type 0} (b : Bool) (x y : Reader A) (text : List ℕ) (i : ℕ) → b ≡ false → run (cond b x y) text i ≡ run y text i
passed_over b x y text i e = ap (λ b. run (cond b x y) text i) e

-- a sign at the end, once the value is known
pub closes : {A : Type 0} (shows : A → Unit {0} → Type 0) (r : Reader (Unit {0})) (a : A) (text : List ℕ) (i : ℕ) (x : Result (Unit {0}) Fault) (at : ℕ) →
    run r text i ≡ outcome_of x at → ((v : Unit {0}) → shows a v) → ReadAs shows (run (r >>= (λ _. Give a)) text i) x at
unfolding run
closes shows r a text i (Ok v) at e s = (a, goes_on r (λ _. Give a) text i v at e, s v)
closes shows r a text i (Err f) at e s = stops r (λ _. Give a) text i (refusal_at f at) e

-- where a level deeper may be opened
pub one_deeper : {depth : ℕ} → (depth ≡ 0 → ⊥) → depth ≡ suc (depth - 1)
one_deeper n = omega (arith, n)

pub regrouped : (s : Sheet) (xs ys zs : List ℤ) → Holds s ((xs ++ ys) ++ zs) → Holds s (xs ++ (ys ++ zs))
regrouped s xs ys zs held = same_words s ((xs ++ ys) ++ zs) (xs ++ (ys ++ zs)) (append_assoc xs ys zs) held

pub ungrouped : (s : Sheet) (xs ys zs : List ℤ) → Holds s (xs ++ (ys ++ zs)) → Holds s ((xs ++ ys) ++ zs)
ungrouped s xs ys zs held = same_words s (xs ++ (ys ++ zs)) ((xs ++ ys) ++ zs) (sym (append_assoc xs ys zs)) held

-- where a formula must stand, and where a term may stand too
pub claims : (after : Sheet) (xs : List ℤ) (a : Piece) (o : Option ReadClaim) (c : ReadClaim) (text : List ℕ) (i : ℕ) → PieceShown after xs a o → o ≡ Some c →
    (p : Claim) × (a ≡ OfClaim p) × (run (claimed a) text i ≡ Read p i) × ClaimShown after xs p c
unfolding claimed run
claims after xs (OfTerm t) None c text i h e = let z : ◌≡◌ {A = ℕ} 0 1 = cc in absurd (omega arith)
claims after xs (OfTerm t) (Some d) c text i h e = absurd h
claims after xs (OfClaim p) None c text i h e = absurd h
claims after xs (OfClaim p) (Some d) c text i h e = let same : d.arrow ≡ c.arrow = cc in (p, refl, refl, (h.0 ∙ same, h.1))

pub term_stands : (after : Sheet) (xs : List ℤ) (a : Piece) (o : Option ReadClaim) → PieceShown after xs a o → o ≡ None → (t : Term) × (a ≡ OfTerm t) × Holds after (xs ++ term_words t)
term_stands after xs (OfTerm t) None h e = (t, refl, h)
term_stands after xs (OfTerm t) (Some c) h e = absurd h
term_stands after xs (OfClaim p) None h e = absurd h
term_stands after xs (OfClaim p) (Some c) h e = let z : ◌≡◌ {A = ℕ} 0 1 = cc in absurd (omega arith)

pub no_claim : (after : Sheet) (xs : List ℤ) (a : Piece) (o : Option ReadClaim) (f : Fault) (text : List ℕ) (i : ℕ) → PieceShown after xs a o → Err f ≡ ok_or o Unfit →
    run (claimed a) text i ≡ Refused (refusal_at f i)
unfolding claimed run
no_claim after xs (OfTerm t) None f text i h e = let same : Unfit ≡ f = cc in ap (λ g. Refused (refusal_at g i)) same
no_claim after xs (OfTerm t) (Some c) f text i h e = absurd h
no_claim after xs (OfClaim p) None f text i h e = absurd h
no_claim after xs (OfClaim p) (Some c) f text i h e = let z : ◌≡◌ {A = ℕ} 0 1 = cc in absurd (omega arith)
