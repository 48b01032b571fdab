-- Formulas with arrows between them.
use Rattle.std.proofs.Common.{◌≡◌, ℕ, List, [], ◌∷◌, ◌++◌, ℤ, pos, IsErrAnd, Some, None, Ok, Err, Option, Result, sym, refl, ap, ◌∙◌, append_assoc, arith}
use Rattle.std.specs.Option.{ok_or}
use Rattle.field.specs.Sentence.{Formula}
use Rattle.grammar.specs.declared.fault.Fault.{Fault}
use Rattle.grammar.specs.declared.fault.Fault.TheVariants.{Unfit}
use Rattle.grammar.specs.Formulas.{Chain, claimed, implied}
use Rattle.grammar.specs.Meaning.{implies, formula_words}
use Rattle.grammar.specs.Reader.{Reader, Give, Outcome, Refused, refusal_at, ◌>>=◌, run}
use Rattle.grammar.specs.Terms.{Claim, Piece, OfTerm, OfClaim}
use Rattle.grammar.proofs.Runs.{onward, run_bind}
use Rattle.text.specs.declared.claim.Claim.{Claim as ReadClaim}
use Rattle.text.specs.declared.sheet.Sheet.{Sheet}
use Rattle.text.specs.Claims.{ClaimShown, PieceShown, ChainReads, chain_words}

pub chain_refused : (s : Chain) (shows : Claim → ReadClaim → Type 0) (o : Outcome Chain) (r : Result ReadClaim Fault) (at : ℕ) (e : Fault) → o ≡ Refused (refusal_at e at) → IsErrAnd r (λ y. y ≡ e) → ChainReads s shows o r at
chain_refused s shows o (Ok v) at e p q = absurd q
chain_refused s shows o (Err f) at e p q = p ∙ ap (λ g. Refused (refusal_at g at)) (sym q)

pub bind_same : {A B : Type 0} (r r' : Reader A) (go : A → Reader B) (text : List ℕ) (i j : ℕ) → run r text i ≡ run r' text j → run (r >>= go) text i ≡ run (r' >>= go) text j
bind_same r r' go text i j e = run_bind r go text i ∙ ap (onward text go) e ∙ sym (run_bind r' go text j)

pub implied_words : (before : List Formula) (q : Formula) → formula_words (implied before q) ≡ chain_words before ++ formula_words q
unfolding implied chain_words formula_words
implied_words [] q = refl
implied_words (p ∷ before) q = implied_words before (implies p q) ∙ sym (append_assoc (chain_words before) (pos 5 ∷ pos 3 ∷ formula_words p) (formula_words q))

-- what an arrow leads to must be a formula
pub chain_claimed : (s : Chain) (o : Outcome Chain) (text : List ℕ) (after : Sheet) (xs : List ℤ) (a : Piece) (p : Option ReadClaim) (r : Result ReadClaim Fault) (at : ℕ) →
    o ≡ run (claimed a >>= (λ q. Give (record { before = s.last.formula ∷ s.before; last = q }))) text at → PieceShown after xs a p → r ≡ ok_or p Unfit →
    ChainReads s (ClaimShown after xs) o r at
unfolding claimed run ◌>>=◌
chain_claimed s o text after xs (OfTerm t) None (Ok c) at e h v = let z : ◌≡◌ {A = ℕ} 0 1 = cc in absurd (omega arith)
chain_claimed s o text after xs (OfTerm t) None (Err f) at e h v = let same : Unfit ≡ f = cc in e ∙ ap (λ g. Refused (refusal_at g at)) same
chain_claimed s o text after xs (OfTerm t) (Some d) r at e h v = absurd h
chain_claimed s o text after xs (OfClaim p) None r at e h v = absurd h
chain_claimed s o text after xs (OfClaim p) (Some d) (Ok c) at e h v = let same : d.arrow ≡ c.arrow = cc in (p, e, (h.0 ∙ same, h.1))
chain_claimed s o text after xs (OfClaim p) (Some d) (Err f) at e h v = let z : ◌≡◌ {A = ℕ} 0 1 = cc in absurd (omega arith)
