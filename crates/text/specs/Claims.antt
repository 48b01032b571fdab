-- What the answer of a level of formulas says. Assumes nothing.
use Rattle.std.specs.Prelude.{◌≡◌, ℕ, false, List, [], ◌∷◌, ◌++◌, ℤ, pos, Some, None, Ok, Err, Option, Result}
use Rattle.field.specs.Sentence.{Term, Formula}
use Rattle.grammar.specs.declared.fault.Fault.{Fault}
use Rattle.grammar.specs.Formulas.{Chain}
use Rattle.grammar.specs.Meaning.{term_words, formula_words}
use Rattle.grammar.specs.Reader.{Reader, Outcome, Refused, Read, refusal_at, run}
use Rattle.grammar.specs.Terms.{Claim, Piece, OfTerm, OfClaim}
use Rattle.text.specs.declared.claim.Claim.{Claim as ReadClaim}
use Rattle.text.specs.declared.draft.Draft.{Draft}
use Rattle.text.specs.declared.sheet.Sheet.{Sheet}
use Rattle.text.specs.declared.source.Source.{Source}
use Rattle.text.specs.Reads.{ReadAs, Writes, Extends}
use Rattle.text.specs.Sheet.{Holds, Behind}

-- a formula's words behind others, and whether an arrow has been read
abbrev pub ClaimShown : Sheet → List ℤ → Claim → ReadClaim → Type 0
ClaimShown after xs p c = (p.arrow ≡ c.arrow) × Holds after (xs ++ formula_words p.formula)

abbrev pub PieceShown : Sheet → List ℤ → Piece → Option ReadClaim → Type 0
PieceShown after xs (OfTerm t) None = Holds after (xs ++ term_words t)
PieceShown after xs (OfTerm t) (Some c) = ⊥
PieceShown after xs (OfClaim p) None = ⊥
PieceShown after xs (OfClaim p) (Some c) = ClaimShown after xs p c

abbrev pub WritesPiece : Source → Reader Piece → Result (Option ReadClaim) Fault → Draft → Draft → Type 0
WritesPiece = Writes PieceShown

abbrev pub ExtendsPiece : Source → (Term → Reader Piece) → Result (Option ReadClaim) Fault → ℕ → Draft → Draft → Type 0
ExtendsPiece = Extends PieceShown

-- behind a formula that begins at `from`
abbrev pub ExtendsClaim : Source → (Claim → Reader Claim) → ReadClaim → Result ReadClaim Fault → ℕ → Draft → Draft → Type 0
ExtendsClaim source go c r from before after =
    (xs : List ℤ) (p : Claim) → Behind xs from → ClaimShown before.sheet xs p c → ReadAs (ClaimShown after.sheet xs) (run (go p) source.text.now before.at) r after.at

abbrev pub NextClaim : Source → (Claim → Reader Claim) → Result ReadClaim Fault → ℕ → Draft → Draft → Type 0
NextClaim source go r from before after =
    (xs : List ℤ) (p : Claim) → Behind xs from → Holds before.sheet (xs ++ formula_words p.formula) → ReadAs (ClaimShown after.sheet xs) (run (go p) source.text.now before.at) r after.at

-- a formula behind an arrow, whose words come behind all others
abbrev pub ChainReads : Chain → (Claim → ReadClaim → Type 0) → Outcome Chain → Result ReadClaim Fault → ℕ → Type 0
ChainReads s shows o (Ok c) at = (q : Claim) × (o ≡ Read (record { before = s.last.formula ∷ s.before; last = q }) at) × shows q c
ChainReads s shows o (Err f) at = o ≡ Refused (refusal_at f at)

abbrev pub ArrowNext : Source → (Chain → Reader Chain) → ReadClaim → Result ReadClaim Fault → Draft → Draft → Type 0
ArrowNext source go c r before after =
    (xs : List ℤ) (s : Chain) → s.last.arrow ≡ c.arrow → Holds before.sheet xs →
    ChainReads s (ClaimShown after.sheet xs) (run (go s) source.text.now before.at) r after.at

abbrev pub ExtendsChain : Source → (Claim → Reader Claim) → ReadClaim → Result (Unit {0}) Fault → ℕ → Draft → Draft → Type 0
ExtendsChain source go c r from before after =
    (xs : List ℤ) (p : Claim) → Behind xs from → ClaimShown before.sheet xs p c →
    ReadAs (λ q _. ClaimShown after.sheet xs q (record { arrow = false })) (run (go p) source.text.now before.at) r after.at

-- the words of formulas with arrows behind them, the nearest first
unfoldable pub chain_words : List Formula → List ℤ
chain_words [] = []
chain_words (p ∷ before) = chain_words before ++ (pos 5 ∷ pos 3 ∷ formula_words p)
