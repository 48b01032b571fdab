-- What a level's answer says, with the place where it stands and the words that it has written. Assumes nothing.
use Rattle.std.specs.Prelude.{◌≡◌, ℕ, Bool, false, List, ◌++◌, ℤ, Ok, Err, Result}
use Rattle.field.specs.Sentence.{Term}
use Rattle.grammar.specs.declared.fault.Fault.{Fault}
use Rattle.grammar.specs.Meaning.{term_words}
use Rattle.grammar.specs.Reader.{Reader, Outcome, Refused, Read, refusal_at, run}
use Rattle.grammar.specs.Terms.{Summed}
use Rattle.text.specs.declared.draft.Draft.{Draft}
use Rattle.text.specs.declared.sheet.Sheet.{Sheet}
use Rattle.text.specs.declared.source.Source.{Source}
use Rattle.text.specs.Sheet.{Holds, Behind}

abbrev pub ReadAs : {A V : Type 0} → (A → V → Type 0) → Outcome A → Result V Fault → ℕ → Type 0
ReadAs {A} shows o (Ok v) at = (a : A) × (o ≡ Read a at) × shows a v
ReadAs shows o (Err f) at = o ≡ Refused (refusal_at f at)

-- a term's words behind others
abbrev pub TermShown : Sheet → List ℤ → Term → Unit {0} → Type 0
TermShown after xs t _ = Holds after (xs ++ term_words t)

-- the same of a sum, and whether an arrow has been read behind it
abbrev pub SumShown : Sheet → List ℤ → Summed → Bool → Type 0
SumShown after xs s arrow = (s.arrow ≡ arrow) × Holds after (xs ++ term_words s.term)

-- a sum behind which no arrow has been read
abbrev pub SummandShown : Sheet → List ℤ → Summed → Unit {0} → Type 0
SummandShown after xs s _ = SumShown after xs s false

-- what is read comes behind the words that the sheet holds
abbrev pub Writes : {A V : Type 0} → (Sheet → List ℤ → A → V → Type 0) → Source → Reader A → Result V Fault → Draft → Draft → Type 0
Writes shows source reader r before after =
    (xs : List ℤ) → Holds before.sheet xs → ReadAs (shows after.sheet xs) (run reader source.text.now before.at) r after.at

-- what is read comes in place of the words of a term that begins at `from`
abbrev pub Extends : {A V : Type 0} → (Sheet → List ℤ → A → V → Type 0) → Source → (Term → Reader A) → Result V Fault → ℕ → Draft → Draft → Type 0
Extends shows source go r from before after =
    (xs : List ℤ) (t : Term) → Behind xs from → Holds before.sheet (xs ++ term_words t) →
    ReadAs (shows after.sheet xs) (run (go t) source.text.now before.at) r after.at

abbrev pub WritesTerm : Source → Reader Term → Result (Unit {0}) Fault → Draft → Draft → Type 0
WritesTerm = Writes TermShown

abbrev pub ExtendsTerm : Source → (Term → Reader Term) → Result (Unit {0}) Fault → ℕ → Draft → Draft → Type 0
ExtendsTerm = Extends TermShown

abbrev pub WritesSum : Source → Reader Summed → Result Bool Fault → Draft → Draft → Type 0
WritesSum = Writes SumShown

abbrev pub ExtendsSum : Source → (Term → Reader Summed) → Result Bool Fault → ℕ → Draft → Draft → Type 0
ExtendsSum = Extends SumShown

abbrev pub ExtendsSummand : Source → (Term → Reader Summed) → Result (Unit {0}) Fault → ℕ → Draft → Draft → Type 0
ExtendsSummand = Extends SummandShown
