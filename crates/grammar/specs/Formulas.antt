-- Readers of formulas, a level of binding each, over the readers that stand one level deeper. Assumes nothing.
use Rattle.std.specs.Prelude.{ℕ, Bool, true, false, cond, not, ◌&&◌, ◌||◌, List, [], ◌∷◌, codes, ◌==◌}
use Rattle.field.specs.Sentence.{Term, Formula, Not, And, Or}
use Rattle.grammar.specs.declared.relation.Relation.{Relation}
use Rattle.grammar.specs.declared.relation.Relation.TheVariants.{Below, AtMost, Equal, Unequal, Above, AtLeast}
use Rattle.grammar.specs.declared.fault.Fault.TheVariants.{Unfit}
use Rattle.grammar.specs.declared.word.Word.{Word}
use Rattle.grammar.specs.Characters.{is_letter, is_word}
use Rattle.grammar.specs.Meaning.{compared, implies, equivalent}
use Rattle.grammar.specs.Reader.{Reader, Give, Look, Pass, Refuse, ◌>>=◌, ◌>>◌, while}
use Rattle.grammar.specs.Terms.{Claim, Piece, OfTerm, OfClaim, Nest, named, primary_of, raised, times, plus, negated, sum}
use Rattle.grammar.specs.Tokens.{longest, blanks, sign, keyword, letters}

-- where a formula must stand: a term doesn't fit, at the character behind it
unfoldable pub claimed : Piece → Reader Claim
claimed (OfTerm t) = Refuse Unfit
claimed (OfClaim p) = Give p

-- what goes on only behind a formula
unfoldable pub on_claim : (Claim → Reader Claim) → Piece → Reader Piece
on_claim go (OfTerm t) = Give (OfTerm t)
on_claim go (OfClaim p) = go p >>= (λ q. Give (OfClaim q))

-- `<` or `<=`, `>` or `>=`, once the first sign has been passed
unfoldable pub or_equal : Relation → Relation → Reader Relation
or_equal strict weak = Look (λ c. cond (c == 61) (sign (codes "=") >> Give weak) (blanks >> Give strict))

-- a sign of comparison, by its first character
unfoldable pub relation_of : ℕ → Reader Relation
relation_of c =
    cond (c == 60) (Pass (or_equal Below AtMost))
    (cond (c == 62) (Pass (or_equal Above AtLeast))
    (cond (c == 61) (sign (codes "=") >> Give Equal) (sign (codes "!=") >> Give Unequal)))

abbrev pub begins_relation : ℕ → Bool
begins_relation c = c == 60 || (c == 62 || (c == 61 || c == 33))

-- a term, or its comparison with another
unfoldable pub comparison_of : List Word → Nest → Term → ℕ → Reader Piece
comparison_of names deeper s c =
    cond (begins_relation c)
    (relation_of c >>= (λ r. sum names deeper true >>= (λ t. Give (OfClaim (record { formula = compared r s t.term; arrow = t.arrow })))))
    (Give (OfTerm s))

-- a term goes on as a sum, which may be compared
unfoldable pub from_product : List Word → Nest → Term → Reader Piece
from_product names deeper t = plus names deeper false t >>= (λ s. Look (comparison_of names deeper s.term))

unfoldable pub from_primary : List Word → Nest → Term → Reader Piece
from_primary names deeper t = raised t >>= (λ f. times names deeper f >>= from_product names deeper)

unfoldable pub from_piece : List Word → Nest → Piece → Reader Piece
from_piece names deeper (OfTerm t) = from_primary names deeper t
from_piece names deeper (OfClaim p) = Give (OfClaim p)

-- what `not` denies
unfoldable pub denied : Nest → Reader Piece
denied deeper = blanks >> (deeper.atom >>= (λ p. claimed p >>= (λ q. Give (OfClaim (record { formula = Not q.formula; arrow = q.arrow })))))

-- `not` with what it denies, or a name, by the word
unfoldable pub from_word : List Word → Nest → Word → Reader Piece
from_word names deeper w =
    cond (is_word (codes "not") w)
    (denied deeper)
    (named names w >>= from_primary names deeper)

-- a formula in parentheses, or a term that begins with one
unfoldable pub enclosed : List Word → Nest → Reader Piece
enclosed names deeper = sign (codes "(") >> (deeper.formula >>= (λ p. sign (codes ")") >> from_piece names deeper p))

-- what `and` joins, by its first character: a comparison, a formula in parentheses, or a formula denied; or a term
unfoldable pub atom_of : List Word → Nest → ℕ → Reader Piece
atom_of names deeper c =
    cond (is_letter c) (letters >>= from_word names deeper)
    (cond (c == 40) (enclosed names deeper)
    (cond (c == 45) (negated deeper >>= from_product names deeper)
    (primary_of names deeper c >>= from_primary names deeper)))

unfoldable pub atom : List Word → Nest → Reader Piece
atom names deeper = Look (atom_of names deeper)

abbrev pub joined : (Formula → Formula → Formula) → Claim → Claim → Claim
joined join p q = record { formula = join p.formula q.formula; arrow = q.arrow }

-- a formula more, behind a word or a sign
unfoldable pub row_next : Reader (Unit {0}) → (Formula → Formula → Formula) → Reader Piece → Claim → Reader Claim
row_next between join operand p = between >> (operand >>= (λ q. claimed q >>= (λ r. Give (joined join p r))))

abbrev pub goes_on : ℕ → Claim → ℕ → Bool
goes_on first p c = not p.arrow && c == first

-- formulas joined to the left by a word or a sign that begins with this character, behind a first one, at most n
unfoldable pub row_for : ℕ → ℕ → Reader (Unit {0}) → (Formula → Formula → Formula) → Reader Piece → Claim → Reader Claim
row_for n first between join operand = while n (goes_on first) (row_next between join operand)

unfoldable pub in_row : ℕ → Reader (Unit {0}) → (Formula → Formula → Formula) → Reader Piece → Reader Piece
in_row first between join operand = operand >>= on_claim (row_for longest first between join operand)

unfoldable pub conjunction : List Word → Nest → Reader Piece
conjunction names deeper = in_row 97 (keyword (codes "and")) And (atom names deeper)

unfoldable pub disjunction : List Word → Nest → Reader Piece
disjunction names deeper = in_row 111 (keyword (codes "or")) Or (conjunction names deeper)

-- formulas with arrows between them: those before the last arrow, the nearest first, and the one behind it
pub record Chain : Type 0 where
  pub before : List Formula
  pub last : Claim

-- p -> q -> r is p -> (q -> r)
unfoldable pub implied : List Formula → Formula → Formula
implied [] q = q
implied (p ∷ before) q = implied before (implies p q)

-- the arrow behind a formula, if it hasn't been read
unfoldable pub arrow_behind : Bool → Reader (Unit {0})
arrow_behind true = Give tt
arrow_behind false = sign (codes "->")

-- a formula more, behind an arrow
unfoldable pub chain_next : Reader Piece → Chain → Reader Chain
chain_next operand s =
    arrow_behind s.last.arrow >> (operand >>= (λ q. claimed q >>= (λ r. Give (record { before = s.last.formula ∷ s.before; last = r }))))

abbrev pub arrow_goes_on : Chain → ℕ → Bool
arrow_goes_on s c = s.last.arrow || c == 45

unfoldable pub chain_for : ℕ → Reader Piece → Chain → Reader Chain
chain_for n operand = while n arrow_goes_on (chain_next operand)

unfoldable pub concluded : Chain → Reader Claim
concluded s = Give (record { formula = implied s.before s.last.formula; arrow = false })

-- formulas joined by arrows, behind a first one
unfoldable pub chained : Reader Piece → Claim → Reader Claim
chained operand p = chain_for longest operand (record { before = []; last = p }) >>= concluded

unfoldable pub implication : List Word → Nest → Reader Piece
implication names deeper = disjunction names deeper >>= on_claim (chained (disjunction names deeper))

unfoldable pub equivalence : List Word → Nest → Reader Piece
equivalence names deeper = in_row 60 (sign (codes "<->")) equivalent (implication names deeper)
