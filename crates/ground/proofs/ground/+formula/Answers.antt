-- A formula's outline, as the definition reads the formula.
use Rattle.std.proofs.Common.{arith}
use Rattle.words.proofs.Words.{formula_open}
use Rattle.ground.proofs.Values.{below_outline, equals_outline, not_outline, and_outline, or_outline, outline_by_kind}
use Rattle.ground.proofs.ground.+formula.Goals as goal

pub returns-in_ok-term-in-BelowZero : goal.returns-in_ok-term-in-BelowZero
returns-in_ok-term-in-BelowZero t c = outline_by_kind _ _ _ _ _ _ _ _ c.if-depth-eq0.false c.in_ok-kind.ensures c.in-BelowZero.is c.below_zero.ensures (rw (below_outline, ← c.in_ok-term-in-BelowZero.ensures))

pub returns-in_ok-term-in-EqualsZero : goal.returns-in_ok-term-in-EqualsZero
returns-in_ok-term-in-EqualsZero t c = outline_by_kind _ _ _ _ _ _ _ _ c.if-depth-eq0.false c.in_ok-kind.ensures c.in-EqualsZero.is c.equals_zero.ensures (rw (equals_outline, ← c.in_ok-term-in-EqualsZero.ensures))

pub returns-in_ok-formula-in-Not : goal.returns-in_ok-formula-in-Not
returns-in_ok-formula-in-Not t c = outline_by_kind _ _ _ _ _ _ _ _ c.if-depth-eq0.false c.in_ok-kind.ensures c.in-Not.is c.negation.ensures (rw (not_outline, ← c.in_ok-formula-in-Not.ensures))

pub returns-in_ok-formula-in-And-2 : goal.returns-in_ok-formula-in-And-2
returns-in_ok-formula-in-And-2 t c = outline_by_kind _ _ _ _ _ _ _ _ c.if-depth-eq0.false c.in_ok-kind.ensures c.in-And.is c.conjunction.ensures (rw (and_outline, ← c.in_ok-formula-in-And.ensures, ← c.in_ok-formula-in-And-2.ensures))

pub returns-in_ok-formula-in-Or-2 : goal.returns-in_ok-formula-in-Or-2
returns-in_ok-formula-in-Or-2 t c = outline_by_kind _ _ _ _ _ _ _ _ c.if-depth-eq0.false c.in_ok-kind.ensures c.in-Or.is c.disjunction.ensures (rw (or_outline, ← c.in_ok-formula-in-Or.ensures, ← c.in_ok-formula-in-Or-2.ensures))

pub returns-in_err-formula-in-And-2 : goal.returns-in_err-formula-in-And-2
returns-in_err-formula-in-And-2 t c = grind (arith, formula_open, and_outline)

pub returns-in_err-formula-in-Or-2 : goal.returns-in_err-formula-in-Or-2
returns-in_err-formula-in-Or-2 t c = grind (arith, formula_open, or_outline)
