-- A term's number, as the definition reads the term and evaluates it.
use Rattle.std.proofs.Common.{ap, ◌∙◌, w64, SFits, rules}
use Rattle.std.proofs.lemmas.Int.{to_z-of_z}
use Rattle.ground.specs.Ground.{modest}
use Rattle.words.specs.Reading.{Read}
use Rattle.words.proofs.Words.{term_of_kind}
use Rattle.ground.proofs.Values.{number-number}
use Rattle.ground.proofs.ground.+term.Goals as goal

pub returns-in_ok-number-in-Number : goal.returns-in_ok-number-in-Number
returns-in_ok-number-in-Number t c =
    rw (term_of_kind _ _ _ _ _ c.if-depth-eq0.false c.in_ok-kind.ensures, c.in-Number.is, number-number, ← c.in_ok-number-in-Number.ensures)
    (let f : SFits w64 c.in_ok-number-in-Number.field-0 = search rules in
    ap (λ v. Read v c.number.new.self.rest.now) (c.modest_number.ensures ∙ ap modest (to_z-of_z w64 c.in_ok-number-in-Number.field-0 f)))
