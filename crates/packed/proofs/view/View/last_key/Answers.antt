-- The last of the keys.
use Rattle.std.proofs.Common.{◌≡◌, ◌-◌, ◌^◌, ◌<◌, length, get_or, pos, sym, ap, ◌∙◌, arith, w64, SFits, rules}
use Rattle.std.proofs.lemmas.Int.{to_z-of_z}
use Rattle.terms.specs.LeadingTerms.{last_key}
use Rattle.terms.specs.Cells.{monomial_of}
use Rattle.packed.specs.Terms.{terms_in, term_at}
use Rattle.packed.proofs.Leading.{last_none, last_at, last-below}
use Rattle.packed.proofs.Lowered.{view-keys}
use Rattle.packed.proofs.Places.{length-monomials, monomial_at}
use Rattle.packed.proofs.view.View.last_key.Goals as goal

pub returns-in-empty-clause-value : goal.returns-in-empty-clause-value
returns-in-empty-clause-value c = sym (last_none (terms_in c.args.self.now) (omega (arith, length-monomials c.args.self.now.cells.now, c.in-empty.len_below)))

pub returns-in-len1-up : goal.returns-in-len1-up
returns-in-len1-up c =
    let cells = c.args.self.now.cells.now in
    let ts = terms_in c.args.self.now in
    let some : length cells - 1 < length cells = omega (arith, c.in-len1-up.len_at_least) in
    let f : SFits w64 (get_or cells (length cells - 1) (pos 0)) = search rules in
    let e : c.from.result.key ≡ (term_at ts (length cells - 1)).key =
    ap (λ t. t.key) c.from.ensures ∙ ap (λ z. (monomial_of z).key) (to_z-of_z w64 _ f) ∙ sym (ap (λ m. m.key) (monomial_at cells (length cells - 1) some)) in
    let last : last_key ts ≡ (term_at ts (length cells - 1)).key =
    last_at ts (λ z. omega (arith, length-monomials cells, z, c.in-len1-up.len_at_least)) ∙ ap (λ n. (term_at ts (n - 1)).key) (length-monomials cells) in
    record { value = e ∙ sym last; bound = omega (arith, e, last, last-below (2 ^ 19) ts (view-keys c.args.self.now) (omega arith)) }
