-- The library's place is that of the first zero among the signs that have a remainder.
use Rattle.std.proofs.Common.{◌≡◌, sym, ap, ◌∙◌, rules, slice_get, tests}
use Rattle.std.specs.List.{position}
use Rattle.std.proofs.lemmas.Iterator.{YieldsList-from_slice}
use Rattle.std.proofs.lemmas.Iterator.Search.{position_from_yields_List}
use Rattle.sign_table.specs.Deduce.{is_zero_sign, at_root}
use Rattle.row_stream.specs.Known.{known_of}
use Rattle.row_stream.proofs.Places.{copied_get, remainder_at, root_at_first, root_beyond}
use Rattle.row_stream.proofs.looks.at_root.Goals as goal

pub returns-in_err-zero : goal.returns-in_err-zero
returns-in_err-zero c =
    let e : c.position.result ≡ position is_zero_sign c.front.result.now =
    position_from_yields_List is_zero_sign _ _ c.position.result c.position.ensures.ran (YieldsList-from_slice c.front.result.now cc) (λ x b q k. search (rules, tests))
    in
    ap known_of c.from_residual.ensures ∙ ap (λ i. known_of (remainder_at c.args.remainders.now i)) (sym c.in_err-zero.was ∙ e) ∙ root_at_first c.front.result.now c.args.remainders.now
    ∙ ap (λ xs. at_root xs c.args.remainders.now) c.front.ensures ∙ root_beyond c.args.signs.now c.args.remainders.now

pub returns : goal.returns
returns c =
    let e : c.position.result ≡ position is_zero_sign c.front.result.now =
    position_from_yields_List is_zero_sign _ _ c.position.result c.position.ensures.ran (YieldsList-from_slice c.front.result.now cc) (λ x b q k. search (rules, tests))
    in
    let g : c.copied.result ≡ slice_get c.args.remainders.now c.in_ok-zero.zero = search (rules, copied_get) in
    ap known_of g ∙ ap (λ i. known_of (remainder_at c.args.remainders.now i)) (sym c.in_ok-zero.was ∙ e) ∙ root_at_first c.front.result.now c.args.remainders.now
    ∙ ap (λ xs. at_root xs c.args.remainders.now) c.front.ensures ∙ root_beyond c.args.signs.now c.args.remainders.now
