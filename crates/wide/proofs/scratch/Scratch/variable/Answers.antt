-- The variable's digit is one.
use Rattle.std.proofs.Common.{◌≡◌, suc, ◌-◌, ◌^◌, ◌<◌, ◌≤◌, [], ◌∷◌, ◌++◌, pos, sym, ap, ◌∙◌, arith}
use Rattle.terms.specs.Monomial.{monomial}
use Rattle.wide.proofs.Rising.{one-rising, none_rising}
use Rattle.wide.proofs.Slopes.{variable-there, variable_none}
use Rattle.wide.proofs.scratch.Scratch.variable.Goals as goal

pub returns-in-Some : goal.returns-in-Some
returns-in-Some c =
    let n = c.args.variables.count in
    let there : c.args.variable < n = omega (arith, c.in-Some.ensures) in
    let e : c.in-Some.others.count ≡ n - suc c.args.variable = omega (arith, c.in-Some.ensures) in
    let made = c.push.ensures ∙ ap (λ w. w ++ monomial c.digit_place.result (pos 1) ∷ []) c.clear.ensures in
    record {
      value = made ∙ ap (λ k. monomial k (pos 1) ∷ []) (c.digit_place.ensures.value ∙ ap (λ n. 32 ^ n) e) ∙ sym (variable-there n c.args.variable there);
      rising = one-rising c.digit_place.result (pos 1) _ made (c.digit_place.ensures.small (omega (arith, c.args.variables.few, c.in-Some.ensures))) tt;
    }

pub returns-in_default : goal.returns-in_default
returns-in_default c =
    let out : c.args.variables.count ≤ c.args.variable = c.in_default.ensures in
    record { value = c.clear.ensures ∙ sym (variable_none c.args.variables.count c.args.variable out); rising = none_rising _ c.clear.ensures }
