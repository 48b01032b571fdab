-- Pseudo-division in the first variable: in each step what is divided is multiplied by the divisor's leading coefficient. n is the count of the other variables. Assumes nothing.
use Rattle.std.specs.Prelude.{Bool, true, false, ℕ, zero, suc, ◌+◌, ◌-◌, ◌%◌, eqb, ltb, length}
use Rattle.field.specs.declared.sign.Sign.{Sign}
use Rattle.field.specs.declared.sign.Sign.TheVariants.{Neg, Zero, Pos}
use Rattle.poly.specs.Poly.{Poly, from_coefs, coefs, trim}
use Rattle.poly.specs.Arithmetic.{product, negative, difference, map_poly}
use Rattle.poly.specs.Leading.{leading, shifted}
use Rattle.poly.specs.Modest.{modest, Checked, TooBig, Fine}

-- s by p: the leading coefficient of p times s, less the leading coefficient of s times p, moved up to the degree of s
abbrev pub division_step : ℕ → Poly → Poly → Poly
division_step n p s =
    difference (suc n) (from_coefs (trim (map_poly (product n (leading n p)) (coefs s))))
    (from_coefs (trim (map_poly (product n (leading n s)) (shifted n (length (coefs s) - length (coefs p)) (coefs p)))))

-- whether all was modest, how many steps there were, and what is left
pub record Division : Type 0 where
  pub good : Bool
  pub steps : ℕ
  pub rest : Poly

-- s by p after k steps, until what is left has fewer coefficients than p
unfoldable pub divide : (fuel : ℕ) → ℕ → Poly → Poly → ℕ → Division
divide zero n p s k = record { good = true; steps = k; rest = s }
divide (suc fuel) n p s k =
    elim (ltb (length (coefs s)) (length (coefs p))) [
      | true ↦ record { good = true; steps = k; rest = s }
      | false ↦
          let r = division_step n p s in
          elim (modest (suc n) r) [ true ↦ divide fuel n p r (k + 1) | false ↦ record { good = false; steps = k; rest = s } ]
    ]

abbrev pub odd : ℕ → Bool
odd k = eqb (k % 2) 1

-- r, its sign exchanged just where the count of steps is odd and the sign of the divisor's leading coefficient is Neg
abbrev pub exchanged : ℕ → Bool → Sign → Poly → Poly
exchanged n true Neg r = negative (suc n) r
exchanged n true Zero r = r
exchanged n true Pos r = r
exchanged n false h r = r

-- the remainder of s by p, whose leading coefficient has the sign h; each step, which multiplies s by that coefficient, turns the sign where h is Neg
abbrev pub remainder : ℕ → Sign → Poly → Poly → Checked
remainder n h p s =
    let d = divide (length (coefs s) + 1) n p s 0 in
    elim d.good [ true ↦ Fine (exchanged n (odd d.steps) h d.rest) | false ↦ TooBig ]
