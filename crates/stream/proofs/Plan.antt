-- Of what is left of polynomials the plan is all that rows need. Assumes nothing.
use mathlib.Core.Path.{◌≡◌, refl, ap}
use mathlib.Core.List.{List, [], ◌∷◌}
use Rattle.field.specs.declared.sign.Sign.{Sign}
use Rattle.field.specs.declared.sign.Sign.TheVariants.{Zero}
use Rattle.sign_table.specs.Leadings.{Left, Plain, Real, filled}
use Rattle.stream.specs.Stage.{filled_by, plan_of}

pub plan_suffices : (ls : List Left) (r : List Sign) → filled_by (plan_of ls) r ≡ filled ls r
unfolding filled_by filled
plan_suffices [] r = refl
plan_suffices (Plain s ∷ ls) r = ap {B = List Sign} (λ t. s ∷ t) (plan_suffices ls r)
plan_suffices (Real p s ∷ ls) [] = ap {B = List Sign} (λ t. Zero ∷ t) (plan_suffices ls [])
plan_suffices (Real p s ∷ ls) (u ∷ r) = ap {B = List Sign} (λ t. u ∷ t) (plan_suffices ls r)
