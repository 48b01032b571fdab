-- A monomial's derivative in the first variable. Assumes nothing.
use Rattle.std.specs.Prelude.{ℕ, ◌-◌, ◌/◌, pos, ◌*ℤ◌}
use Rattle.terms.specs.Monomial.{Monomial, monomial}

-- where a digit of the first variable has this value
abbrev pub slope_by : ℕ → Monomial → Monomial
slope_by place m = monomial (m.key - place) (pos (m.key / place) *ℤ m.times)
