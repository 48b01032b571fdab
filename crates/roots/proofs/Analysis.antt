-- The analysis of one variable, gathered.
use Rattle.field.specs.Field.{RealClosedField}
use Rattle.roots.specs.Analysis.{Analysis}
use Rattle.roots.proofs.Quotient.{value-quotient, slope-quotient, quotient-shorter}
use Rattle.roots.proofs.FirstRoot.{first_root}
use Rattle.roots.proofs.Monotone.{monotone}
use Rattle.roots.proofs.FarOut.{constant_or_passes, far_out}
use Rattle.roots.proofs.Inside.{at_or_after, at_or_before, ordered_turn, inside-turn, inhabited}
use Rattle.roots.proofs.Split.{monotone-between, steady, splits, ends_apart}
use Rattle.roots.proofs.NotZeroAllOver.{zero_everywhere, not_zero_somewhere}
use Rattle.roots.proofs.NoJump.{no_jump}

pub analysis : {R : Type 0} (f : RealClosedField R) → Analysis f
analysis f = record {
  divides = (value-quotient f, slope-quotient f, quotient-shorter f);
  first_root = first_root f;
  monotone = λ e s n m cs a b a-b slopes. monotone f e s n m cs a b a-b (λ x a_x x-b. slopes x (a_x, x-b));
  monotone_inside = λ e s n m cs l r slopes x y i j x-y.
      monotone-between f e s n m cs l r slopes x y (at_or_after f e l x i.0) (at_or_before f e r y j.1) x-y;
  steady = λ e s t n m k cs l r slopes from to. steady f e s n m cs t k l r slopes from to;
  splits = λ e s t n m k cs l r o slopes from to. splits f e s n m cs t k l r o slopes from to;
  ends_apart = λ e s n m cs l r o slopes from to. ends_apart f e s n m cs l r o slopes from to;
  constant_or_passes = constant_or_passes f;
  far_out = λ e s n m cs a slopes. far_out f e s n m cs a (λ x a_x. slopes x (a_x, tt));
  no_jump = no_jump f;
  zero_everywhere = zero_everywhere f;
  not_zero_somewhere = not_zero_somewhere f;
  turns = λ e l r. (ordered_turn f e l r, inside-turn f e l r);
  inhabited = inhabited f;
}
