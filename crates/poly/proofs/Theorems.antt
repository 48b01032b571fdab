-- The theorems of specs/Theorems.antt. Assumes nothing.
use lib.ListN.{length}
use Rattle.field.specs.Field.{RealClosedField}
use Rattle.poly.specs.Theorems.{DepthLaws, ValueLaws, EqualityLaws, LeadingLaws, DerivativeLaws, RemainderLaws}
use Rattle.poly.proofs.Depth.{Depth-zero_poly, Depth-constant, Depth-variable, Depth-sum, Depth-product, Depth-negative, Depth-leading, Depth-without_leading, Depth-derivative, Depth-remainder}
use Rattle.poly.proofs.Values.{value_is_zero, value_constant, value_variable, value_sum, value_product, value_negative, value_horner}
use Rattle.poly.proofs.Terms.{value_term}
use Rattle.poly.proofs.Equality.{value_same, value_same_negative, sign_number}
use Rattle.poly.proofs.Leading.{last_leading, value_without_leading, value_degree_zero, value_derivative, sign_leading_derivative}
use Rattle.poly.proofs.Remainder.{value_division_step, remainder_sign}

pub depth_laws : DepthLaws
depth_laws =
    record {
      Depth-zero_poly = Depth-zero_poly;
      Depth-constant = Depth-constant;
      Depth-variable = Depth-variable;
      Depth-sum = Depth-sum;
      Depth-product = Depth-product;
      Depth-negative = Depth-negative;
      Depth-leading = Depth-leading;
      Depth-without_leading = Depth-without_leading;
      Depth-derivative = Depth-derivative;
      Depth-remainder = Depth-remainder;
    }

module _ {R : Type 0} (f : RealClosedField R) where
  pub value_laws : ValueLaws f
  value_laws =
      record {
        value_is_zero = value_is_zero f;
        value_constant = value_constant f;
        value_variable = value_variable f;
        value_sum = value_sum f;
        value_product = value_product f;
        value_negative = value_negative f;
        value_term = value_term f;
      }

  pub equality_laws : EqualityLaws f
  equality_laws = record { value_same = value_same f; value_same_negative = value_same_negative f; sign_number = sign_number f }

  pub leading_laws : LeadingLaws f
  leading_laws =
      record {
        value_horner = λ e. value_horner f (length e) e;
        last_leading = λ e. last_leading f (length e) e;
        value_without_leading = λ e. value_without_leading f (length e) e;
        value_degree_zero = λ e. value_degree_zero f (length e) e;
      }

  pub derivative_laws : DerivativeLaws f
  derivative_laws = record { value_derivative = value_derivative f; sign_leading_derivative = sign_leading_derivative f }

  pub remainder_laws : RemainderLaws f
  remainder_laws = record { value_division_step = value_division_step f; remainder_sign = remainder_sign f }
