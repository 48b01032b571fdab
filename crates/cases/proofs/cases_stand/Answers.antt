-- Every answer is computed: what is unfolded is all that computes.
use mathlib.Core.Path.{refl}
use Rattle.poly.specs.Arithmetic.{constant, variable, sum_by, sum, map_poly, product_by, product, negative, same_by, same}
use Rattle.poly.specs.Division.{divide}
use Rattle.poly.specs.Leading.{last_or, without_last, scaled, shifted}
use Rattle.poly.specs.Modest.{every_by, small, total_by, number_count, term_poly}
use Rattle.poly.specs.Poly.{from_coefs, coefs, all_zero, trim}
use Rattle.words.specs.Words.{term_at, formula_at, quantifiers_at}
use Rattle.sign_table.specs.Deduce.{any_zero, at_root, condensed_by, intervals, all_known, insert_at}
use Rattle.sign_table.specs.Facts.{among}
use Rattle.sign_table.specs.Leadings.{turned_round, leadings, reals, filled}
use Rattle.sign_table.specs.Table.{highest, without, all_fine, fine_ones, table}
use Rattle.decision.specs.Answer.{answer}
use Rattle.decision.specs.Asked.{is_among, asked, questions}
use Rattle.decision.specs.Decide.{decided, plain, decide}
use Rattle.decision.specs.Eliminate.{eliminated}
use Rattle.decision.specs.FormulaTree.{formula_tree}
use Rattle.decision.specs.RowAnswer.{sign_at, on_row, some, every}
use Rattle.cases.proofs.cases_stand.Goals as goal

pub returns : goal.returns
unfolding constant variable sum_by sum map_poly product_by product negative same_by same divide last_or without_last scaled shifted every_by small total_by number_count term_poly from_coefs coefs all_zero trim term_at formula_at quantifiers_at any_zero at_root condensed_by intervals all_known insert_at among turned_round leadings reals filled highest without all_fine fine_ones table is_among asked questions eliminated decided plain decide answer formula_tree sign_at on_row some every
returns c =
    record {
      square_plus_one_above_zero = refl;
      root_of_two = refl;
      no_root_of_minus_two = refl;
      not_every_number_a_square = refl;
      every_number_a_cube = refl;
      below_every_square = refl;
      squares_have_a_lower_bound = refl;
      not_every_quadratic_has_a_root = refl;
      root_by_discriminant = refl;
      discriminant_by_root = refl;
      arithmetic_and_geometric_mean = refl;
      line_meets_circle = refl;
      line_misses_circle = refl;
      cubic_root_above_two = refl;
      eighth_root_of_three = refl;
      ninth_power_given_up = refl;
      large_number_given_up = refl;
      fourth_power_of_difference = refl;
      root_of_two_by_a_negative_number = refl;
      minus_one_below_zero = refl;
      variable_without_quantifier = refl;
      one_word_more = refl;
      no_such_quantifier = refl;
      no_words = refl;
    }
