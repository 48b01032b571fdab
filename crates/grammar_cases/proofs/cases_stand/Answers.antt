-- What each text reads as is computed: what is unfolded is all that computes.
use Rattle.std.proofs.Common.{refl}
use Rattle.grammar.specs.Characters.{characters}
use Rattle.grammar.specs.Formulas.{claimed, on_claim, or_equal, relation_of, comparison_of, from_product, from_primary, from_piece, denied, from_word, enclosed, atom_of, atom, row_next, row_for, in_row, conjunction, disjunction, implied, arrow_behind, chain_next, chain_for, concluded, chained, implication, equivalence}
use Rattle.grammar.specs.Meaning.{power, term_words, formula_words}
use Rattle.grammar.specs.Nesting.{nest}
use Rattle.grammar.specs.Reader.{◌>>=◌, while, run}
use Rattle.grammar.specs.Terms.{named, grouped, primary_of, raised, factor, times_next, times_for, product, taken, taken_of, added, summand_of, plus_next, plus_for, plus, negated, leading_of, sum}
use Rattle.grammar.specs.Text.{quantifier_of, prefix_next, prefix_for, quantifiers, sentence, few_words, whole, reading}
use Rattle.grammar.specs.Tokens.{blanks_for, exactly, sign, word_end, keyword, letters_for, letters, digits_for, number, position, variable, new_name}
use Rattle.grammar_cases.proofs.cases_stand.Goals as goal

pub returns : goal.returns
unfolding characters claimed on_claim or_equal relation_of comparison_of from_product from_primary from_piece denied from_word enclosed atom_of atom row_next row_for in_row conjunction disjunction implied arrow_behind chain_next chain_for concluded chained implication equivalence power term_words formula_words nest ◌>>=◌ while run named grouped primary_of raised factor times_next times_for product taken taken_of added summand_of plus_next plus_for plus negated leading_of sum quantifier_of prefix_next prefix_for quantifiers sentence few_words whole reading blanks_for exactly sign word_end keyword letters_for letters digits_for number position variable new_name
returns c =
    record {
      two_quantifiers = refl;
      no_quantifier = refl;
      and_before_or = refl;
      or_before_arrow = refl;
      arrow_before_equivalence = refl;
      and_to_the_left = refl;
      or_to_the_left = refl;
      arrow_to_the_right = refl;
      equivalence_to_the_left = refl;
      not_binds_closest = refl;
      not_of_not = refl;
      formula_in_parentheses = refl;
      arrow_behind_parentheses = refl;
      arrow_without_blanks = refl;
      term_in_parentheses = refl;
      less_or_equal = refl;
      equal = refl;
      unequal = refl;
      greater = refl;
      greater_or_equal = refl;
      sums_to_the_left = refl;
      minus_takes_the_first_product = refl;
      minus_behind_comparison = refl;
      third_power = refl;
      power_of_parentheses = refl;
      first_power = refl;
      largest_number = refl;
      letters_and_digits_touch = refl;
      four_quantifiers = refl;
      name_with_a_word_in_front = refl;
      eight_letters = refl;
      line_feeds_part_words = refl;
      nothing = refl;
      misspelt_every = refl;
      every_runs_on = refl;
      and_runs_on = refl;
      ninth_letter = refl;
      ninth_letter_of_an_unknown_name = refl;
      sixth_digit = refl;
      number_too_large = refl;
      ninth_power = refl;
      zeroth_power = refl;
      tenth_power = refl;
      power_of_power = refl;
      word_for_a_name = refl;
      word_for_a_term = refl;
      not_for_a_term = refl;
      fifth_quantifier = refl;
      two_terms_in_a_row = refl;
      comparison_twice = refl;
      comparison_twice_or_equal = refl;
      term_for_a_formula = refl;
      term_before_and = refl;
      term_behind_not = refl;
      term_in_parentheses_before_and = refl;
      arrow_behind_a_term = refl;
      split_arrow = refl;
      minus_behind_plus = refl;
      minus_behind_times = refl;
      minus_behind_minus = refl;
      formula_inside_a_term = refl;
      parenthesis_left_open = refl;
      parenthesis_too_many = refl;
      ends_too_soon = refl;
      tab = refl;
      carriage_return = refl;
      capital_letter = refl;
      name_not_quantified = refl;
      name_quantified_twice = refl;
      name_not_quantified_inside = refl;
      misfit_before_wrong_name = refl;
      more_quantifiers_than_names = refl;
      name_for_not = refl;
      equivalence_misspelt = refl;
      equivalence_cut_short = refl;
      exclamation_alone = refl;
      equal_twice = refl;
      greater_before_equal = refl;
      digit_behind_a_number = refl;
      name_behind_a_number = refl;
      parenthesis_behind_a_number = refl;
      empty_parentheses = refl;
      colon_missing = refl;
      colon_twice = refl;
      blank_first_quantifier = refl;
      wrong_name_before_misfit = refl;
      word_for_a_name_at_the_end = refl;
      number_for_a_name = refl;
      minus_alone = refl;
      minus_in_front_of_parentheses = refl;
      minus_inside_parentheses = refl;
      arrow_inside_a_right_term = refl;
      arrow_behind_and = refl;
      parentheses_turn_the_arrow = refl;
      only_blanks = refl;
      dollar = refl;
      formula_plus_one = refl;
      term_compared_with_formula = refl;
      not_with_parentheses = refl;
      no_ascii = refl;
      byte_zero = refl;
      two_hundred_parentheses = refl;
      two_hundred_and_one_parentheses = refl;
    }
