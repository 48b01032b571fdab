-- Examples: sentences as words, and the answers to them, by computing alone: 0 it fails, 1 it holds, 2 given up, 3 no sentence. Assumes nothing.
use Rattle.std.specs.Prelude.{◌≡◌, [], ◌∷◌, pos, negsuc}
use Rattle.decision.specs.Answer.{answer}

pub record CasesHold : Type 0 where
  -- every x: 0 < x^2 + 1 holds
  pub square_plus_one_above_zero : answer (pos 1 ∷ pos 1 ∷ pos 1 ∷ pos 8 ∷ pos 7 ∷ pos 0 ∷ pos 9 ∷ pos 7 ∷ negsuc 0 ∷ pos 8 ∷ pos 9 ∷ pos 6 ∷ pos 0 ∷ pos 6 ∷ pos 0 ∷ pos 7 ∷ pos 1 ∷ []) ≡ 1
  -- some x: x^2 = 2 holds
  pub root_of_two : answer (pos 1 ∷ pos 0 ∷ pos 2 ∷ pos 8 ∷ pos 9 ∷ pos 6 ∷ pos 0 ∷ pos 6 ∷ pos 0 ∷ pos 9 ∷ pos 7 ∷ negsuc 0 ∷ pos 7 ∷ pos 2 ∷ []) ≡ 1
  -- some x: x^2 = -2 fails
  pub no_root_of_minus_two : answer (pos 1 ∷ pos 0 ∷ pos 2 ∷ pos 8 ∷ pos 9 ∷ pos 6 ∷ pos 0 ∷ pos 6 ∷ pos 0 ∷ pos 9 ∷ pos 7 ∷ negsuc 0 ∷ pos 9 ∷ pos 7 ∷ negsuc 0 ∷ pos 7 ∷ pos 2 ∷ []) ≡ 0
  -- every y some x: x^2 = y fails
  pub not_every_number_a_square : answer (pos 2 ∷ pos 0 ∷ pos 1 ∷ pos 2 ∷ pos 8 ∷ pos 9 ∷ pos 6 ∷ pos 0 ∷ pos 6 ∷ pos 0 ∷ pos 9 ∷ pos 7 ∷ negsuc 0 ∷ pos 6 ∷ pos 1 ∷ []) ≡ 0
  -- every y some x: x^3 = y holds
  pub every_number_a_cube : answer (pos 2 ∷ pos 0 ∷ pos 1 ∷ pos 2 ∷ pos 8 ∷ pos 9 ∷ pos 9 ∷ pos 6 ∷ pos 0 ∷ pos 6 ∷ pos 0 ∷ pos 6 ∷ pos 0 ∷ pos 9 ∷ pos 7 ∷ negsuc 0 ∷ pos 6 ∷ pos 1 ∷ []) ≡ 1
  -- every y some x: y^2 >= x holds
  pub below_every_square : answer (pos 2 ∷ pos 0 ∷ pos 1 ∷ pos 3 ∷ pos 1 ∷ pos 8 ∷ pos 9 ∷ pos 6 ∷ pos 1 ∷ pos 6 ∷ pos 1 ∷ pos 9 ∷ pos 7 ∷ negsuc 0 ∷ pos 6 ∷ pos 0 ∷ []) ≡ 1
  -- some y every x: x^2 >= y holds
  pub squares_have_a_lower_bound : answer (pos 2 ∷ pos 1 ∷ pos 0 ∷ pos 3 ∷ pos 1 ∷ pos 8 ∷ pos 9 ∷ pos 6 ∷ pos 0 ∷ pos 6 ∷ pos 0 ∷ pos 9 ∷ pos 7 ∷ negsuc 0 ∷ pos 6 ∷ pos 1 ∷ []) ≡ 1
  -- every c every b some x: x^2 + b*x + c = 0 fails
  pub not_every_quadratic_has_a_root : answer (pos 3 ∷ pos 0 ∷ pos 1 ∷ pos 1 ∷ pos 2 ∷ pos 8 ∷ pos 8 ∷ pos 8 ∷ pos 9 ∷ pos 6 ∷ pos 0 ∷ pos 6 ∷ pos 0 ∷ pos 9 ∷ pos 6 ∷ pos 1 ∷ pos 6 ∷ pos 0 ∷ pos 6 ∷ pos 2 ∷ pos 9 ∷ pos 7 ∷ negsuc 0 ∷ pos 7 ∷ pos 0 ∷ []) ≡ 0
  -- every c every b some x: b^2 >= 4*c implies x^2 + b*x + c = 0 holds
  pub root_by_discriminant : answer (pos 3 ∷ pos 0 ∷ pos 1 ∷ pos 1 ∷ pos 5 ∷ pos 3 ∷ pos 3 ∷ pos 1 ∷ pos 8 ∷ pos 9 ∷ pos 6 ∷ pos 1 ∷ pos 6 ∷ pos 1 ∷ pos 9 ∷ pos 7 ∷ negsuc 0 ∷ pos 9 ∷ pos 7 ∷ pos 4 ∷ pos 6 ∷ pos 2 ∷ pos 2 ∷ pos 8 ∷ pos 8 ∷ pos 8 ∷ pos 9 ∷ pos 6 ∷ pos 0 ∷ pos 6 ∷ pos 0 ∷ pos 9 ∷ pos 6 ∷ pos 1 ∷ pos 6 ∷ pos 0 ∷ pos 6 ∷ pos 2 ∷ pos 9 ∷ pos 7 ∷ negsuc 0 ∷ pos 7 ∷ pos 0 ∷ []) ≡ 1
  -- every c every b every x: x^2 + b*x + c = 0 implies b^2 >= 4*c holds
  pub discriminant_by_root : answer (pos 3 ∷ pos 1 ∷ pos 1 ∷ pos 1 ∷ pos 5 ∷ pos 3 ∷ pos 2 ∷ pos 8 ∷ pos 8 ∷ pos 8 ∷ pos 9 ∷ pos 6 ∷ pos 0 ∷ pos 6 ∷ pos 0 ∷ pos 9 ∷ pos 6 ∷ pos 1 ∷ pos 6 ∷ pos 0 ∷ pos 6 ∷ pos 2 ∷ pos 9 ∷ pos 7 ∷ negsuc 0 ∷ pos 7 ∷ pos 0 ∷ pos 3 ∷ pos 1 ∷ pos 8 ∷ pos 9 ∷ pos 6 ∷ pos 1 ∷ pos 6 ∷ pos 1 ∷ pos 9 ∷ pos 7 ∷ negsuc 0 ∷ pos 9 ∷ pos 7 ∷ pos 4 ∷ pos 6 ∷ pos 2 ∷ []) ≡ 1
  -- every y every x: (x + y)^2 >= 4*x*y holds
  pub arithmetic_and_geometric_mean : answer (pos 2 ∷ pos 1 ∷ pos 1 ∷ pos 3 ∷ pos 1 ∷ pos 8 ∷ pos 9 ∷ pos 8 ∷ pos 6 ∷ pos 0 ∷ pos 6 ∷ pos 1 ∷ pos 8 ∷ pos 6 ∷ pos 0 ∷ pos 6 ∷ pos 1 ∷ pos 9 ∷ pos 7 ∷ negsuc 0 ∷ pos 9 ∷ pos 9 ∷ pos 7 ∷ pos 4 ∷ pos 6 ∷ pos 0 ∷ pos 6 ∷ pos 1 ∷ []) ≡ 1
  -- some y some x: x^2 + y^2 = 1 and x + y = 1 holds
  pub line_meets_circle : answer (pos 2 ∷ pos 0 ∷ pos 0 ∷ pos 4 ∷ pos 2 ∷ pos 8 ∷ pos 8 ∷ pos 9 ∷ pos 6 ∷ pos 0 ∷ pos 6 ∷ pos 0 ∷ pos 9 ∷ pos 6 ∷ pos 1 ∷ pos 6 ∷ pos 1 ∷ pos 9 ∷ pos 7 ∷ negsuc 0 ∷ pos 7 ∷ pos 1 ∷ pos 2 ∷ pos 8 ∷ pos 8 ∷ pos 6 ∷ pos 0 ∷ pos 6 ∷ pos 1 ∷ pos 9 ∷ pos 7 ∷ negsuc 0 ∷ pos 7 ∷ pos 1 ∷ []) ≡ 1
  -- some y some x: x^2 + y^2 = 1 and x + y = 2 fails
  pub line_misses_circle : answer (pos 2 ∷ pos 0 ∷ pos 0 ∷ pos 4 ∷ pos 2 ∷ pos 8 ∷ pos 8 ∷ pos 9 ∷ pos 6 ∷ pos 0 ∷ pos 6 ∷ pos 0 ∷ pos 9 ∷ pos 6 ∷ pos 1 ∷ pos 6 ∷ pos 1 ∷ pos 9 ∷ pos 7 ∷ negsuc 0 ∷ pos 7 ∷ pos 1 ∷ pos 2 ∷ pos 8 ∷ pos 8 ∷ pos 6 ∷ pos 0 ∷ pos 6 ∷ pos 1 ∷ pos 9 ∷ pos 7 ∷ negsuc 0 ∷ pos 7 ∷ pos 2 ∷ []) ≡ 0
  -- some x: x^3 - 6*x^2 + 11*x - 6 = 0 and 2 < x holds
  pub cubic_root_above_two : answer (pos 1 ∷ pos 0 ∷ pos 4 ∷ pos 2 ∷ pos 8 ∷ pos 8 ∷ pos 8 ∷ pos 8 ∷ pos 9 ∷ pos 9 ∷ pos 6 ∷ pos 0 ∷ pos 6 ∷ pos 0 ∷ pos 6 ∷ pos 0 ∷ pos 9 ∷ pos 7 ∷ negsuc 0 ∷ pos 9 ∷ pos 7 ∷ pos 6 ∷ pos 9 ∷ pos 6 ∷ pos 0 ∷ pos 6 ∷ pos 0 ∷ pos 9 ∷ pos 7 ∷ pos 11 ∷ pos 6 ∷ pos 0 ∷ pos 9 ∷ pos 7 ∷ negsuc 0 ∷ pos 7 ∷ pos 6 ∷ pos 9 ∷ pos 7 ∷ negsuc 0 ∷ pos 7 ∷ pos 0 ∷ pos 1 ∷ pos 8 ∷ pos 7 ∷ pos 2 ∷ pos 9 ∷ pos 7 ∷ negsuc 0 ∷ pos 6 ∷ pos 0 ∷ []) ≡ 1
  -- some x: x^8 = 3 holds
  pub eighth_root_of_three : answer (pos 1 ∷ pos 0 ∷ pos 2 ∷ pos 8 ∷ pos 9 ∷ pos 9 ∷ pos 9 ∷ pos 9 ∷ pos 9 ∷ pos 9 ∷ pos 9 ∷ pos 6 ∷ pos 0 ∷ pos 6 ∷ pos 0 ∷ pos 6 ∷ pos 0 ∷ pos 6 ∷ pos 0 ∷ pos 6 ∷ pos 0 ∷ pos 6 ∷ pos 0 ∷ pos 6 ∷ pos 0 ∷ pos 6 ∷ pos 0 ∷ pos 9 ∷ pos 7 ∷ negsuc 0 ∷ pos 7 ∷ pos 3 ∷ []) ≡ 1
  -- some x: x^9 = 3 is given up: nine is too high an exponent
  pub ninth_power_given_up : answer (pos 1 ∷ pos 0 ∷ pos 2 ∷ pos 8 ∷ pos 9 ∷ pos 9 ∷ pos 9 ∷ pos 9 ∷ pos 9 ∷ pos 9 ∷ pos 9 ∷ pos 9 ∷ pos 6 ∷ pos 0 ∷ pos 6 ∷ pos 0 ∷ pos 6 ∷ pos 0 ∷ pos 6 ∷ pos 0 ∷ pos 6 ∷ pos 0 ∷ pos 6 ∷ pos 0 ∷ pos 6 ∷ pos 0 ∷ pos 6 ∷ pos 0 ∷ pos 6 ∷ pos 0 ∷ pos 9 ∷ pos 7 ∷ negsuc 0 ∷ pos 7 ∷ pos 3 ∷ []) ≡ 2
  -- some x: x^2 = 65535*65535 is given up: the product is too large
  pub large_number_given_up : answer (pos 1 ∷ pos 0 ∷ pos 2 ∷ pos 8 ∷ pos 9 ∷ pos 6 ∷ pos 0 ∷ pos 6 ∷ pos 0 ∷ pos 9 ∷ pos 7 ∷ negsuc 0 ∷ pos 9 ∷ pos 7 ∷ pos 65535 ∷ pos 7 ∷ pos 65535 ∷ []) ≡ 2
  -- every x: x^4 - 4*x^3 + 6*x^2 - 4*x + 1 >= 0 holds
  pub fourth_power_of_difference : answer (pos 1 ∷ pos 1 ∷ pos 3 ∷ pos 1 ∷ pos 8 ∷ pos 8 ∷ pos 8 ∷ pos 8 ∷ pos 8 ∷ pos 9 ∷ pos 9 ∷ pos 9 ∷ pos 6 ∷ pos 0 ∷ pos 6 ∷ pos 0 ∷ pos 6 ∷ pos 0 ∷ pos 6 ∷ pos 0 ∷ pos 9 ∷ pos 7 ∷ negsuc 0 ∷ pos 9 ∷ pos 7 ∷ pos 4 ∷ pos 9 ∷ pos 9 ∷ pos 6 ∷ pos 0 ∷ pos 6 ∷ pos 0 ∷ pos 6 ∷ pos 0 ∷ pos 9 ∷ pos 7 ∷ pos 6 ∷ pos 9 ∷ pos 6 ∷ pos 0 ∷ pos 6 ∷ pos 0 ∷ pos 9 ∷ pos 7 ∷ negsuc 0 ∷ pos 9 ∷ pos 7 ∷ pos 4 ∷ pos 6 ∷ pos 0 ∷ pos 7 ∷ pos 1 ∷ pos 9 ∷ pos 7 ∷ negsuc 0 ∷ pos 7 ∷ pos 0 ∷ []) ≡ 1
  -- some x: x^2 + -2 = 0 holds, where -2 is one word
  pub root_of_two_by_a_negative_number : answer (pos 1 ∷ pos 0 ∷ pos 2 ∷ pos 8 ∷ pos 9 ∷ pos 6 ∷ pos 0 ∷ pos 6 ∷ pos 0 ∷ pos 7 ∷ negsuc 1 ∷ []) ≡ 1
  -- -1 < 0 holds, without quantifiers
  pub minus_one_below_zero : answer (pos 0 ∷ pos 1 ∷ pos 7 ∷ negsuc 0 ∷ []) ≡ 1
  -- some x: y = 0 is no sentence, for lack of a quantifier for y
  pub variable_without_quantifier : answer (pos 1 ∷ pos 0 ∷ pos 2 ∷ pos 6 ∷ pos 1 ∷ []) ≡ 3
  -- some x: x = 0 is no sentence with one word more
  pub one_word_more : answer (pos 1 ∷ pos 0 ∷ pos 2 ∷ pos 6 ∷ pos 0 ∷ pos 5 ∷ []) ≡ 3
  -- 2 is no quantifier
  pub no_such_quantifier : answer (pos 1 ∷ pos 2 ∷ pos 2 ∷ pos 6 ∷ pos 0 ∷ []) ≡ 3
  -- no words are no sentence
  pub no_words : answer [] ≡ 3
