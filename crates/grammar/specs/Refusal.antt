-- The numbers and the places of refusals. Assumes nothing.
use Rattle.std.specs.Prelude.{ℕ, Some, None, Option}
use Rattle.grammar.specs.declared.refusal.Refusal.{Refusal}
use Rattle.grammar.specs.declared.refusal.Refusal.TheVariants.{Misfit, TooLarge, WrongName}

abbrev pub number_of : Refusal → ℕ
number_of (Misfit k) = 5
number_of TooLarge = 6
number_of (WrongName k) = 7

abbrev pub place_of : Refusal → Option ℕ
place_of (Misfit k) = Some k
place_of TooLarge = None
place_of (WrongName k) = Some k
