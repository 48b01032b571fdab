-- Each byte that begins a character is counted.
use Rattle.std.proofs.Common.{◌≡◌, ℕ, suc, Bool, true, false, cond, List, [], ◌∷◌, length, refl, ap, ◌∙◌, rules, tests}
use Rattle.std.specs.List.{filter}
use Rattle.std.proofs.lemmas.Iterator.{YieldsList-from_slice}
use Rattle.std.proofs.lemmas.Iterator.Consumers.{YieldsList-from_filter, count_from_yields_List}
use Rattle.grammar.specs.Characters.{is_character, characters}
use Rattle.text.proofs.read.characters.Goals as goal

length-filter_is_character : (text : List ℕ) → length (filter is_character text) ≡ characters text
unfolding characters
length-filter_is_character [] = refl
length-filter_is_character (b ∷ text) = go (is_character b) (length-filter_is_character text)
  where
    go : (kept : Bool) → length (filter is_character text) ≡ characters text → length (cond kept (b ∷ filter is_character text) (filter is_character text)) ≡ cond kept (suc (characters text)) (characters text)
    go true e = ap suc e
    go false e = e

pub returns : goal.returns
returns c =
    count_from_yields_List c.filter.result _ c.count.ensures.ran (YieldsList-from_filter _ is_character (YieldsList-from_slice c.args.text.now cc) c.filter.ensures.closure (λ x b q k. search (rules, tests))) ∙
    length-filter_is_character c.args.text.now
