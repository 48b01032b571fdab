-- The names of quantifiers, and their words.
use Rattle.std.proofs.Common.{◌≡◌, ℕ, ◌+◌, ◌<◌, Bool, false, List, [], ◌∷◌, ◌++◌, map, length, get_or, take, ℤ, sym, refl, ap, ◌∙◌, add-one, take-suc}
use Rattle.grammar.specs.Meaning.{quantifier_word}
use Rattle.std.proofs.lemmas.List.{take-map}
use Rattle.grammar.specs.declared.word.Word.{Word}
use Rattle.text.specs.declared.bound.Prefix.{Prefix as Quantified}
use Rattle.text.specs.Prefix.{name_of, prefix_of}

-- the names of as many quantifiers as are counted
pub names_counted : (p : Quantified) (names : List Word) → names ≡ map name_of p.quantifiers → take p.count names ≡ (prefix_of p).names
names_counted p names e = ap (take p.count) e ∙ take-map name_of p.count p.quantifiers

map-behind : (qs : List Bool) (q : Bool) → map quantifier_word (qs ++ (q ∷ [])) ≡ map quantifier_word qs ++ (quantifier_word q ∷ [])
map-behind [] q = refl
map-behind (p ∷ qs) q = ap {B = List ℤ} (λ l. quantifier_word p ∷ l) (map-behind qs q)

-- the word of one quantifier more
pub one_more_word : (qs : List Bool) (i : ℕ) → i < length qs → map quantifier_word (take i qs) ++ (quantifier_word (get_or qs i false) ∷ []) ≡ map quantifier_word (take (i + 1) qs)
one_more_word qs i h = sym (ap (λ n. map quantifier_word (take n qs)) (add-one i) ∙ ap (map quantifier_word) (take-suc qs i false h) ∙ map-behind (take i qs) (get_or qs i false))
