-- What a prefix of quantifiers stands for. Assumes nothing.
use Rattle.std.specs.Prelude.{◌≡◌, ℕ, Bool, List, ◌∷◌, map, take}
use Rattle.grammar.specs.declared.word.Word.{Word}
use Rattle.grammar.specs.Text.{Prefix}
use Rattle.text.specs.declared.bound.Prefix.{Prefix as Quantified}
use Rattle.text.specs.declared.bound.Bound.{Bound}
use Rattle.words.specs.Quantifier.{over_all}

abbrev pub name_of : Bound → Word
name_of b = b.name

abbrev pub every_of : Bound → Bool
every_of b = over_all b.quantifier

-- the first ones, as many as are counted
abbrev pub counted : List Bound → ℕ → Prefix
counted bounds n = record { names = map name_of (take n bounds); quantifiers = map every_of (take n bounds) }

abbrev pub prefix_of : Quantified → Prefix
prefix_of p = counted p.quantifiers p.count

abbrev pub Longer : Quantified → Bound → Quantified → Type 0
Longer p b r = prefix_of r ≡ record { names = name_of b ∷ (prefix_of p).names; quantifiers = every_of b ∷ (prefix_of p).quantifiers }
