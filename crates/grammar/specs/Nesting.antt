-- Nesting: parentheses, `not` and a minus in front, so many deep. Assumes nothing.
use Rattle.std.specs.Prelude.{ℕ, zero, suc, false, List}
use Rattle.grammar.specs.declared.fault.Fault.TheVariants.{Deep}
use Rattle.grammar.specs.declared.word.Word.{Word}
use Rattle.grammar.specs.Formulas.{atom, equivalence}
use Rattle.grammar.specs.Reader.{Give, Refuse, ◌>>=◌}
use Rattle.grammar.specs.Terms.{Nest, product, sum}

-- the readers that are left where so many levels more may be opened
unfoldable pub nest : List Word → ℕ → Nest
nest names zero = record { product = Refuse Deep; sum = Refuse Deep; atom = Refuse Deep; formula = Refuse Deep }
nest names (suc depth) =
    let deeper = nest names depth in
    record {
      product = product names deeper;
      sum = sum names deeper false >>= (λ s. Give s.term);
      atom = atom names deeper;
      formula = equivalence names deeper;
    }
