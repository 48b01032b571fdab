-- Both ways: the words of each formula once more, behind the signs of the second way.
use Rattle.std.proofs.Common.{min, List, [], ◌∷◌, ◌++◌, length, pos, sym, ap, ◌∙◌, append_assoc}
use Rattle.grammar.specs.Meaning.{formula_words}
use Rattle.text.specs.Sheet.{Holds, Behind}
use Rattle.text.proofs.Sheets.{same_words}
use Rattle.text.proofs.Steps.{regrouped}
use Rattle.text.proofs.sheet.Sheet.equate.Goals as goal

pub returns : goal.returns
unfolding formula_words
returns c xs p q begins middle held =
    let pw = formula_words p in
    let qw = formula_words q in
    let end : Behind ((xs ++ pw) ++ qw) c.args.self.now.count = held.counted ∙ ap (λ (l : List _). min (length l) 1025) (sym (append_assoc xs pw qw)) in
    let puts = c.put_kind-2.ensures ((xs ++ (pw ++ qw)) ++ (pos 5 ∷ [])) (c.put_kind.ensures (xs ++ (pw ++ qw)) held) in
    let shaped : Holds c.put_kind-2.new.self ((xs ++ pw) ++ (qw ++ (pos 5 ∷ pos 3 ∷ []))) =
    same_words _ _ _ (simp append_assoc) puts in
    let second = c.repeat.ensures (xs ++ pw) qw (pos 5 ∷ pos 3 ∷ []) middle end shaped in
    let first = c.repeat-2.ensures xs pw (qw ++ ((pos 5 ∷ pos 3 ∷ []) ++ qw)) begins middle (regrouped c.repeat.new.self xs pw (qw ++ ((pos 5 ∷ pos 3 ∷ []) ++ qw)) second) in
    same_words _ _ _ (simp append_assoc)
    (c.insert_kind.ensures xs _ begins (c.imply.ensures xs _ begins first))
