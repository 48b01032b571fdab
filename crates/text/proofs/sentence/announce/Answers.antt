-- The words are put one by one.
use Rattle.std.proofs.Common.{sym, arith, length, ◌<◌, ◌≤◌, ◌≡◌, false, [], ◌∷◌, ◌++◌, get_or, map, take, pos, refl, ap, ◌∙◌, take_all, w64, SFits, rules}
use Rattle.std.proofs.lemmas.Int.{to_z-of_z}
use Rattle.std.proofs.lemmas.List.{length-map, get_or-map}
use Rattle.grammar.specs.Meaning.{quantifier_word}
use Rattle.words.specs.declared.quantifier.Quantifier.{Quantifier}
use Rattle.words.specs.declared.quantifier.Quantifier.TheVariants.{Exists, ForAll}
use Rattle.words.specs.Quantifier.{over_all, quantifier_word as word_of}
use Rattle.text.specs.Prefix.{every_of}
use Rattle.text.proofs.Prefixes.{one_more_word}
use Rattle.text.proofs.Sheets.{same_words}
use Rattle.text.proofs.sentence.announce.Goals as goal

same_word : (q : Quantifier) → word_of q ≡ quantifier_word (over_all q)
same_word Exists = refl
same_word ForAll = refl

pub loop-bound-preserved : goal.loop-bound-preserved
loop-bound-preserved c held =
    let quantifiers = take c.args.prefix.count c.args.prefix.quantifiers in
    let i = c.loop-bound.bound-index in
    let within : i < length (map every_of quantifiers) = omega (arith, c.loop-bound-test.true, length-map quantifiers every_of) in
    let every_is : every_of (get_or quantifiers i (record { quantifier = Exists; name = record { letters = []; length = 0 } })) ≡ get_or (map every_of quantifiers) i false = sym (get_or-map every_of quantifiers i _ false c.loop-bound-test.true) in
    same_words _ _ _
    (ap (λ u. pos c.args.prefix.count ∷ (map quantifier_word (take i (map every_of quantifiers)) ++ (u ∷ []))) (to_z-of_z w64 c.from.result (record { sfits = c.from.type_inv }) ∙ c.from.ensures.0 ∙ same_word _ ∙ ap quantifier_word every_is) ∙
    ap (λ l. pos c.args.prefix.count ∷ l) (one_more_word (map every_of quantifiers) i within))
    (c.put-in-loop-bound.ensures (pos c.args.prefix.count ∷ map quantifier_word (take i (map every_of quantifiers))) (c.loop-bound.invariant held))

pub returns : goal.returns
returns c held =
    let quantifiers = take c.args.prefix.count c.args.prefix.quantifiers in
    let fits : SFits w64 (pos c.args.prefix.count) = search rules in
    let counted = same_words _ _ _ (ap (λ u. u ∷ []) (to_z-of_z w64 (pos c.args.prefix.count) fits)) (c.put.ensures [] held) in
    let all : length (map every_of quantifiers) ≤ c.loop-bound.bound-index = omega (arith, c.loop-bound-test.false, length-map quantifiers every_of) in
    same_words _ _ _ (ap (λ l. pos c.args.prefix.count ∷ map quantifier_word l) (take_all c.loop-bound.bound-index (map every_of quantifiers) all)) (c.loop-bound.invariant counted)
