-- The reserved words, one by one.
use Rattle.std.proofs.Common.{◌≡◌, ℕ, Bool, true, false, ◌||◌, List, sym, refl, ◌∙◌, ap₂}
use Rattle.std.specs.Str.{bytes_eq}
use Rattle.std.proofs.lemmas.Bool.Decides.{same_from_decides, Decides-like}
use Rattle.std.proofs.lemmas.Slice.Eq.{bytes_eq-Decides}
use Rattle.text.proofs.term.is_reserved.Goals as goal

bytes_eq-swap : (xs ys : List ℕ) → bytes_eq xs ys ≡ bytes_eq ys xs
bytes_eq-swap xs ys = same_from_decides _ _ (bytes_eq-Decides xs ys) (Decides-like _ sym sym (bytes_eq-Decides ys xs))

or-false : (b : Bool) → (b || false) ≡ b
or-false true = refl
or-false false = refl

pub returns : goal.returns
returns c =
    let w = c.args.word.letters in
    c.contains.ensures.value ∙
    ap₂ (λ a b. a || b) (bytes_eq-swap _ w) (ap₂ (λ a b. a || b) (bytes_eq-swap _ w) (ap₂ (λ a b. a || b) (bytes_eq-swap _ w) (ap₂ (λ a b. a || b) (bytes_eq-swap _ w) (or-false _ ∙ bytes_eq-swap _ w))))
