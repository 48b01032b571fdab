-- Outcomes, one upon another. Assumes nothing.
use mathlib.Core.Path.{◌≡◌, refl, ap, fun_ext}
use mathlib.Core.Bool.{Bool, true, false}
use Rattle.stream.specs.Stage.{Outcome, Gap, Went, upon, went_if}

pub upon_went : {A : Type 0} (r : Outcome A) → upon r (λ a. Went a) ≡ r
upon_went Gap = refl
upon_went (Went a) = refl

pub upon-upon : {A B C : Type 0} (r : Outcome A) (j : A → Outcome B) (k : B → Outcome C) → upon (upon r j) k ≡ upon r (λ a. upon (j a) k)
upon-upon Gap j k = refl
upon-upon (Went a) j k = refl

pub upon_if : {A B : Type 0} (b : Bool) (a : A) (j : A → B) → upon (went_if b a) (λ x. Went (j x)) ≡ went_if b (j a)
upon_if true a j = refl
upon_if false a j = refl

pub upon-same : {A B : Type 0} (r : Outcome A) {j k : A → Outcome B} → ((a : A) → j a ≡ k a) → upon r j ≡ upon r k
upon-same r h = ap (upon r) (fun_ext h)

pub upon_swap : {A B C : Type 0} (r : Outcome A) (q : Outcome B) (k : A → B → Outcome C) → upon r (λ a. upon q (k a)) ≡ upon q (λ b. upon r (λ a. k a b))
upon_swap Gap Gap k = refl
upon_swap Gap (Went b) k = refl
upon_swap (Went a) Gap k = refl
upon_swap (Went a) (Went b) k = refl
