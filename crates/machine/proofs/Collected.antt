-- The polynomials asked about only grow in number, and 13 of them give a sentence up. Assumes nothing.
use mathlib.Core.Path.{◌≡◌, refl, ap, sym, ◌∙◌}
use mathlib.Core.Bool.{Bool, true, false, cond}
use mathlib.Core.List.{List, [], ◌∷◌, ◌++◌, append_assoc}
use Prim.Native.Nat.{ℕ, ◌+◌, ◌≤◌}
use native.Mathlib.Omega.{arith}
use lib.ListN.{length, length-append}
use Rattle.field.specs.declared.sign.Sign.TheVariants.{Neg, Zero}
use Rattle.poly.specs.Poly.{Poly}
use Rattle.poly.specs.Leading.{leading}
use Rattle.sign_table.specs.Tree.{Tree, Yes, No, GivenUp, Ask}
use Rattle.decision.specs.Asked.{is_among, asked}
use Rattle.machine.specs.Machine.{Above, At, Below, Question, Open, State, Looking, Returning, assumed}
use Rattle.machine.specs.Counts.{phase_outline, noted, collected_in, collected_after}
use Rattle.machine.specs.Theorems.{Suffix}

suffix_refl : (ps : List Poly) → Suffix ps ps
suffix_refl ps = ([], refl)

suffix_trans : {ps qs rs : List Poly} → Suffix ps qs → Suffix qs rs → Suffix ps rs
suffix_trans {ps} {qs} {rs} h k = (k.0 ++ h.0, k.1 ∙ (ap (λ x. k.0 ++ x) h.1 ∙ sym (append_assoc k.0 h.0 ps)))

noted_grows : (v : ℕ) (p : Poly) (ps : List Poly) → Suffix ps (noted v p ps)
noted_grows v p ps = either (is_among v p ps)
  where
    either : (b : Bool) → Suffix ps (cond b ps (p ∷ ps))
    either true = suffix_refl ps
    either false = (p ∷ [], refl)

pub asked_grows : (v : ℕ) (t : Tree) (ps : List Poly) → Suffix ps (asked v t ps)
unfolding asked
asked_grows v Yes ps = suffix_refl ps
asked_grows v No ps = suffix_refl ps
asked_grows v GivenUp ps = suffix_refl ps
asked_grows v (Ask p a b c) ps =
    let cs = asked v c ps in
    let bs = asked v b cs in
    suffix_trans (asked_grows v c ps) (suffix_trans (asked_grows v b cs) (suffix_trans (asked_grows v a bs) (noted_grows v p (asked v a bs))))

collected_in_grows : (n : ℕ) (qs : List Question) (ps : List Poly) → Suffix ps (collected_in n qs ps)
unfolding collected_in
collected_in_grows n [] ps = suffix_refl ps
collected_in_grows n (Open p Above phase ∷ qs) ps =
    let at = asked n (phase_outline n (assumed n p Zero phase)) ps in
    let below = asked n (phase_outline n (assumed n p Neg phase)) at in
    suffix_trans (asked_grows n (phase_outline n (assumed n p Zero phase)) ps)
    (suffix_trans (asked_grows n (phase_outline n (assumed n p Neg phase)) at) (suffix_trans (noted_grows n (leading n p) below) (collected_in_grows n qs (noted n (leading n p) below))))
collected_in_grows n (Open p (At c) phase ∷ qs) ps =
    let below = asked n (phase_outline n (assumed n p Neg phase)) ps in
    suffix_trans (asked_grows n (phase_outline n (assumed n p Neg phase)) ps) (suffix_trans (noted_grows n (leading n p) below) (collected_in_grows n qs (noted n (leading n p) below)))
collected_in_grows n (Open p (Below b c) phase ∷ qs) ps = suffix_trans (noted_grows n (leading n p) ps) (collected_in_grows n qs (noted n (leading n p) ps))

pub collected_grows : (n : ℕ) (s : State) (ps : List Poly) → Suffix ps (collected_after n s ps)
collected_grows n (Looking phase qs) ps =
    let qs' = asked n (phase_outline n phase) ps in suffix_trans (asked_grows n (phase_outline n phase) ps) (collected_in_grows n qs qs')
collected_grows n (Returning t qs) ps = collected_in_grows n qs ps

pub suffix_longer : {ps qs : List Poly} → Suffix ps qs → length ps ≤ length qs
suffix_longer {ps} {qs} h = let e : length qs ≡ length h.0 + length ps = ap length h.1 ∙ length-append h.0 ps in omega arith
