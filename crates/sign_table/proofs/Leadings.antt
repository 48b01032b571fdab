-- Where the tree that settles leading coefficients says yes or no, it went on with what is left of the polynomials. Assumes nothing.
use mathlib.Core.Path.{◌≡◌, refl, sym, ◌∙◌, ap, ap₂}
use mathlib.Core.Bool.{true, false, cond, not}
use mathlib.Core.Logic.{inl, inr}
use mathlib.Core.List.{List, [], ◌∷◌}
use Prim.Native.Nat.{ℕ, zero, suc, ◌≤◌}
use native.Mathlib.Omega.{arith}
use lib.Dec.{T, eqb, eqb→eq}
use lib.ListN.{length}
use Rattle.field.specs.declared.sign.Sign.{Sign}
use Rattle.field.specs.declared.sign.Sign.TheVariants.{Neg, Zero, Pos}
use Rattle.field.specs.Field.{RealClosedField}
use Rattle.field.proofs.Order.{zero_sign}
use Rattle.poly.specs.Poly.{Poly, is_zero}
use Rattle.poly.specs.Leading.{leading, without_leading, degree}
use Rattle.poly.specs.Value.{value}
use Rattle.poly.proofs.Depth.{Depth-leading, Depth-without_leading}
use Rattle.poly.proofs.Values.{value_is_zero}
use Rattle.poly.proofs.Leading.{value_without_leading, value_degree_zero}
use Rattle.sign_table.specs.Tree.{Tree, GivenUp}
use Rattle.sign_table.specs.Facts.{Fact, ask}
use Rattle.sign_table.specs.Leadings.{Left, Plain, Real, left_of, headed, turned_round, leadings, reals, filled}
use Rattle.sign_table.specs.Table.{polys}
use Rattle.sign_table.specs.Meaning.{Says, YesOrNo, DepthAll, TrueFacts}
use Rattle.sign_table.specs.Right.{Member, signs_at, SomeRoot}
use Rattle.sign_table.proofs.Along.{on_test}
use Rattle.sign_table.proofs.Facts.{ask_says}
use Rattle.sign_table.proofs.Lefts.{Every}
use Rattle.sign_table.proofs.Headed.{HasLeading, HeadedReal}

pub not_given_up : (what : Tree) → YesOrNo what → what ≡ GivenUp → ⊥
not_given_up what (inl y) g = let z : ◌≡◌ {A = ℕ} 0 1 = cc in omega arith
not_given_up what (inr y) g = let z : ◌≡◌ {A = ℕ} 0 1 = cc in omega arith

degree_positive : (m : ℕ) → T (not (eqb m 0)) → 1 ≤ m
degree_positive zero t = absurd t
degree_positive (suc m) t = omega arith

module _ {R : Type 0} (f : RealClosedField R) (e : List R) where
  open f use {zero as 𝟘, sign}

  -- l is what is left of p
  abbrev pub IsLeft : Poly → Left → Type 0
  IsLeft p (Plain s) = (x : R) → sign (value f p (x ∷ e)) ≡ s
  IsLeft p (Real q s) = HeadedReal f e (Real q s) × ((x : R) → value f p (x ∷ e) ≡ value f q (x ∷ e))

  abbrev pub AreLeft : List Poly → List Left → Type 0
  AreLeft [] [] = Unit {0}
  AreLeft [] (l ∷ ls) = ⊥
  AreLeft (p ∷ ps) [] = ⊥
  AreLeft (p ∷ ps) (l ∷ ls) = IsLeft p l × AreLeft ps ls

  -- what is left of a polynomial is left of another with the same values
  left_same : (p q : Poly) → ((x : R) → value f p (x ∷ e) ≡ value f q (x ∷ e)) → (l : Left) → IsLeft q l → IsLeft p l
  left_same p q h (Plain s) i = λ x. ap sign (h x) ∙ i x
  left_same p q h (Real r s) i = (i.0, λ x. h x ∙ i.1 x)

  left_of_lem : (p : Poly) (s : Sign) → HasLeading f e p s → IsLeft p (left_of p s)
  left_of_lem p s h =
      on_test (eqb (degree p) 0) (λ b. IsLeft p (cond b (Plain s) (Real p s)))
      (λ t. λ x. ap sign (value_degree_zero f (length e) e x p h.depth (eqb→eq (degree p) 0 t)) ∙ h.is)
      (λ t. ((h, degree_positive (degree p) t), λ x. refl))

  module _ (what : Tree) (yes_or_no : YesOrNo what) (k : List Left → List Fact → Tree) where
    -- it went on with what is left of ps, after ls
    abbrev Settled : List Poly → List Left → Type 0
    Settled ps ls = (ms : List Left) × (gs : List Fact) × AreLeft ps ms × TrueFacts f e gs × Says f what (k (turned_round ls ms) gs) e

    pub leadings-settled : (looks : ℕ) (ps : List Poly) (ls : List Left) (fs : List Fact) → DepthAll (suc (length e)) ps → TrueFacts f e fs →
        Says f what (leadings looks (length e) ps ls fs k) e → Settled ps ls
    unfolding leadings Says turned_round
    leadings-settled zero [] ls fs d t h = ([], fs, tt, t, h)
    leadings-settled zero (p ∷ ps) ls fs d t h = absurd (not_given_up what yes_or_no h)
    leadings-settled (suc looks) [] ls fs d t h = ([], fs, tt, t, h)
    leadings-settled (suc looks) (p ∷ ps) ls fs d t h =
        on_test (is_zero p)
        (λ b. Says f what (elim b [
          | true ↦ leadings looks n ps (Plain Zero ∷ ls) fs k
          | false ↦ ask n (leading n p) fs (λ s gs. headed p s ps ls (λ qs ms. leadings looks n qs ms gs k))
        ]) e → Settled (p ∷ ps) ls)
        (λ z says. next (Plain Zero) (λ x. zero_sign f (value f p (x ∷ e)) (value_is_zero f (x ∷ e) p z)) (leadings-settled looks ps (Plain Zero ∷ ls) fs d.1 t says))
        (λ z says.
        let (gs, t-gs, says') = ask_says f e what (leading n p) fs (λ s gs. headed p s ps ls (λ qs ms. leadings looks n qs ms gs k)) (Depth-leading n p d.0) t says in
        by_sign (sign (value f (leading n p) e)) refl gs (λ qs ms d-qs. leadings-settled looks qs ms gs d-qs t-gs) says')
        h
      where
        n : ℕ
        n = length e

        next : (l : Left) → IsLeft p l → Settled ps (l ∷ ls) → Settled (p ∷ ps) ls
        next l i (ms, gs, rest, t-gs, says) = (l ∷ ms, gs, (i, rest), t-gs, says)

        -- the leading coefficient is zero: what is left of p without it is left of p
        shorter : value f (leading n p) e ≡ 𝟘 → Settled (without_leading p ∷ ps) ls → Settled (p ∷ ps) ls
        shorter z ([], gs, rest, t-gs, says) = absurd rest
        shorter z (m ∷ ms, gs, rest, t-gs, says) =
            (m ∷ ms, gs, (left_same p (without_leading p) (λ x. value_without_leading f n e x p d.0 z) m rest.0, rest.1), t-gs, says)

        by_sign : (s : Sign) → sign (value f (leading n p) e) ≡ s → (gs : List Fact) →
            ((qs : List Poly) (ms : List Left) → DepthAll (suc n) qs → Says f what (leadings looks n qs ms gs k) e → Settled qs ms) →
            Says f what (headed p s ps ls (λ qs ms. leadings looks n qs ms gs k)) e → Settled (p ∷ ps) ls
        by_sign Neg s-is gs rec says = next (left_of p Neg) (left_of_lem p Neg (record { depth = d.0; not_zero = tt; is = s-is })) (rec ps (left_of p Neg ∷ ls) d.1 says)
        by_sign Zero s-is gs rec says = shorter (f.sign_zero (value f (leading n p) e) s-is) (rec (without_leading p ∷ ps) ls (Depth-without_leading n p d.0, d.1) says)
        by_sign Pos s-is gs rec says = next (left_of p Pos) (left_of_lem p Pos (record { depth = d.0; not_zero = tt; is = s-is })) (rec ps (left_of p Pos ∷ ls) d.1 says)

  pub reals-headed : (ps : List Poly) (ls : List Left) → AreLeft ps ls → Every (HeadedReal f e) (reals ls)
  unfolding reals
  reals-headed [] [] h = tt
  reals-headed [] (l ∷ ls) h = absurd h
  reals-headed (p ∷ ps) [] h = absurd h
  reals-headed (p ∷ ps) (Plain s ∷ ls) h = reals-headed ps ls h.1
  reals-headed (p ∷ ps) (Real q s ∷ ls) h = (h.0.0, reals-headed ps ls h.1)

  pub filled_signs : (ps : List Poly) (ls : List Left) → AreLeft ps ls → (x : R) → signs_at f ps (x ∷ e) ≡ filled ls (signs_at f (polys (reals ls)) (x ∷ e))
  unfolding reals filled
  filled_signs [] [] h x = refl
  filled_signs [] (l ∷ ls) h x = absurd h
  filled_signs (p ∷ ps) [] h x = absurd h
  filled_signs (p ∷ ps) (Plain s ∷ ls) h x = ap₂ {C = List Sign} (λ u v. u ∷ v) (h.0 x) (filled_signs ps ls h.1 x)
  filled_signs (p ∷ ps) (Real q s ∷ ls) h x = ap₂ {C = List Sign} (λ u v. u ∷ v) (ap sign (h.0.1 x)) (filled_signs ps ls h.1 x)

  -- a real one is left of some polynomial
  left_member : (ps : List Poly) (ls : List Left) → AreLeft ps ls → (q : Poly) → Member q (polys (reals ls)) →
      (p : Poly) × Member p ps × ((x : R) → value f p (x ∷ e) ≡ value f q (x ∷ e))
  unfolding reals
  left_member [] [] h q i = absurd i
  left_member [] (l ∷ ls) h q i = absurd h
  left_member (p ∷ ps) [] h q i = absurd h
  left_member (p ∷ ps) (Plain s ∷ ls) h q i = let (r, j, same) = left_member ps ls h.1 q i in (r, inr j, same)
  left_member (p ∷ ps) (Real r s ∷ ls) h q (inl i) = (p, inl refl, λ x. h.0.1 x ∙ ap (λ u. value f u (x ∷ e)) (sym i))
  left_member (p ∷ ps) (Real r s ∷ ls) h q (inr i) = let (t, j, same) = left_member ps ls h.1 q i in (t, inr j, same)

  pub left_root : (ps : List Poly) (ls : List Left) → AreLeft ps ls → (c : R) → SomeRoot f e (polys (reals ls)) c → SomeRoot f e ps c
  left_root ps ls h c (q, i, root, (x, apart)) =
      let (p, j, same) = left_member ps ls h q i in
      (p, j, same c ∙ root, (x, λ z. apart (sym (same x) ∙ z)))
