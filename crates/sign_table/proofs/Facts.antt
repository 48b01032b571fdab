-- Facts that are true give known signs that are right, and a question goes on with the right sign. Assumes nothing.
use mathlib.Core.Path.{◌≡◌, refl, sym, ◌∙◌, ap, subst}
use mathlib.Core.Bool.{true, false}
use mathlib.Core.List.{List, [], ◌∷◌}
use Prim.Native.Nat.{suc}
use lib.ListN.{length}
use Rattle.field.specs.declared.sign.Sign.{Sign}
use Rattle.field.specs.declared.sign.Sign.TheVariants.{Neg, Zero, Pos}
use Rattle.field.specs.Sign.{flip}
use Rattle.field.specs.Field.{RealClosedField}
use Rattle.field.proofs.Signs.{flip-flip}
use Rattle.field.proofs.Order.{zero_sign}
use Rattle.poly.specs.Poly.{Poly, is_zero}
use Rattle.poly.specs.Arithmetic.{negative, same}
use Rattle.poly.specs.Value.{value, Depth}
use Rattle.poly.proofs.Values.{value_is_zero}
use Rattle.poly.proofs.Equality.{value_same, value_same_negative, sign_number}
use Rattle.sign_table.specs.Tree.{Tree, by_sign}
use Rattle.sign_table.specs.Facts.{Fact, Known, Unknown, Is, among, known, ask_known, ask}
use Rattle.sign_table.specs.Meaning.{Says, TrueFacts}
use Rattle.sign_table.proofs.Along.{on_test}

-- if it is known, it is s
abbrev pub Agrees : Known → Sign → Type 0
Agrees Unknown s = Unit {0}
Agrees (Is t) s = s ≡ t

module _ {R : Type 0} (f : RealClosedField R) where
  open f use {sign}

  among_agrees : (e : List R) (p : Poly) (fs : List Fact) → Depth (length e) p → TrueFacts f e fs → Agrees (among (length e) p fs) (sign (value f p e))
  unfolding among
  among_agrees e p [] d t = tt
  among_agrees e p (h ∷ hs) d t =
      let n = length e in
      let rec : Agrees (among n p hs) (sign (value f p e)) = among_agrees e p hs d t.2 in
      on_test (same n p h.poly)
      (λ b. Agrees (elim b [ true ↦ Is h.sign | false ↦ elim (same n (negative n p) h.poly) [ true ↦ Is (flip h.sign) | false ↦ among n p hs ] ]) (sign (value f p e)))
      (λ s. ap sign (value_same f e p h.poly d t.0 s) ∙ t.1)
      (λ _. on_test (same n (negative n p) h.poly)
      (λ b. Agrees (elim b [ true ↦ Is (flip h.sign) | false ↦ among n p hs ]) (sign (value f p e)))
      (λ s.
      let opposite : h.sign ≡ flip (sign (value f p e)) = sym t.1 ∙ ap sign (value_same_negative f e p h.poly d t.0 s) ∙ f.sign_neg (value f p e) in
      sym (ap flip opposite ∙ flip-flip (sign (value f p e)))) (λ _. rec))

  known_agrees : (e : List R) (p : Poly) (fs : List Fact) → Depth (length e) p → TrueFacts f e fs → Agrees (known (length e) p fs) (sign (value f p e))
  known_agrees [] p fs d t = sign_number f p d
  known_agrees (x ∷ e) p fs d t =
      on_test (is_zero p) (λ b. Agrees (elim b [ true ↦ Is Zero | false ↦ among (suc (length e)) p fs ]) (sign (value f p (x ∷ e))))
      (λ z. zero_sign f (value f p (x ∷ e)) (value_is_zero f (x ∷ e) p z)) (λ _. among_agrees (x ∷ e) p fs d t)

  -- what goes on with the sign of p goes on with the right one
  abbrev pub GoesOn : List R → Tree → Poly → (Sign → List Fact → Tree) → Type 0
  GoesOn e what p k = (gs : List Fact) × TrueFacts f e gs × Says f what (k (sign (value f p e)) gs) e

  pub ask_says : (e : List R) (what : Tree) (p : Poly) (fs : List Fact) (k : Sign → List Fact → Tree) → Depth (length e) p → TrueFacts f e fs →
      Says f what (ask (length e) p fs k) e → GoesOn e what p k
  unfolding Says
  ask_says e what p fs k d t = go (known (length e) p fs) (known_agrees e p fs d t)
    where
      asked : (s : Sign) → sign (value f p e) ≡ s →
          by_sign s (Says f what (k Neg (record { poly = p; sign = Neg } ∷ fs)) e) (Says f what (k Zero (record { poly = p; sign = Zero } ∷ fs)) e)
          (Says f what (k Pos (record { poly = p; sign = Pos } ∷ fs)) e) → GoesOn e what p k
      asked Neg s-is h = (record { poly = p; sign = Neg } ∷ fs, (d, s-is, t), subst (λ s. Says f what (k s (record { poly = p; sign = Neg } ∷ fs)) e) (sym s-is) h)
      asked Zero s-is h = (record { poly = p; sign = Zero } ∷ fs, (d, s-is, t), subst (λ s. Says f what (k s (record { poly = p; sign = Zero } ∷ fs)) e) (sym s-is) h)
      asked Pos s-is h = (record { poly = p; sign = Pos } ∷ fs, (d, s-is, t), subst (λ s. Says f what (k s (record { poly = p; sign = Pos } ∷ fs)) e) (sym s-is) h)

      go : (b : Known) → Agrees b (sign (value f p e)) → Says f what (ask_known b p fs k) e → GoesOn e what p k
      go (Is s) s-is h = (fs, t, subst (λ u. Says f what (k u fs) e) (sym s-is) h)
      go Unknown _ h = asked (sign (value f p e)) refl h
