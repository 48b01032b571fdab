-- A formula's tree: where it says yes or no, it does so by the formula being satisfied there or not. Assumes nothing.
use Rattle.std.proofs.Common.{◌≡◌, ℕ, Bool, true, false, cond, ◌⊎◌, List, length, sym, refl, subst, inl, inr, ⊎_elim, arith}
use Rattle.field.specs.declared.sign.Sign.{Sign}
use Rattle.field.specs.declared.sign.Sign.TheVariants.{Neg, Zero, Pos}
use Rattle.field.specs.Field.{RealClosedField}
use Rattle.field.specs.Sentence.{Term, Var, Num, Sum, Product, Formula, BelowZero, EqualsZero, Not, And, Or, term_value, Satisfies}
use Rattle.poly.specs.Poly.{Poly}
use Rattle.poly.specs.Arithmetic.{constant, variable, sum, product}
use Rattle.poly.specs.Modest.{modest, Checked, TooBig, Fine, checked, on_both, term_poly}
use Rattle.poly.specs.Value.{Depth}
use Rattle.poly.proofs.Depth.{Depth-constant, Depth-variable, Depth-sum, Depth-product}
use Rattle.poly.proofs.Terms.{value_term}
use Rattle.sign_table.specs.Tree.{Tree, Yes, No, by_sign}
use Rattle.sign_table.specs.Meaning.{Says, YesOrNo, DepthTree}
use Rattle.decision.specs.FormulaTree.{asks, formula_tree}
use Rattle.decision.specs.Theorems.{TreeRight}
use Rattle.decision.proofs.AskNothing.{given_up_refused, yes_not_no}

-- a checked polynomial, if there is one, has just n variables
abbrev DepthChecked : ℕ → Checked → Type 0
DepthChecked n TooBig = Unit {0}
DepthChecked n (Fine p) = Depth n p

Depth-checked : (n : ℕ) (p : Poly) → Depth n p → DepthChecked n (checked n p)
Depth-checked n p d = fine (modest n p)
  where
    fine : (b : Bool) → DepthChecked n (cond b (Fine p) TooBig)
    fine true = d
    fine false = tt

Depth-on_both : (n : ℕ) (g : Poly → Poly → Checked) → ((p q : Poly) → Depth n p → Depth n q → DepthChecked n (g p q)) →
    (a b : Checked) → DepthChecked n a → DepthChecked n b → DepthChecked n (on_both g a b)
Depth-on_both n g h TooBig b da db = tt
Depth-on_both n g h (Fine p) TooBig da db = tt
Depth-on_both n g h (Fine p) (Fine q) da db = h p q da db

Depth-term_poly : (n : ℕ) (t : Term) → DepthChecked n (term_poly n t)
unfolding term_poly
Depth-term_poly n (Var i) = Depth-checked n (variable n i) (Depth-variable n i)
Depth-term_poly n (Num z) = Depth-checked n (constant n z) (Depth-constant n z)
Depth-term_poly n (Sum s t) =
    Depth-on_both n (λ p q. checked n (sum n p q)) (λ p q dp dq. Depth-checked n (sum n p q) (Depth-sum n p q dp dq))
    (term_poly n s) (term_poly n t) (Depth-term_poly n s) (Depth-term_poly n t)
Depth-term_poly n (Product s t) =
    Depth-on_both n (λ p q. checked n (product n p q)) (λ p q dp dq. Depth-checked n (product n p q) (Depth-product n p q dp dq))
    (term_poly n s) (term_poly n t) (Depth-term_poly n s) (Depth-term_poly n t)

Depth-asks : (n : ℕ) (k : Checked) (a b c : Tree) → DepthChecked n k → DepthTree n a → DepthTree n b → DepthTree n c → DepthTree n (asks k a b c)
unfolding DepthTree
Depth-asks n TooBig a b c d da db dc = tt
Depth-asks n (Fine p) a b c d da db dc = (d, da, db, dc)

pub Depth-formula_tree : (n : ℕ) (p : Formula) (y o : Tree) → DepthTree n y → DepthTree n o → DepthTree n (formula_tree n p y o)
unfolding formula_tree
Depth-formula_tree n (BelowZero t) y o dy do' = Depth-asks n (term_poly n t) y o o (Depth-term_poly n t) dy do' do'
Depth-formula_tree n (EqualsZero t) y o dy do' = Depth-asks n (term_poly n t) o y o (Depth-term_poly n t) do' dy do'
Depth-formula_tree n (Not p) y o dy do' = Depth-formula_tree n p o y do' dy
Depth-formula_tree n (And p q) y o dy do' = Depth-formula_tree n p (formula_tree n q y o) o (Depth-formula_tree n q y o dy do') do'
Depth-formula_tree n (Or p q) y o dy do' = Depth-formula_tree n p y (formula_tree n q y o) dy (Depth-formula_tree n q y o dy do')

-- H is so, and Y; or H isn't, and O
abbrev pub Follows : Type 0 → Type 0 → Type 0 → Type 0
Follows H Y O = (H × Y) ⊎ ((H → ⊥) × O)

follows_not : {H Y O : Type 0} → Follows H O Y → Follows (H → ⊥) Y O
follows_not (inl h) = inr ((λ n. n h.0), h.1)
follows_not (inr h) = inl h

follows_and : {P Q M Y O : Type 0} → Follows P M O → (M → Follows Q Y O) → Follows (P × Q) Y O
follows_and (inl h) k = second h.0 (k h.1)
  where
    second : {P Q Y O : Type 0} → P → Follows Q Y O → Follows (P × Q) Y O
    second p (inl g) = inl ((p, g.0), g.1)
    second p (inr g) = inr ((λ b. g.0 b.1), g.1)
follows_and (inr h) k = inr ((λ b. h.0 b.0), h.1)

follows_or : {P Q M Y O : Type 0} → Follows P Y M → (M → Follows Q Y O) → Follows (P ⊎ Q) Y O
follows_or (inl h) k = inl (inl h.0, h.1)
follows_or (inr h) k = second h.0 (k h.1)
  where
    second : {P Q Y O : Type 0} → (P → ⊥) → Follows Q Y O → Follows (P ⊎ Q) Y O
    second p (inl g) = inl (inr g.0, g.1)
    second p (inr g) = inr (⊎_elim p g.0, g.1)

follows_below : (s : Sign) (Y O : Type 0) → by_sign s Y O O → Follows (s ≡ Neg) Y O
follows_below Neg Y O h = inl (refl, h)
follows_below Zero Y O h = inr ((λ q. let z : ◌≡◌ {A = ℕ} 0 1 = cc in omega arith), h)
follows_below Pos Y O h = inr ((λ q. let z : ◌≡◌ {A = ℕ} 0 1 = cc in omega arith), h)

follows_zero : (s : Sign) (Y O : Type 0) → by_sign s O Y O → Follows (s ≡ Zero) Y O
follows_zero Neg Y O h = inr ((λ q. let z : ◌≡◌ {A = ℕ} 0 1 = cc in omega arith), h)
follows_zero Zero Y O h = inl (refl, h)
follows_zero Pos Y O h = inr ((λ q. let z : ◌≡◌ {A = ℕ} 0 1 = cc in omega arith), h)

module _ {R : Type 0} (f : RealClosedField R) (e : List R) (what : Tree) (definite : YesOrNo what) where
  -- a question about a term follows the sign of its value
  by_term : (t : Term) (a b c : Tree) (k : Checked) → term_poly (length e) t ≡ k → Says f what (asks k a b c) e →
      by_sign (f.sign (term_value f e t)) (Says f what a e) (Says f what b e) (Says f what c e)
  unfolding Says
  by_term t a b c TooBig h s = given_up_refused definite s
  by_term t a b c (Fine p) h s = subst (λ v. by_sign (f.sign v) (Says f what a e) (Says f what b e) (Says f what c e)) (value_term f e t p h).1 s

  pub follows : (p : Formula) (y o : Tree) → Says f what (formula_tree (length e) p y o) e → Follows (Satisfies f e p) (Says f what y e) (Says f what o e)
  unfolding formula_tree Satisfies
  follows (BelowZero t) y o s = follows_below (f.sign (term_value f e t)) (Says f what y e) (Says f what o e) (by_term t y o o (term_poly (length e) t) refl s)
  follows (EqualsZero t) y o s = follows_zero (f.sign (term_value f e t)) (Says f what y e) (Says f what o e) (by_term t o y o (term_poly (length e) t) refl s)
  follows (Not p) y o s = follows_not (follows p o y s)
  follows (And p q) y o s = follows_and (follows p (formula_tree (length e) q y o) o s) (follows q y o)
  follows (Or p q) y o s = follows_or (follows p y (formula_tree (length e) q y o) s) (follows q y o)

pub tree_right : {R : Type 0} (f : RealClosedField R) → TreeRight f
unfolding Says
tree_right f =
    record {
      tree_yes = λ p e s. ⊎_elim (λ h. h.0) (λ h. yes_not_no h.1) (follows f e Yes (inl refl) p Yes No s);
      tree_no = λ p e s. ⊎_elim (λ h. yes_not_no (sym h.1)) (λ h. h.0) (follows f e No (inr refl) p Yes No s);
    }
