-- A term evaluated part by part.
use Rattle.std.proofs.Common.{◌≡◌, ℕ, ◌+◌, ◌≤◌, true, List, ℤ, is_err, Some, None, Ok, Err, Option, Result, sym, refl, ap, ◌∙◌, subst, arith}
use Rattle.field.specs.Sentence.{Term}
use Rattle.poly.specs.Modest.{Checked, TooBig, Fine, term_poly}
use Rattle.words.specs.declared.reader.NotASentence.{NotASentence}
use Rattle.words.specs.Reading.{Reading, Refused, Read, then, two}
use Rattle.sentence_tree.specs.Placed.{Placed}
use Rattle.sentence_tree.specs.Evaluated.{Evaluates}

pub two-read : {A B : Type 0} (make : A → A → B) (go : List ℤ → Reading A) (zs rest more : List ℤ) (a b : A) → go zs ≡ Read a rest → go rest ≡ Read b more → two make go zs ≡ Read (make a b) more
two-read make go zs rest more a b e f =
    ap (λ m. then m (λ x ys. then (go ys) (λ y zs. Read (make x y) zs))) e ∙ ap (λ m. then m (λ y zs. Read (make a y) zs)) f

-- at most 64 numbers
pub placed_few : (n : ℕ) (x : Checked) (r : Option ℕ) (top : ℕ) (cells : List ℤ) (top' : ℕ) (cells' : List ℤ) → Placed n x r top cells top' cells' → top' ≤ top + 64
placed_few n TooBig None top cells top' cells' s = omega (arith, s.same_top)
placed_few n TooBig (Some c) top cells top' cells' s = absurd s
placed_few n (Fine p) None top cells top' cells' s = absurd s
placed_few n (Fine p) (Some c) top cells top' cells' s = omega (arith, s.grown.higher, s.good.short)

module _ (n : ℕ) (m : Reading Term) (after : List ℤ) (top : ℕ) (cells : List ℤ) (top' : ℕ) (cells' : List ℤ) where
  -- a term was read
  pub evaluated_ok : (o : Option ℕ) → Evaluates {E = NotASentence} n m (Ok o) after top cells top' cells' →
      (t : Term) × (m ≡ Read t after) × Placed n (term_poly n t) o top cells top' cells'
  evaluated_ok o h = read m refl h
    where
      read : (k : Reading Term) → m ≡ k → Evaluates {E = NotASentence} n k (Ok o) after top cells top' cells' → (t : Term) × (m ≡ Read t after) × Placed n (term_poly n t) o top cells top' cells'
      read Refused e h = absurd h
      read (Read t more) e h = (t, e ∙ ap (Read t) (sym h.0), h.1)

  pub evaluated_err : (x : NotASentence) → Evaluates n m (Err x) after top cells top' cells' → m ≡ Refused
  evaluated_err x h = read m refl h
    where
      read : (k : Reading Term) → m ≡ k → Evaluates n k (Err x) after top cells top' cells' → m ≡ Refused
      read Refused e h = e
      read (Read t more) e h = absurd h

  pub evaluates_refused : m ≡ Refused → (r : Result (Option ℕ) NotASentence) → is_err r ≡ true → Evaluates n m r after top cells top' cells'
  evaluates_refused e r h = subst (λ k. Evaluates n k r after top cells top' cells') (sym e) (refused r h)
    where
      refused : (r : Result (Option ℕ) NotASentence) → is_err r ≡ true → Evaluates n Refused r after top cells top' cells'
      refused (Ok o) h = let z : ◌≡◌ {A = ℕ} 0 1 = cc in absurd (omega arith)
      refused (Err x) h = tt

  pub evaluates_read : (t : Term) (o : Option ℕ) → m ≡ Read t after → Placed n (term_poly n t) o top cells top' cells' → Evaluates {E = NotASentence} n m (Ok o) after top cells top' cells'
  evaluates_read t o e p =
      subst (λ k. Evaluates {E = NotASentence} n k (Ok o) after top cells top' cells') (sym e) (refl, p, placed_few n (term_poly n t) o top cells top' cells' p)
