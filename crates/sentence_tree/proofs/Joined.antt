-- Operands read where they lie, and what is stored in their place.
use Rattle.std.proofs.Common.{◌≡◌, ℕ, ◌+◌, ◌≤◌, min, ◌⊎◌, List, [], ◌++◌, length, take, drop, ℤ, Some, None, Option, sym, refl, ap, ◌∙◌, subst, ap₂, inl, inr, append_assoc, append-nil, arith, length-append, take-append-drop, length-take, take-take}
use lib.Seq.{take-append-le, take-append_seam, drop-append_seam}
use Rattle.field.specs.Sentence.{Term}
use Rattle.poly.specs.Poly.{Poly}
use Rattle.poly.specs.Modest.{Checked, TooBig, Fine, checked, on_both, term_poly}
use Rattle.terms.specs.Monomial.{Monomial}
use Rattle.terms.specs.Cells.{monomials_of}
use Rattle.arena.specs.Growth.{Grown}
use Rattle.packed.specs.Stored.{Stored}
use Rattle.storage.specs.Spans.{cells_at, terms_at, Holds}
use Rattle.storage.specs.Denoting.{Denotes, Checks}
use Rattle.storage.proofs.Denoting.{denoting_laws}
use Rattle.sentence_tree.specs.Placed.{Stays, Standing, Placed, Places}
use Rattle.sentence_tree.specs.declared.operation.Operands.{Operands}
use Rattle.sentence_tree.specs.declared.operation.Operation.{Operation}
use Rattle.sentence_tree.specs.declared.operation.Operation.TheVariants.{Sum, Product}
use Rattle.sentence_tree.specs.Operations.{combined, combined_lists, combined_term}
use Rattle.sentence_tree.specs.Operands.{span, BothHeld, Ready, Joins}

-- what stands from a mark on
pub part_of : (mark top : ℕ) (cells front new more : List ℤ) → take top cells ≡ front ++ (new ++ more) → length front ≡ mark → take (length new) (drop mark cells) ≡ new
part_of mark top cells front new more e f =
    let rest = more ++ drop top cells in
    let whole : cells ≡ front ++ (new ++ rest) =
    sym (take-append-drop top cells) ∙ ap (λ u. u ++ drop top cells) e ∙ append_assoc front (new ++ more) (drop top cells) ∙ ap (λ u. front ++ u) (append_assoc new more (drop top cells)) in
    ap₂ (λ m u. take (length new) (drop m u)) (sym f) whole ∙ ap (take (length new)) (drop-append_seam front (new ++ rest)) ∙ take-append_seam new rest

-- nothing below the mark has changed
module _ (n mark : ℕ) (base cells : List ℤ) (below : take mark cells ≡ take mark base) (long : length cells ≡ length base) where
  pub placed_from : (x : Checked) (r : Option ℕ) (top' : ℕ) (cells' : List ℤ) → Placed n x r mark cells top' cells' → Placed n x r mark base top' cells'
  placed_from TooBig None top' cells' h = record { same_top = h.same_top; below = h.below ∙ below; long = h.long ∙ long }
  placed_from TooBig (Some c) top' cells' h = h
  placed_from (Fine p) None top' cells' h = h
  placed_from (Fine p) (Some c) top' cells' h = record {
    numbers = h.numbers;
    counted = h.counted;
    good = h.good;
    denotes = h.denotes;
    grown = record { stands = h.grown.stands ∙ ap (λ front. front ++ h.numbers) below; higher = h.grown.higher; long = h.grown.long ∙ long };
  }

-- what stood below a place still does
below-grown : (top : ℕ) (cells : List ℤ) (top' : ℕ) (cells' new : List ℤ) → Grown new top cells top' cells' → top ≤ length cells → take top cells' ≡ take top cells
below-grown top cells top' cells' new g h =
    let higher = g.higher in
    let l : top ≤ top' = omega arith in
    let short : top ≤ length (take top cells) = simp length-take (omega arith) in
    sym (take-take top top' cells' l) ∙ ap (take top) g.stands ∙ take-append-le top (take top cells) new short ∙ take-take top top cells (omega arith)

-- two operands, one behind the other
module _ (n : ℕ) (p q : Poly) (l r mark : ℕ) (base : List ℤ) (middle : ℕ) (between : List ℤ) (top : ℕ) (cells : List ℤ) (fits : mark ≤ length base)
    (x : Standing n p l mark base middle between) (y : Standing n q r middle between top cells) where
  front_long : length (take mark base) ≡ mark
  front_long = length-take mark base ∙ omega arith

  both : take top cells ≡ take mark base ++ (x.numbers ++ y.numbers)
  both = y.grown.stands ∙ ap (λ u. u ++ y.numbers) x.grown.stands ∙ append_assoc (take mark base) x.numbers y.numbers

  pub left_at : cells_at (span mark l) cells ≡ x.numbers
  left_at = ap (λ k. take k (drop mark cells)) x.counted ∙ part_of mark top cells (take mark base) x.numbers y.numbers both front_long

  pub right_at : cells_at (span (mark + l) r) cells ≡ y.numbers
  right_at =
      let long : length (take middle between) ≡ mark + l = ap length x.grown.stands ∙ length-append (take mark base) x.numbers ∙ ap₂ ◌+◌ front_long (sym x.counted) in
      ap (λ k. take k (drop (mark + l) cells)) y.counted ∙
      part_of (mark + l) top cells (take middle between) y.numbers [] (y.grown.stands ∙ ap (λ u. take middle between ++ u) (sym (append-nil y.numbers))) long

  pub left_held : Holds (span mark l) top cells
  left_held =
      let a = x.grown.higher in
      let b = y.grown.higher in
      let c = x.counted in
      record { below = omega arith; good = subst Stored (sym left_at) x.good }

  pub right_held : Holds (span (mark + l) r) top cells
  right_held =
      let a = x.grown.higher in
      let b = y.grown.higher in
      let c = x.counted in
      let d = y.counted in
      record { below = omega arith; good = subst Stored (sym right_at) y.good }

-- below the mark all is as it was, whether something was stored or not
placed_below : (n : ℕ) (x : Checked) (r : Option ℕ) (top : ℕ) (cells : List ℤ) (top' : ℕ) (cells' : List ℤ) → top ≤ length cells → Placed n x r top cells top' cells' →
    (take top cells' ≡ take top cells) × (length cells' ≡ length cells) × (top ≤ top') × (top' ≤ length cells')
placed_below n TooBig None top cells top' cells' h s = let a = s.same_top in let b = s.long in (s.below, s.long, omega arith, omega arith)
placed_below n TooBig (Some c) top cells top' cells' h s = absurd s
placed_below n (Fine p) None top cells top' cells' h s = absurd s
placed_below n (Fine p) (Some c) top cells top' cells' h s =
    let g = s.grown in
    let a = g.higher in
    let within : top' ≤ length cells' = top_within in
    (below-grown top cells top' cells' s.numbers g h, g.long, omega arith, within)
  where
    top_within : top' ≤ length cells'
    top_within =
        let g = s.grown in
        let e : length (take top' cells') ≡ length (take top cells ++ s.numbers) = ap length g.stands in
        let f : length (take top' cells') ≡ min top' (length cells') = length-take top' cells' in
        let k : length (take top cells ++ s.numbers) ≡ length (take top cells) + length s.numbers = length-append (take top cells) s.numbers in
        let j : length (take top cells) ≡ min top (length cells) = length-take top cells in
        let i = g.higher in omega arith

placed_long : (n : ℕ) (x : Checked) (r : Option ℕ) (top : ℕ) (cells : List ℤ) (top' : ℕ) (cells' : List ℤ) → Placed n x r top cells top' cells' → length cells' ≡ length cells
placed_long n TooBig None top cells top' cells' s = s.long
placed_long n TooBig (Some c) top cells top' cells' s = absurd s
placed_long n (Fine p) None top cells top' cells' s = absurd s
placed_long n (Fine p) (Some c) top cells top' cells' s = s.grown.long

-- both operands leave what stood below the mark
two-below : (n : ℕ) (x y : Checked) (l r : Option ℕ) (mark : ℕ) (base : List ℤ) (middle : ℕ) (between : List ℤ) (top : ℕ) (cells : List ℤ) → mark ≤ length base →
    Placed n x l mark base middle between → Placed n y r middle between top cells →
    (take mark cells ≡ take mark base) × (length cells ≡ length base) × (mark ≤ top) × (top ≤ length cells)
two-below n x y l r mark base middle between top cells h px py =
    let a = placed_below n x l mark base middle between h px in
    let b = placed_below n y r middle between top cells a.3 py in
    let further : mark ≤ middle = a.2 in
    (sym (take-take mark middle cells further) ∙ ap (take mark) b.0 ∙ take-take mark middle between further ∙ a.0, b.1 ∙ a.1, omega (arith, b.2), b.3)

pub ready : (n : ℕ) (x y : Checked) (o : Operands) (base : List ℤ) (middle : ℕ) (between : List ℤ) (top : ℕ) (cells : List ℤ) → o.mark + 64 ≤ length base →
    Placed n x o.left o.mark base middle between → Placed n y o.right middle between top cells → Ready o top cells
ready n x y o base middle between top cells room px py =
    let within : o.mark ≤ length base = omega arith in
    let b = two-below n x y o.left o.right o.mark base middle between top cells within px py in
    record { behind = b.2; room = omega (arith, b.1); held = held x y o.left o.right within px py }
  where
    held : (x y : Checked) (l r : Option ℕ) → o.mark ≤ length base → Placed n x l o.mark base middle between → Placed n y r middle between top cells → BothHeld o.mark l r top cells
    held x y None r w px py = tt
    held x y (Some l) None w px py = tt
    held TooBig y (Some l) (Some r) w px py = absurd px
    held (Fine p) TooBig (Some l) (Some r) w px py = absurd py
    held (Fine p) (Fine q) (Some l) (Some r) w px py =
        (left_held n p q l r o.mark base middle between top cells w px py, right_held n p q l r o.mark base middle between top cells w px py)

-- a combination of two lists that is one of polynomials
abbrev pub Combines : (List Monomial → List Monomial → List Monomial) → (ℕ → Poly → Poly → Poly) → Type 0
Combines join op = (n : ℕ) (ts us : List Monomial) (p q : Poly) → n ≤ 4 → Denotes n ts p → Denotes n us q → Checks n (join ts us) (op n p q)

module _ (join : List Monomial → List Monomial → List Monomial) (op : ℕ → Poly → Poly → Poly) (combines : Combines join op) (o : Operands) (top : ℕ) (cells : List ℤ) (fits : o.mark ≤ length cells) where
  pub joins_both : (l r : ℕ) → o.left ≡ Some l → o.right ≡ Some r → (res : Option ℕ) (top' : ℕ) (cells' : List ℤ) →
      Places (join (terms_at (span o.mark l) cells) (terms_at (span (o.mark + l) r) cells)) res o.mark cells top' cells' → Joins op o res top cells top' cells'
  joins_both l r el er res top' cells' places n x y base middle between few px py =
      go x y (subst (λ u. Placed n x u o.mark base middle between) el px) (subst (λ u. Placed n y u middle between top cells) er py)
    where
      go : (x y : Checked) → Placed n x (Some l) o.mark base middle between → Placed n y (Some r) middle between top cells →
          Placed n (on_both (λ p q. checked n (op n p q)) x y) res o.mark base top' cells'
      go TooBig y px py = absurd px
      go (Fine p) TooBig px py = absurd py
      go (Fine p) (Fine q) px py =
          let w : o.mark ≤ length base = omega (arith, px.grown.long, py.grown.long) in
          let b = two-below n (Fine p) (Fine q) (Some l) (Some r) o.mark base middle between top cells w px py in
          let dp : Denotes n (terms_at (span o.mark l) cells) p = subst (λ zs. Denotes n (monomials_of zs) p) (sym (left_at n p q l r o.mark base middle between top cells w px py)) px.denotes in
          let dq : Denotes n (terms_at (span (o.mark + l) r) cells) q = subst (λ zs. Denotes n (monomials_of zs) q) (sym (right_at n p q l r o.mark base middle between top cells w px py)) py.denotes in
          placed_from n o.mark base cells b.0 b.1 (checked n (op n p q)) res top' cells' (places n (op n p q) (combines n _ _ p q few dp dq))

  pub joins_none : (o.left ≡ None) ⊎ (o.right ≡ None) → Joins op o None top cells o.mark cells
  joins_none none n x y base middle between few px py =
      let long : length cells ≡ length base = placed_long n y o.right middle between top cells py ∙ placed_long n x o.left o.mark base middle between px in
      let w : o.mark ≤ length base = omega arith in
      let b = two-below n x y o.left o.right o.mark base middle between top cells w px py in
      nothing none x y px py (record { same_top = refl; below = b.0; long = b.1 })
    where
      nothing : (o.left ≡ None) ⊎ (o.right ≡ None) → (x y : Checked) → Placed n x o.left o.mark base middle between → Placed n y o.right middle between top cells →
          Stays o.mark base o.mark cells → Placed n (on_both (λ p q. checked n (op n p q)) x y) None o.mark base o.mark cells
      nothing e TooBig y px py s = s
      nothing e (Fine p) TooBig px py s = s
      nothing (inl e) (Fine p) (Fine q) px py s = absurd (subst (λ u. Placed n (Fine p) u o.mark base middle between) e px)
      nothing (inr e) (Fine p) (Fine q) px py s = absurd (subst (λ u. Placed n (Fine q) u middle between top cells) e py)

pub combines : (o : Operation) → Combines (combined_lists o) (combined o)
combines Sum = denoting_laws.sum_checks
combines Product = denoting_laws.product_checks

-- the polynomial of what is made of two terms
pub combined-poly : (o : Operation) (n : ℕ) (s t : Term) → term_poly n (combined_term o s t) ≡ on_both (λ p q. checked n (combined o n p q)) (term_poly n s) (term_poly n t)
unfolding term_poly
combined-poly Sum n s t = refl
combined-poly Product n s t = refl
