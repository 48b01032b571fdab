-- What is packed is the polynomial that was computed, where that is modest.
use Rattle.std.proofs.Common.{◌≡◌, ℕ, true, false, cond, List, length, take, ℤ, Some, None, Ok, Err, Result, sym, ap, ◌∙◌, subst}
use Rattle.std.specs.Result.{result_ok}
use Rattle.poly.specs.Modest.{Fine, TooBig, modest}
use Rattle.terms.specs.Monomial.{Monomial}
use Rattle.terms.specs.Cells.{cells_of}
use Rattle.terms.proofs.CellTrips.{cells-length}
use Rattle.storage.specs.Storing.{Packed, stored}
use Rattle.storage.specs.Denoting.{Denotes}
use Rattle.sentence_tree.specs.Placed.{Placed, Places}

pub placed_modest : (ts : List Monomial) (count top : ℕ) (cells : List ℤ) (top' : ℕ) (cells' : List ℤ) → Packed count ts top cells top' cells' → Places ts (Some count) top cells top' cells'
placed_modest ts count top cells top' cells' k n p checks =
    let small : modest n p ≡ true = sym checks.test ∙ k.modest in
    subst (λ b. Placed n (cond b (Fine p) TooBig) (Some count) top cells top' cells') (sym small) (record {
      numbers = cells_of ts;
      counted = k.counted ∙ sym (cells-length ts);
      good = k.good;
      denotes = subst (λ us. Denotes n us p) (sym k.back) (checks.kept k.modest);
      grown = k.grown;
    })

-- what is stored or refused
pub placed_stored : {E : Type 0} (r : Result ℕ E) (ts : List Monomial) (top : ℕ) (cells : List ℤ) (top' : ℕ) (cells' : List ℤ) → stored r ts top cells top' cells' →
    Places ts (result_ok r) top cells top' cells'
placed_stored (Ok count) ts top cells top' cells' k n p checks = placed_modest ts count top cells top' cells' k n p checks
placed_stored (Err _) ts top cells top' cells' k n p checks =
    let big : modest n p ≡ false = sym checks.test ∙ k.0 in
    subst (λ b. Placed n (cond b (Fine p) TooBig) None top cells top' cells') (sym big)
    (record { same_top = k.1.same_top; below = ap (take top) k.1.same_cells; long = ap length k.1.same_cells })
