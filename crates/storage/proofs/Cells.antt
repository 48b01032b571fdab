-- The cells of a modest list are a stored polynomial. Assumes nothing.
use Rattle.std.proofs.Common.{◌≡◌, suc, ◌-◌, ◌^◌, T, leb, List, [], ◌∷◌, length, sym, refl, ap, subst, arith}
use Rattle.terms.specs.Monomial.{Monomial, Rising}
use Rattle.terms.specs.ModestTerms.{small_terms, count_terms, modest_terms}
use Rattle.terms.specs.Sizes.{SizesAtMost}
use Rattle.terms.specs.Cells.{cell_of, cells_of, monomials_of}
use Rattle.terms.proofs.Tests.{T-both}
use Rattle.terms.proofs.Bounds.{keys_rising}
use Rattle.terms.proofs.CellTrips.{monomials_of_cells}
use Rattle.terms.proofs.Modests.{modest_sizes}
use Rattle.packed.specs.Stored.{Stored}
use Rattle.storage.proofs.ModestSteps.{modest-rising, modest-short}

pub length-cells : (ts : List Monomial) → length (cells_of ts) ≡ length ts
unfolding cells_of
length-cells [] = refl
length-cells (m ∷ ms) = ap suc (length-cells ms)

pub cells-next : (left left' : List Monomial) (m : Monomial) → left ≡ m ∷ left' → cells_of left ≡ cell_of m ∷ cells_of left'
unfolding cells_of
cells-next left left' m e = ap cells_of e

pub cells_none : cells_of [] ≡ []
unfolding cells_of
cells_none = refl

pub cells-back : (ts : List Monomial) → Rising 0 (2 ^ 20) ts → monomials_of (cells_of ts) ≡ ts
cells-back ts r = monomials_of_cells ts (keys_rising 0 (2 ^ 20) ts r)

pub cells-stored : (ts : List Monomial) → Rising 0 (2 ^ 20) ts → T (modest_terms 4 ts) → Stored (cells_of ts)
cells-stored ts r t =
    let e = cells-back ts r in
    record {
      rising = subst (Rising 0 (2 ^ 19)) (sym e) (modest-rising 0 ts r (T-both (small_terms 4 ts) (leb (count_terms 4 ts) 64) t).0);
      sizes = subst (SizesAtMost (2 ^ 27 - 1)) (sym e) (modest_sizes 4 ts t);
      short = omega (arith, length-cells ts, modest-short (2 ^ 20) ts r t);
    }
