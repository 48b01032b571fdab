-- The test for stored polynomials. Assumes nothing.
use Rattle.std.proofs.Common.{◌≡◌, ℕ, suc, ◌-◌, ◌^◌, Bool, true, not, ◌&&◌, T, ltb, leb, List, [], ◌∷◌, length, ℤ, sym, subst, le→leb, ltb→lt, lt→ltb, leb→le}
use Rattle.poly.specs.Poly.{is_zero_number}
use Rattle.poly.specs.Modest.{magnitude}
use Rattle.terms.specs.Monomial.{Monomial, Rising}
use Rattle.terms.specs.Sizes.{SizesAtMost}
use Rattle.terms.specs.Cells.{monomials_of}
use Rattle.terms.proofs.Tests.{T-both, both_T, T_true}
use Rattle.packed.specs.Stored.{Stored, is_rising, are_small, is_stored}

is_t : (b : Bool) → b ≡ true → T b
is_t b e = subst T (sym e) tt

rising-test : (lo hi : ℕ) (ts : List Monomial) → Rising lo hi ts → T (is_rising lo hi ts)
unfolding Rising is_rising
rising-test lo hi [] r = tt
rising-test lo hi (m ∷ ms) r =
    let more = rising-test (suc m.key) hi ms r.3 in
    both_T _ _ (both_T _ _ (both_T _ _ (le→leb lo m.key r.0) (lt→ltb m.key hi r.1)) r.2) more

test_rising : (lo hi : ℕ) (ts : List Monomial) → T (is_rising lo hi ts) → Rising lo hi ts
unfolding Rising is_rising
test_rising lo hi [] t = tt
test_rising lo hi (m ∷ ms) t =
    let a = T-both (leb lo m.key && ltb m.key hi && not (is_zero_number m.times)) (is_rising (suc m.key) hi ms) t in
    let b = T-both (leb lo m.key && ltb m.key hi) (not (is_zero_number m.times)) a.0 in
    let c = T-both (leb lo m.key) (ltb m.key hi) b.0 in
    (leb→le lo m.key c.0, ltb→lt m.key hi c.1, b.1, test_rising (suc m.key) hi ms a.1)

small-test : (b : ℕ) (ts : List Monomial) → SizesAtMost b ts → T (are_small b ts)
unfolding SizesAtMost are_small
small-test b [] s = tt
small-test b (m ∷ ms) s = both_T _ _ (le→leb (magnitude m.times) b s.0) (small-test b ms s.1)

test-small : (b : ℕ) (ts : List Monomial) → T (are_small b ts) → SizesAtMost b ts
unfolding SizesAtMost are_small
test-small b [] t = tt
test-small b (m ∷ ms) t =
    let a = T-both (leb (magnitude m.times) b) (are_small b ms) t in (leb→le (magnitude m.times) b a.0, test-small b ms a.1)

pub stored-test : (cells : List ℤ) → Stored cells → is_stored cells ≡ true
unfolding is_stored
stored-test cells s =
    T_true (is_stored cells)
    (both_T _ _ (both_T _ _ (rising-test 0 (2 ^ 19) (monomials_of cells) s.rising) (small-test (2 ^ 27 - 1) (monomials_of cells) s.sizes)) (le→leb (length cells) 64 s.short))

pub test-stored : (cells : List ℤ) → is_stored cells ≡ true → Stored cells
unfolding is_stored
test-stored cells e =
    let a = T-both (is_rising 0 (2 ^ 19) (monomials_of cells) && are_small (2 ^ 27 - 1) (monomials_of cells)) (leb (length cells) 64) (is_t (is_stored cells) e) in
    let b = T-both (is_rising 0 (2 ^ 19) (monomials_of cells)) (are_small (2 ^ 27 - 1) (monomials_of cells)) a.0 in
    record { rising = test_rising 0 (2 ^ 19) (monomials_of cells) b.0; sizes = test-small (2 ^ 27 - 1) (monomials_of cells) b.1; short = leb→le (length cells) 64 a.1 }
