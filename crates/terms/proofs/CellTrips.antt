-- A monomial as one whole number, there and back. Assumes nothing.
use Rattle.std.proofs.Common.{◌≡◌, ℕ, zero, suc, ◌+◌, ◌-◌, ◌*◌, ◌/◌, ◌%◌, ◌^◌, ◌<◌, ◌≤◌, cond, ltb, List, [], ◌∷◌, ◌++◌, length, get_or, take, drop, ℤ, pos, negsuc, ◌+ℤ◌, neg_ℤ, sym, refl, ap, ◌∙◌, subst, ap₂, arith, lt→ltb}
use Rattle.poly.specs.Poly.{Poly}
use Rattle.poly.specs.Modest.{magnitude}
use Rattle.terms.specs.Monomial.{Monomial, monomial, flat}
use Rattle.terms.specs.Cells.{cell_of, monomial_of, cells_of, monomials_of, packed}
use Rattle.terms.specs.Canon.{Canon}
use Rattle.terms.specs.Sizes.{KeysBelow}
use Rattle.terms.proofs.Tests.{T_true}
use Rattle.terms.proofs.Flat.{flat_unique}
use Rattle.terms.proofs.Bounds.{keys_flat}

cell-negative : (k a : ℕ) → k < 2 ^ 20 → cell_of (monomial k (negsuc a)) ≡ negsuc (a * 2 ^ 20 + (2 ^ 20 - 1 - k))
cell-negative k a l =
    let x = a * 2 ^ 20 + (2 ^ 20 - 1) in
    let e : suc a * 2 ^ 20 ≡ suc x = omega arith in
    let d : suc x - suc k ≡ a * 2 ^ 20 + (2 ^ 20 - 1 - k) = omega arith in
    ap (λ n. neg_ℤ (pos n) +ℤ pos k) e ∙ ap (λ b. cond b (negsuc (suc x - suc k)) (pos (k - suc x))) (T_true (ltb k (suc x)) (lt→ltb k (suc x) (omega arith))) ∙ ap negsuc d

monomial_of_lem : (k : ℕ) (x : ℤ) → k < 2 ^ 20 → monomial_of (cell_of (monomial k x)) ≡ monomial k x
monomial_of_lem k (pos a) l =
    let q : (a * 2 ^ 20 + k) / 2 ^ 20 ≡ a = omega arith in
    let r : (a * 2 ^ 20 + k) % 2 ^ 20 ≡ k = omega arith in
    ap₂ monomial r (ap pos q)
monomial_of_lem k (negsuc a) l =
    let c = a * 2 ^ 20 + (2 ^ 20 - 1 - k) in
    let q : c / 2 ^ 20 ≡ a = omega arith in
    let r : 2 ^ 20 - 1 - c % 2 ^ 20 ≡ k = omega arith in
    ap monomial_of (cell-negative k a l) ∙ ap₂ monomial r (ap negsuc q)

pub monomial_of_cell : (m : Monomial) → m.key < 2 ^ 20 → monomial_of (cell_of m) ≡ m
monomial_of_cell m l = monomial_of_lem m.key m.times l

pub key_of_cell : (z : ℤ) → (monomial_of z).key < 2 ^ 20
key_of_cell (pos a) = omega arith
key_of_cell (negsuc a) = omega arith

pub cell_of_monomial : (z : ℤ) → cell_of (monomial_of z) ≡ z
cell_of_monomial (pos a) = ap pos (omega arith)
cell_of_monomial (negsuc a) = cell-negative (2 ^ 20 - 1 - a % 2 ^ 20) (a / 2 ^ 20) (omega arith) ∙ ap negsuc (omega arith)

pub monomials_of_cells : (ms : List Monomial) → KeysBelow (2 ^ 20) ms → monomials_of (cells_of ms) ≡ ms
unfolding monomials_of cells_of KeysBelow
monomials_of_cells [] h = refl
monomials_of_cells (m ∷ ms) h = ap₂ ◌∷◌ (monomial_of_cell m h.0) (monomials_of_cells ms h.1)

pub cells_of_monomials : (zs : List ℤ) → cells_of (monomials_of zs) ≡ zs
unfolding monomials_of cells_of
cells_of_monomials [] = refl
cells_of_monomials (z ∷ zs) = ap₂ ◌∷◌ (cell_of_monomial z) (cells_of_monomials zs)

size_of : (k : ℕ) (x : ℤ) → k < 2 ^ 20 → magnitude x < 2 ^ 27 → magnitude (cell_of (monomial k x)) < 2 ^ 47
size_of k (pos a) l h = omega arith
size_of k (negsuc a) l h = subst (λ z. magnitude z < 2 ^ 47) (sym (cell-negative k a l)) (omega arith)

pub size_of_cell : (m : Monomial) → m.key < 2 ^ 20 → magnitude m.times < 2 ^ 27 → magnitude (cell_of m) < 2 ^ 47
size_of_cell m l h = size_of m.key m.times l h

pub packed_monomials : (b n : ℕ) (p : Poly) → n ≤ 4 → b ≤ 32 → Canon b n p → monomials_of (packed n p) ≡ flat n p
packed_monomials b n p m l d = monomials_of_cells (flat n p) (keys_flat b n p m l d)

pub packed_unique : (b n : ℕ) (p q : Poly) → n ≤ 4 → b ≤ 32 → Canon b n p → Canon b n q → packed n p ≡ packed n q → p ≡ q
packed_unique b n p q m l d k e = flat_unique b n p q l d k (sym (packed_monomials b n p m l d) ∙ ap monomials_of e ∙ packed_monomials b n q m l k)

-- parts of a list of cells
pub monomials-length : (zs : List ℤ) → length (monomials_of zs) ≡ length zs
unfolding monomials_of
monomials-length [] = refl
monomials-length (z ∷ zs) = ap suc (monomials-length zs)

pub monomials-append : (ys zs : List ℤ) → monomials_of (ys ++ zs) ≡ monomials_of ys ++ monomials_of zs
unfolding monomials_of
monomials-append [] zs = refl
monomials-append (y ∷ ys) zs = ap (λ ms. monomial_of y ∷ ms) (monomials-append ys zs)

pub monomials-take : (i : ℕ) (zs : List ℤ) → monomials_of (take i zs) ≡ take i (monomials_of zs)
unfolding monomials_of
monomials-take zero zs = refl
monomials-take (suc i) [] = refl
monomials-take (suc i) (z ∷ zs) = ap (λ ms. monomial_of z ∷ ms) (monomials-take i zs)

pub monomials-drop : (i : ℕ) (zs : List ℤ) → monomials_of (drop i zs) ≡ drop i (monomials_of zs)
unfolding monomials_of
monomials-drop zero zs = refl
monomials-drop (suc i) [] = refl
monomials-drop (suc i) (z ∷ zs) = monomials-drop i zs

pub monomials_at : (i : ℕ) (zs : List ℤ) (d : ℤ) → get_or (monomials_of zs) i (monomial_of d) ≡ monomial_of (get_or zs i d)
unfolding monomials_of
monomials_at i [] d = refl
monomials_at zero (z ∷ zs) d = refl
monomials_at (suc i) (z ∷ zs) d = monomials_at i zs d

pub cells-length : (ms : List Monomial) → length (cells_of ms) ≡ length ms
unfolding cells_of
cells-length [] = refl
cells-length (m ∷ ms) = ap suc (cells-length ms)

pub cells-append : (ms ns : List Monomial) → cells_of (ms ++ ns) ≡ cells_of ms ++ cells_of ns
unfolding cells_of
cells-append [] ns = refl
cells-append (m ∷ ms) ns = ap (λ zs. cell_of m ∷ zs) (cells-append ms ns)

pub cells-take : (i : ℕ) (ms : List Monomial) → cells_of (take i ms) ≡ take i (cells_of ms)
unfolding cells_of
cells-take zero ms = refl
cells-take (suc i) [] = refl
cells-take (suc i) (m ∷ ms) = ap (λ zs. cell_of m ∷ zs) (cells-take i ms)
