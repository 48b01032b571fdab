-- What is made of polynomials with just n variables has just n variables. Lists are those of the coefficients. Assumes nothing.
use mathlib.Core.Path.{◌≡◌, refl, ap, subst}
use mathlib.Core.Bool.{Bool, true, false, cond, ◌&&◌}
use mathlib.Core.List.{List, [], ◌∷◌}
use Prim.Native.Nat.{ℕ, zero, suc, ◌+◌}
use native.Mathlib.Omega.{arith}
use lib.Dec.{ltb}
use lib.ListN.{length}
use lib.IntN.{ℤ, pos}
use Rattle.field.specs.declared.sign.Sign.{Sign}
use Rattle.field.specs.declared.sign.Sign.TheVariants.{Neg, Zero, Pos}
use Rattle.poly.specs.Poly.{Poly, Number, End, Coef, from_coefs, coefs, the_number, is_zero, all_zero, zero_poly, trim}
use Rattle.poly.specs.Arithmetic.{constant, variable, sum_by, sum, map_poly, product_by, product, negative}
use Rattle.poly.specs.Leading.{last_or, leading, without_last, without_leading, scaled, without_first, derivative, shifted}
use Rattle.poly.specs.Modest.{modest, Checked, TooBig, Fine}
use Rattle.poly.specs.Division.{division_step, Division, divide, odd, exchanged, remainder}
use Rattle.poly.specs.Value.{Depth}

-- every one of the list has just n variables
abbrev pub Depths : ℕ → List Poly → Type 0
Depths n [] = Unit {0}
Depths n (c ∷ cs) = Depth n c × Depths n cs

pub Depths-coefs : (n : ℕ) (p : Poly) → Depth (suc n) p → Depths n (coefs p)
unfolding Depth coefs
Depths-coefs n (Number z) d = tt
Depths-coefs n End d = tt
Depths-coefs n (Coef c r) d = (d.0, Depths-coefs n r d.1)

pub Depth-from_coefs : (n : ℕ) (cs : List Poly) → Depths n cs → Depth (suc n) (from_coefs cs)
unfolding Depth from_coefs
Depth-from_coefs n [] d = tt
Depth-from_coefs n (c ∷ cs) d = (d.0, Depth-from_coefs n cs d.1)

pub from_coefs-coefs : (n : ℕ) (p : Poly) → Depth (suc n) p → from_coefs (coefs p) ≡ p
unfolding Depth from_coefs coefs
from_coefs-coefs n (Number z) d = absurd d
from_coefs-coefs n End d = refl
from_coefs-coefs n (Coef c r) d = ap (λ m. Coef c m) (from_coefs-coefs n r d.1)

pub Depth-number : (p : Poly) → Depth zero p → p ≡ Number (the_number p)
unfolding Depth
Depth-number (Number z) d = refl
Depth-number End d = absurd d
Depth-number (Coef c r) d = absurd d

Depths-cond : (n : ℕ) (b : Bool) (cs ds : List Poly) → Depths n cs → Depths n ds → Depths n (cond b cs ds)
Depths-cond n true cs ds h k = h
Depths-cond n false cs ds h k = k

pub Depths-trim : (n : ℕ) (cs : List Poly) → Depths n cs → Depths n (trim cs)
unfolding trim
Depths-trim n [] d = tt
Depths-trim n (c ∷ cs) d = Depths-cond n (is_zero c && all_zero cs) [] (c ∷ trim cs) tt (d.0, Depths-trim n cs d.1)

pub Depth-trimmed : (n : ℕ) (cs : List Poly) → Depths n cs → Depth (suc n) (from_coefs (trim cs))
Depth-trimmed n cs d = Depth-from_coefs n (trim cs) (Depths-trim n cs d)

pub Depth-zero_poly : (n : ℕ) → Depth n (zero_poly n)
unfolding Depth
Depth-zero_poly zero = tt
Depth-zero_poly (suc n) = tt

pub Depth-constant : (n : ℕ) (z : ℤ) → Depth n (constant n z)
unfolding Depth constant
Depth-constant zero z = tt
Depth-constant (suc n) z = Depth-trimmed n (constant n z ∷ []) (Depth-constant n z, tt)

pub Depth-variable : (n i : ℕ) → Depth n (variable n i)
unfolding Depth variable
Depth-variable zero i = tt
Depth-variable (suc n) zero = Depth-from_coefs n (zero_poly n ∷ constant n (pos 1) ∷ []) (Depth-zero_poly n, (Depth-constant n (pos 1), tt))
Depth-variable (suc n) (suc i) = Depth-trimmed n (variable n i ∷ []) (Depth-variable n i, tt)

Depths-sum_by : (n : ℕ) (f : Poly → Poly → Poly) → ((a b : Poly) → Depth n a → Depth n b → Depth n (f a b)) → (p q : List Poly) → Depths n p → Depths n q → Depths n (sum_by f p q)
unfolding sum_by
Depths-sum_by n f h [] bs d k = k
Depths-sum_by n f h (a ∷ p) [] d k = d
Depths-sum_by n f h (a ∷ p) (b ∷ q) d k = (h a b d.0 k.0, Depths-sum_by n f h p q d.1 k.1)

pub Depth-sum : (n : ℕ) (p q : Poly) → Depth n p → Depth n q → Depth n (sum n p q)
unfolding Depth sum
Depth-sum zero p q d k = tt
Depth-sum (suc n) p q d k = Depth-trimmed n (sum_by (sum n) (coefs p) (coefs q)) (Depths-sum_by n (sum n) (Depth-sum n) (coefs p) (coefs q) (Depths-coefs n p d) (Depths-coefs n q k))

pub Depths-map : (n : ℕ) (g : Poly → Poly) → ((a : Poly) → Depth n a → Depth n (g a)) → (cs : List Poly) → Depths n cs → Depths n (map_poly g cs)
unfolding map_poly
Depths-map n g h [] d = tt
Depths-map n g h (c ∷ cs) d = (h c d.0, Depths-map n g h cs d.1)

pub Depths-product_by : (n : ℕ) (g : Poly → Poly → Poly) → ((a b : Poly) → Depth n a → Depth n b → Depth n (g a b)) → (p q : List Poly) → Depths n p → Depths n q → Depths n (product_by (sum n) g (zero_poly n) p q)
unfolding product_by
Depths-product_by n g h [] q d k = tt
Depths-product_by n g h (a ∷ p) q d k =
    let rest = Depths-product_by n g h p q d.1 k in
    Depths-sum_by n (sum n) (Depth-sum n) _ _ (Depths-map n (g a) (λ b. h a b d.0) q k) (search Depth-zero_poly)

pub Depth-product : (n : ℕ) (p q : Poly) → Depth n p → Depth n q → Depth n (product n p q)
unfolding Depth product
Depth-product zero p q d k = tt
Depth-product (suc n) p q d k = Depth-trimmed n (product_by (sum n) (product n) (zero_poly n) (coefs p) (coefs q)) (Depths-product_by n (product n) (Depth-product n) (coefs p) (coefs q) (Depths-coefs n p d) (Depths-coefs n q k))

pub Depth-negative : (n : ℕ) (p : Poly) → Depth n p → Depth n (negative n p)
unfolding Depth negative
Depth-negative zero p d = tt
Depth-negative (suc n) p d = Depth-from_coefs n (map_poly (negative n) (coefs p)) (Depths-map n (negative n) (Depth-negative n) (coefs p) (Depths-coefs n p d))

Depth-last_or : (n : ℕ) (c : Poly) (cs : List Poly) → Depth n c → Depths n cs → Depth n (last_or c cs)
unfolding last_or
Depth-last_or n c [] h d = h
Depth-last_or n c (b ∷ cs) h d = Depth-last_or n b cs d.0 d.1

pub Depth-leading : (n : ℕ) (p : Poly) → Depth (suc n) p → Depth n (leading n p)
Depth-leading n p d = Depth-last_or n (zero_poly n) (coefs p) (Depth-zero_poly n) (Depths-coefs n p d)

Depths-without_last : (n : ℕ) (cs : List Poly) → Depths n cs → Depths n (without_last cs)
unfolding without_last
Depths-without_last n [] d = tt
Depths-without_last n (c ∷ []) d = tt
Depths-without_last n (c ∷ b ∷ cs) d = (d.0, Depths-without_last n (b ∷ cs) d.1)

pub Depth-without_leading : (n : ℕ) (p : Poly) → Depth (suc n) p → Depth (suc n) (without_leading p)
Depth-without_leading n p d = Depth-trimmed n (without_last (coefs p)) (Depths-without_last n (coefs p) (Depths-coefs n p d))

Depths-without_first : (n : ℕ) (cs : List Poly) → Depths n cs → Depths n (without_first cs)
Depths-without_first n [] d = tt
Depths-without_first n (c ∷ cs) d = d.1

Depths-scaled : (n k : ℕ) (cs : List Poly) → Depths n cs → Depths n (scaled n k cs)
unfolding scaled
Depths-scaled n k [] d = tt
Depths-scaled n k (c ∷ cs) d = let first = d.0 in (search (Depth-product, Depth-constant), Depths-scaled n (k + 1) cs d.1)

pub Depth-derivative : (n : ℕ) (p : Poly) → Depth (suc n) p → Depth (suc n) (derivative n p)
Depth-derivative n p d = Depth-trimmed n (scaled n 1 (without_first (coefs p))) (Depths-scaled n 1 (without_first (coefs p)) (Depths-without_first n (coefs p) (Depths-coefs n p d)))

pub Depths-shifted : (n k : ℕ) (cs : List Poly) → Depths n cs → Depths n (shifted n k cs)
unfolding shifted
Depths-shifted n zero cs d = d
Depths-shifted n (suc k) cs d = (Depth-zero_poly n, Depths-shifted n k cs d)

-- a list of coefficients, each times c
pub Depth-times : (n : ℕ) (c : Poly) (cs : List Poly) → Depth n c → Depths n cs → Depth (suc n) (from_coefs (trim (map_poly (product n c) cs)))
Depth-times n c cs h d = Depth-trimmed n (map_poly (product n c) cs) (Depths-map n (product n c) (λ b. Depth-product n c b h) cs d)

pub Depth-division_step : (n : ℕ) (p s : Poly) → Depth (suc n) p → Depth (suc n) s → Depth (suc n) (division_step n p s)
Depth-division_step n p s d k =
    Depth-sum (suc n) _ _ (Depth-times n (leading n p) (coefs s) (Depth-leading n p d) (Depths-coefs n s k))
    (Depth-negative (suc n) _ (Depth-times n (leading n s) _ (Depth-leading n s k) (Depths-shifted n _ (coefs p) (Depths-coefs n p d))))

pub Depth-divide : (fuel n : ℕ) (p s : Poly) (k : ℕ) → Depth (suc n) p → Depth (suc n) s → Depth (suc n) (divide fuel n p s k).rest
unfolding divide
Depth-divide zero n p s k d h = h
Depth-divide (suc fuel) n p s k d h =
    let r = division_step n p s in
    stops (ltb (length (coefs s)) (length (coefs p))) (modest (suc n) r) (Depth-divide fuel n p r (k + 1) d (Depth-division_step n p s d h))
  where
    stops : (b m : Bool) → Depth (suc n) (divide fuel n p (division_step n p s) (k + 1)).rest → Depth (suc n) (elim b as (λ _. Division) [ true ↦ record { good = true; steps = k; rest = s } | false ↦ elim m [ true ↦ divide fuel n p (division_step n p s) (k + 1) | false ↦ record { good = false; steps = k; rest = s } ] ]).rest
    stops true m g = h
    stops false true g = g
    stops false false g = h

Depth-exchanged : (n : ℕ) (b : Bool) (h : Sign) (r : Poly) → Depth (suc n) r → Depth (suc n) (exchanged n b h r)
Depth-exchanged n true Neg r d = search Depth-negative
Depth-exchanged n true Zero r d = search Depth-negative
Depth-exchanged n true Pos r d = search Depth-negative
Depth-exchanged n false h r d = search Depth-negative

pub Depth-remainder : (n : ℕ) (h : Sign) (p s r : Poly) → Depth (suc n) p → Depth (suc n) s → remainder n h p s ≡ Fine r → Depth (suc n) r
Depth-remainder n h p s r d k =
    let v = divide (length (coefs s) + 1) n p s 0 in
    kept v.good (exchanged n (odd v.steps) h v.rest) (Depth-exchanged n (odd v.steps) h v.rest (Depth-divide (length (coefs s) + 1) n p s 0 d k))
  where
    kept : (b : Bool) (q : Poly) → Depth (suc n) q → (elim b as (λ _. Checked) [ true ↦ Fine q | false ↦ TooBig ]) ≡ Fine r → Depth (suc n) r
    kept true q g e = subst (Depth (suc n)) (cc) g
    kept false q g e = let z : ◌≡◌ {A = ℕ} 0 1 = cc in absurd (omega arith)
