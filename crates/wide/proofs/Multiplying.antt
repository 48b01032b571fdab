-- A product is added up from the last monomial of the first factor to the first. Assumes nothing.
use Rattle.std.proofs.Common.{◌++◌, length-append, ◌≡◌, ℕ, suc, ◌+◌, ◌-◌, ◌*◌, ◌^◌, ◌<◌, ◌≤◌, List, [], ◌∷◌, length, drop, ℤ, pos, negsuc, ◌*ℤ◌, neg_ℤ, sym, refl, ap, ◌∙◌, subst, ap₂, mul-le-mul_right, one-mul, arith, drop_of_length-le}
use Rattle.poly.specs.Modest.{magnitude}
use Rattle.terms.specs.Monomial.{Monomial, monomial}
use Rattle.terms.specs.Operations.{add_terms, scale_terms, add_product}
use Rattle.terms.specs.Sizes.{KeysBelow, SizesAtMost}
use Rattle.terms.proofs.Bounds.{length_scaled, length_product, keys_scaled, keys_product, sizes_scaled, sizes_modest_product}
use Rattle.packed.proofs.Walked.{keys-next, sizes-next, keys-after, sizes-after}
use Rattle.wide.specs.Merging.{Addable}
use Rattle.wide.specs.Multiplying.{OneProduct}

-- of at most 64 monomials, with keys below 2^19 and coefficients below 2^27
pub record Factor (ts : List Monomial) : Type 0 where
  pub keys : KeysBelow (2 ^ 19) ts
  pub sizes : SizesAtMost (2 ^ 27 - 1) ts
  pub short : length ts ≤ 64

last-factor : (before ts p : List Monomial) → before ++ ts ≡ p → Factor p → Factor ts
last-factor before ts p e f =
    let g = subst Factor (sym e) f in
    record {
      keys = keys-after (2 ^ 19) before ts g.keys;
      sizes = sizes-after (2 ^ 27 - 1) before ts g.sizes;
      short = omega (arith, length-append before ts, g.short);
    }

pub product_none : (p q acc : List Monomial) (i : ℕ) → length p ≤ i → add_product (drop i p) q acc ≡ acc
unfolding add_product
product_none p q acc i h = ap (λ w. add_product w q acc) (drop_of_length-le p h)

product_cons : (m : Monomial) (ms q acc : List Monomial) → add_product (m ∷ ms) q acc ≡ add_terms (scale_terms m.key m.times q) (add_product ms q acc)
unfolding add_product
product_cons m ms q acc = refl

keys_wider : (a b : ℕ) (ts : List Monomial) → a ≤ b → KeysBelow a ts → KeysBelow b ts
unfolding KeysBelow
keys_wider a b [] h k = tt
keys_wider a b (m ∷ ms) h k = let g = k.0 in (omega arith, keys_wider a b ms h k.1)

sizes_wide : (a b : ℕ) (ts : List Monomial) → a ≤ b → SizesAtMost a ts → SizesAtMost b ts
unfolding SizesAtMost
sizes_wide a b [] h k = tt
sizes_wide a b (m ∷ ms) h k = let g = k.0 in (omega arith, sizes_wide a b ms h k.1)

-- one more monomial of the first factor
pub product-step : (q acc : List Monomial) (m : Monomial) (ms list list' : List Monomial) → list ≡ add_product ms q acc → list' ≡ add_terms (scale_terms m.key m.times q) list →
    list' ≡ add_product (m ∷ ms) q acc
product-step q acc m ms list list' k n = n ∙ ap (add_terms (scale_terms m.key m.times q)) k ∙ sym (product_cons m ms q acc)

module _ (p q acc : List Monomial) (f : Factor p) (g : Factor q) (a : OneProduct acc) where
  one_size : (m : Monomial) → magnitude m.times ≤ 2 ^ 27 - 1 → SizesAtMost (2 ^ 54) (scale_terms m.key m.times q)
  one_size m h = sizes_wide (magnitude m.times * (2 ^ 27 - 1)) (2 ^ 54) _ (omega (arith, mul-le-mul_right {m = magnitude m.times} {n = 2 ^ 27 - 1} (2 ^ 27 - 1) h)) (sizes_scaled (2 ^ 27 - 1) m.key m.times q g.sizes)

  pub product_addable : (before : List Monomial) (m : Monomial) (ms list : List Monomial) → before ++ m ∷ ms ≡ p → list ≡ add_product ms q acc →
      Addable (scale_terms m.key m.times q) list
  product_addable before m ms list e k =
      let l = last-factor before (m ∷ ms) p e f in
      let keys = keys-next (2 ^ 19) (m ∷ ms) ms m refl l.keys in
      let sizes = sizes-next (2 ^ 27 - 1) (m ∷ ms) ms m refl l.sizes in
      let key = keys.0 in
      let few : length ms ≤ 63 = omega (arith, l.short) in
      record {
        most_left = 2 ^ 54;
        most_right = 2 ^ 60 - 1 + (2 ^ 60 - 1);
        keys_left = keys_wider (m.key + 2 ^ 19) (2 ^ 63) _ (omega arith) (keys_scaled (2 ^ 19) m.key m.times q g.keys);
        keys_right = subst (KeysBelow (2 ^ 63)) (sym k) (keys_wider (2 ^ 19 + 2 ^ 19) (2 ^ 63) _ (omega arith) (keys_product (2 ^ 19) (2 ^ 19) ms q acc keys.1 g.keys a.keys));
        sizes_left = one_size m sizes.0;
        sizes_right = subst (SizesAtMost (2 ^ 60 - 1 + (2 ^ 60 - 1))) (sym k) (sizes_modest_product (2 ^ 60 - 1) ms q acc (omega arith) sizes.1 g.sizes a.sizes);
        fit = omega arith;
        room = omega (arith, length_scaled m.key m.times q, ap length k, length_product ms q acc, mul-le-mul_right {m = length ms} {n = 63} (length q) few, g.short, a.short);
      }

-- nothing is at most one product
pub none_written : (list : List Monomial) → list ≡ [] → OneProduct list
unfolding KeysBelow SizesAtMost
none_written list e = subst OneProduct (sym e) (record { keys = tt; sizes = tt; short = omega arith })

-- and one product is
pub one_product : (p q list : List Monomial) → Factor p → Factor q → list ≡ add_product p q [] → OneProduct list
unfolding KeysBelow SizesAtMost
one_product p q list f g e =
    subst OneProduct (sym e)
    (record {
      keys = keys_product (2 ^ 19) (2 ^ 19) p q [] f.keys g.keys tt;
      sizes = sizes_modest_product 0 p q [] f.short f.sizes g.sizes tt;
      short = let n = f.short in omega (arith, length_product p q [], mul-le-mul_right {m = length p} {n = 64} (length q) n, g.short);
    })

-- one monomial times a stored polynomial, and another stored polynomial
pub factors_addable : (m : Monomial) (q list : List Monomial) → m.key < 2 ^ 19 → magnitude m.times ≤ 2 ^ 27 - 1 → Factor q → Factor list → Addable (scale_terms m.key m.times q) list
unfolding KeysBelow SizesAtMost
factors_addable m q list key size g k =
    record {
      most_left = 2 ^ 54;
      most_right = 2 ^ 27 - 1;
      keys_left = keys_wider (m.key + 2 ^ 19) (2 ^ 63) _ (omega arith) (keys_scaled (2 ^ 19) m.key m.times q g.keys);
      keys_right = keys_wider (2 ^ 19) (2 ^ 63) list (omega arith) k.keys;
      sizes_left =
          sizes_wide (magnitude m.times * (2 ^ 27 - 1)) (2 ^ 54) _ (omega (arith, mul-le-mul_right {m = magnitude m.times} {n = 2 ^ 27 - 1} (2 ^ 27 - 1) size))
          (sizes_scaled (2 ^ 27 - 1) m.key m.times q g.sizes);
      sizes_right = k.sizes;
      fit = omega arith;
      room = omega (arith, length_scaled m.key m.times q, g.short, k.short);
    }

one-times : (z : ℤ) → pos 1 *ℤ z ≡ z
one-times (pos n) = ap pos (one-mul n)
one-times (negsuc n) = ap (λ k. neg_ℤ (pos k)) (one-mul (suc n))

pub scaled-one : (ts : List Monomial) → scale_terms 0 (pos 1) ts ≡ ts
unfolding scale_terms
scaled-one [] = refl
scaled-one (m ∷ ms) = let e : 0 + m.key ≡ m.key = omega arith in let o : pos 1 *ℤ m.times ≡ m.times = one-times m.times in ap₂ ◌∷◌ (ap₂ monomial e o) (scaled-one ms)
