-- The exponent is small, and so is its product with the coefficient.
use Rattle.std.proofs.Common.{◌≡◌, ℕ, ◌-◌, ◌/◌, ◌^◌, ◌<◌, ◌≤◌, ℤ, pos, ◌*ℤ◌, ap, ◌∙◌, ap₂, mul-le-mul_right, div-le_self, arith, w64, to_z, of_z}
use Rattle.std.proofs.lemmas.Int.{to_z_pos}
use Rattle.poly.specs.Modest.{magnitude}
use Rattle.terms.specs.Monomial.{monomial}
use Rattle.terms.proofs.Bounds.{size_product}
use Rattle.packed.proofs.Places.{from_bits, mag_small}
use Rattle.wide.proofs.Bounds.{from_size}
use Rattle.wide.proofs.operations.slope.Goals as goal

-- the exponent, read from its bits, and the coefficient
factors : (key place : ℕ) (x : ℤ) → key < 2 ^ 19 → magnitude x < 2 ^ 27 → to_z w64 (key / place) *ℤ to_z w64 (of_z w64 x) ≡ pos (key / place) *ℤ x
factors key place x h g =
    let low : key / place < 2 ^ 63 = omega (arith, div-le_self key place) in ap₂ ◌*ℤ◌ (to_z_pos w64 (key / place) low) (from_bits x (mag_small x (omega arith)))

small : (key place : ℕ) (x : ℤ) → key < 2 ^ 19 → magnitude x < 2 ^ 27 → magnitude (pos (key / place) *ℤ x) < 2 ^ 63
small key place x h g =
    let e = key / place in
    let low : e ≤ 2 ^ 19 = omega (arith, div-le_self key place) in
    omega (arith, size_product (pos e) x, mul-le-mul_right {m = e} {n = 2 ^ 19} (magnitude x) low)

pub returns : goal.returns
returns c =
    let k = c.args.term.key in
    let p = c.args.place in
    let x = c.args.term.coefficient in
    record {
      value = ap (monomial (k - p)) (ap (λ z. to_z w64 (of_z w64 z)) (factors k p x c.requires.key.1 c.requires.size) ∙ from_size (pos (k / p) *ℤ x) (small k p x c.requires.key.1 c.requires.size));
      bound = omega (arith, c.requires.key.1);
    }
