-- A derivative that is stored in a slot. Assumes nothing.
use Rattle.std.specs.Prelude.{◌≡◌, ℕ, suc, true, false, List, ℤ, Ok, Err, Result}
use Rattle.poly.specs.Leading.{derivative}
use Rattle.poly.specs.Modest.{modest}
use Rattle.stacks.specs.Written.{Written}
use Rattle.stacks.specs.Slots.{slot_in}
use Rattle.stacks.specs.Memories.{Holds, poly_of, front_poly}

-- of the first monomials in a slot, written to another; or it isn't modest, and nothing was written
pub record Derives (n : ℕ) (slots : List ℤ) (slot count to : ℕ) (after : List ℤ) : Type 0 where
  pub cells : List ℤ
  pub holds : Holds n cells
  pub is : poly_of n cells ≡ derivative n (front_poly n slots slot count)
  pub modest_is : modest (suc n) (derivative n (front_poly n slots slot count)) ≡ true
  pub written : Written slot_in to cells slots after

abbrev pub derives : {E : Type 0} → Result (Unit {0}) E → ℕ → List ℤ → (slot count to : ℕ) → List ℤ → Type 0
derives (Ok _) n slots slot count to after = Derives n slots slot count to after
derives (Err _) n slots slot count to after = (modest (suc n) (derivative n (front_poly n slots slot count)) ≡ false) × (after ≡ slots)
