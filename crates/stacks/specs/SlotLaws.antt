-- What is promised of polynomials in slots. Assumes nothing.
use Rattle.std.specs.Prelude.{◌≡◌, ℕ, suc, List, [], take, ℤ}
use Rattle.poly.specs.Poly.{Poly}
use Rattle.terms.specs.Monomial.{Monomial}
use Rattle.terms.specs.Cells.{monomials_of}
use Rattle.packed.specs.Stored.{Stored}
use Rattle.storage.specs.Denoting.{Denotes}
use Rattle.stacks.specs.Written.{Written}
use Rattle.stacks.specs.Slots.{slot_in}
use Rattle.stacks.specs.Spelt.{spelt}
use Rattle.stacks.specs.Memories.{Holds, AllHold}

pub record SlotLaws : Type 0 where
  -- a list of monomials stands for one polynomial, the one that is spelt from it
  pub spelt_is : (n : ℕ) (ts : List Monomial) (p : Poly) → Denotes n ts p → spelt n ts ≡ p
  pub holds : (n : ℕ) (zs : List ℤ) (p : Poly) → Stored zs → Denotes (suc n) (monomials_of zs) p → Holds n zs
  -- the first monomials of a polynomial are a polynomial
  pub front_holds : (n : ℕ) (zs : List ℤ) (count : ℕ) → Holds n zs → Holds n (take count zs)
  pub none_holds : (n : ℕ) → Holds n []
  pub written_holds : (n i : ℕ) (zs slots after : List ℤ) → AllHold n slots → Holds n zs → Written slot_in i zs slots after → AllHold n after
