-- What is promised of tables, in every real closed field. Assumes nothing.
use Rattle.std.specs.Prelude.{List, ℕ, suc, length}
use Rattle.field.specs.declared.sign.Sign.{Sign}
use Rattle.field.specs.Field.{RealClosedField}
use Rattle.roots.specs.Interval.{Open}
use Rattle.poly.specs.Poly.{Poly}
use Rattle.sign_table.specs.Tree.{Tree}
use Rattle.sign_table.specs.Facts.{Fact}
use Rattle.sign_table.specs.Table.{Continuation, table}
use Rattle.sign_table.specs.Meaning.{Says, YesOrNo, DepthTree, DepthAll, TrueFacts}
use Rattle.sign_table.specs.Right.{Member, SomeRoot, Covered, Attained, Right, points, Rising}

-- A table asks only about polynomials in the other variables.
abbrev pub TableDepth : Type 0
TableDepth = (depth n : ℕ) (ps : List Poly) (fs : List Fact) (k : Continuation) → DepthAll (suc n) ps →
    ((m : List (List Sign)) (gs : List Fact) → DepthTree n (k m gs)) → DepthTree n (table depth n ps fs k)

module _ {R : Type 0} (f : RealClosedField R) where
  -- Where a table's tree says yes or no, what goes on was given a right table and true facts, and says so.
  abbrev pub TableRight : Type 0
  TableRight =
      (e : List R) (depth : ℕ) (ps : List Poly) (fs : List Fact) (k : Continuation) (what : Tree) →
      DepthAll (suc (length e)) ps → TrueFacts f e fs → YesOrNo what → Says f what (table depth (length e) ps fs k) e →
      (m : List (List Sign)) × (gs : List Fact) × Right f e ps m × TrueFacts f e gs × Says f what (k m gs) e

  -- In a right table every number has its row, and every row its number.
  abbrev pub RightCovers : Type 0
  RightCovers = (e : List R) (ps : List Poly) (m : List (List Sign)) → Right f e ps m → Covered f e ps m × Attained f e ps m

  -- The points of a right table rise strictly, and are just the roots of those polynomials that aren't zero everywhere.
  abbrev pub RootsExactly : Type 0
  RootsExactly =
      (e : List R) (ps : List Poly) → DepthAll (suc (length e)) ps → (m : List (List Sign)) (right : Right f e ps m) →
      Rising f Open (points f e ps m right)
      × ((c : R) → (Member c (points f e ps m right) → SomeRoot f e ps c) × (SomeRoot f e ps c → Member c (points f e ps m right)))
