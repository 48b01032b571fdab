-- Two operands, one behind the other, and what is made of them. Assumes nothing.
use Rattle.std.specs.Prelude.{ℕ, ◌+◌, ◌≤◌, List, length, ℤ, Some, None, Option}
use Rattle.poly.specs.Poly.{Poly}
use Rattle.poly.specs.Modest.{Checked, checked, on_both}
use Rattle.storage.specs.declared.span.Span.{Span}
use Rattle.storage.specs.Spans.{Holds}
use Rattle.sentence_tree.specs.declared.operation.Operands.{Operands}
use Rattle.sentence_tree.specs.Placed.{Placed}

abbrev pub span : ℕ → ℕ → Span
span from count = record { from = from; count = count }

-- both are stored, where both are there
abbrev pub BothHeld : ℕ → Option ℕ → Option ℕ → ℕ → List ℤ → Type 0
BothHeld mark None r top cells = Unit {0}
BothHeld mark (Some l) None top cells = Unit {0}
BothHeld mark (Some l) (Some r) top cells = Holds (span mark l) top cells × Holds (span (mark + l) r) top cells

pub record Ready (o : Operands) (top : ℕ) (cells : List ℤ) : Type 0 where
  pub behind : o.mark ≤ top
  pub room : o.mark + 64 ≤ length cells
  pub held : BothHeld o.mark o.left o.right top cells

-- whatever stood at the mark, and whichever polynomials the operands are: their checked combination stands in their place
abbrev pub Joins : (ℕ → Poly → Poly → Poly) → Operands → Option ℕ → ℕ → List ℤ → ℕ → List ℤ → Type 0
Joins op o r top cells top' cells' =
    (n : ℕ) (x y : Checked) (base : List ℤ) (middle : ℕ) (between : List ℤ) → n ≤ 4 →
    Placed n x o.left o.mark base middle between → Placed n y o.right middle between top cells →
    Placed n (on_both (λ p q. checked n (op n p q)) x y) r o.mark base top' cells'
