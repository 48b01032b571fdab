-- Numbers stored one after the other. Assumes nothing.
use Rattle.std.proofs.Common.{append-nil, refl, ℕ, List, [], ◌++◌, take, ℤ, sym, ap, ◌∙◌, append_assoc, arith, length-append}
use Rattle.arena.specs.Growth.{Grown}

-- nothing pushed
pub none_grown : (top : ℕ) (cells : List ℤ) → Grown [] top cells top cells
none_grown top cells = record { stands = sym (append-nil (take top cells)); higher = omega arith; long = refl }

-- what is pushed in turn
pub grown_more : (u v : List ℤ) (top : ℕ) (cells : List ℤ) (top1 : ℕ) (cells1 : List ℤ) (top2 : ℕ) (cells2 : List ℤ) →
    Grown u top cells top1 cells1 → Grown v top1 cells1 top2 cells2 → Grown (u ++ v) top cells top2 cells2
grown_more u v top cells top1 cells1 top2 cells2 g h =
    record {
      stands = h.stands ∙ ap (λ w. w ++ v) g.stands ∙ append_assoc (take top cells) u v;
      higher = omega (arith, g.higher, h.higher, length-append u v);
      long = h.long ∙ g.long;
    }
