-- How long a list in lent memory is. Assumes nothing.
use Rattle.std.proofs.Common.{◌≡◌, ℕ, ◌≤◌, length, sym, ◌∙◌, subst}
use Rattle.wide.specs.declared.wide.Wide.{Wide}
use Rattle.wide.specs.Written.{written}
use Rattle.wide.proofs.Pairs.{length-written}

pub written-length : (w : Wide) → length (written w) ≡ w.len
written-length w =
    let Most : ℕ → Type 0 = λ n. w.len ≤ n in
    length-written w.len w.keys.now w.coefficients.now (w.enough ∙ sym w.alike) (subst Most (sym w.enough) w.within)

pub written-most : (w : Wide) → length (written w) ≤ 8192
written-most w = let Most : ℕ → Type 0 = λ n. n ≤ 8192 in subst Most (sym (written-length w)) w.within
