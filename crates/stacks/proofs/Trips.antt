-- What is written as numbers reads back. Assumes nothing.
use Rattle.std.proofs.Common.{◌≡◌, ℕ, ◌<◌, List, ◌++◌, length, get_or, take, drop, ℤ, pos, ap, ◌∙◌, subst, arith, take_all}
use Rattle.std.proofs.Math.Seq.{drop-append_seam}
use lib.ListN.{get_or-append}
use Rattle.question.specs.Cells.{small_of}
use Rattle.question.proofs.Nodes.{small_of_small}
use Rattle.stacks.specs.declared.marks.Question.{Question}
use Rattle.stacks.specs.Values.{marks_of, branch_of_three, question_of}

pub small_is : (n : ℕ) (z : ℤ) → n < 65536 → z ≡ pos n → small_of z ≡ n
small_is n z h e = ap small_of e ∙ small_of_small n h

-- marks that are followed by a branch
pub question_back : (v : Question) (marks branch : List ℤ) → length marks ≡ 7 → length branch ≡ 3 → marks_of marks ≡ v.marks → branch_of_three branch ≡ v.branch →
    question_of (marks ++ branch) ≡ v
question_back v marks branch l k e f =
    let stays : (d : ℕ) → d < 7 → get_or (marks ++ branch) d (pos 0) ≡ get_or marks d (pos 0) = λ d h. get_or-append marks branch (pos 0) d (omega arith) in
    let same : marks_of (marks ++ branch) ≡ marks_of marks = λ i. record {
      looks = small_of (stays 0 (omega arith) i);
      base = small_of (stays 1 (omega arith) i);
      done = small_of (stays 2 (omega arith) i);
      ahead = small_of (stays 3 (omega arith) i);
      count = small_of (stays 4 (omega arith) i);
      facts = small_of (stays 5 (omega arith) i);
      frames = small_of (stays 6 (omega arith) i);
    } in
    let x = same ∙ e in
    let after : drop 7 (marks ++ branch) ≡ branch = subst (λ n. drop n (marks ++ branch) ≡ branch) l (drop-append_seam marks branch) in
    let y = ap branch_of_three (ap (take 3) after ∙ take_all 3 branch (omega arith)) ∙ f in
    λ i. record { marks = x i; branch = y i }
