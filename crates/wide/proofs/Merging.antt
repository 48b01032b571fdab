-- The next monomial of a sum. Assumes nothing.
use Rattle.std.proofs.Common.{◌≡◌, ℕ, ◌+◌, ◌<◌, ◌≤◌, Bool, true, false, ltb, List, [], ◌∷◌, ◌++◌, length, drop, ◌+ℤ◌, sym, refl, ap, ◌∙◌, ap₂, append_assoc, arith, length-append, drop_of_length-le, le-ltb, lt-ltb}
use lib.Seq.{drop-length}
use Rattle.poly.specs.Poly.{is_zero_number}
use Rattle.terms.specs.Monomial.{Monomial, monomial}
use Rattle.terms.specs.Operations.{put_term, merge_term, add_terms}
use Rattle.terms.proofs.Tests.{on_test}
use Rattle.packed.specs.Terms.{term_at}
use Rattle.packed.proofs.Leading.{from_place}
use Rattle.wide.specs.Merging.{Merged, Going}

merge_end : (a : Monomial) (p : List Monomial) → add_terms (a ∷ p) [] ≡ a ∷ add_terms p []
unfolding add_terms merge_term
merge_end a p = refl

-- the sum from here on, by what the two tests of the keys say
by_tests : (a b : Monomial) (p q : List Monomial) → Bool → Bool → List Monomial
by_tests a b p q t u =
    elim t [
      | true ↦ a ∷ add_terms p (b ∷ q)
      | false ↦ elim u [ true ↦ b ∷ add_terms (a ∷ p) q | false ↦ put_term (monomial a.key (a.times +ℤ b.times)) (add_terms p q) ]
    ]

by_tests_lem : (a b : Monomial) (p q : List Monomial) → add_terms (a ∷ p) (b ∷ q) ≡ by_tests a b p q (ltb a.key b.key) (ltb b.key a.key)
unfolding add_terms merge_term by_tests
by_tests_lem a b p q = refl

merge_left : (a b : Monomial) (p q : List Monomial) → a.key < b.key → add_terms (a ∷ p) (b ∷ q) ≡ a ∷ add_terms p (b ∷ q)
unfolding by_tests
merge_left a b p q h = by_tests_lem a b p q ∙ ap (λ t. by_tests a b p q t (ltb b.key a.key)) (lt-ltb a.key b.key h)

merge_right : (a b : Monomial) (p q : List Monomial) → b.key < a.key → add_terms (a ∷ p) (b ∷ q) ≡ b ∷ add_terms (a ∷ p) q
unfolding by_tests
merge_right a b p q h =
    let n : b.key ≤ a.key = omega arith in by_tests_lem a b p q ∙ ap₂ (by_tests a b p q) (le-ltb a.key b.key n) (lt-ltb b.key a.key h)

merge_both : (a b : Monomial) (p q : List Monomial) → a.key ≡ b.key → add_terms (a ∷ p) (b ∷ q) ≡ put_term (monomial a.key (a.times +ℤ b.times)) (add_terms p q)
unfolding by_tests
merge_both a b p q e =
    let n : b.key ≤ a.key = omega arith in
    let m : a.key ≤ b.key = omega arith in
    by_tests_lem a b p q ∙ ap₂ (by_tests a b p q) (le-ltb a.key b.key n) (le-ltb b.key a.key m)

pub put_none : (m : Monomial) → is_zero_number m.times ≡ true → put_term m [] ≡ []
unfolding put_term
put_none m z = rw (z, put_term)

pub put_one : (m : Monomial) → is_zero_number m.times ≡ false → put_term m [] ≡ m ∷ []
unfolding put_term
put_one m z = rw (z, put_term)

-- where a merge begins
pub begun : (left right : List Monomial) → Going left right 0 0 []
begun left right = record { whole = refl; left_within = omega arith; right_within = omega arith; short = omega arith }

pub going_on : (left right : List Monomial) (i j : ℕ) (out : List Monomial) (i' j' : ℕ) (out' : List Monomial) → Going left right i j out → Merged left right i j out i' j' out' → Going left right i' j' out'
going_on left right i j out i' j' out' g m = record { whole = m.same ∙ g.whole; left_within = m.left_within; right_within = m.right_within; short = m.short }

-- the left list is used up
pub ended : (left right : List Monomial) (i j : ℕ) (out : List Monomial) → Going left right i j out → length left ≤ i → out ++ drop j right ≡ add_terms left right
unfolding add_terms
ended left right i j out g h =
    let gone : drop i left ≡ [] = drop_of_length-le left h in
    ap (λ w. out ++ add_terms w (drop j right)) (sym gone) ∙ g.whole

module _ (left right : List Monomial) (i j : ℕ) (out : List Monomial) (short : length out ≤ i + j) where
  length-one : (m : Monomial) → length (out ++ m ∷ []) ≡ length out + 1
  length-one m = length-append out (m ∷ [])

  -- the right list is used up
  pub merged_end : (out' : List Monomial) → out' ≡ out ++ term_at left i ∷ [] → i < length left → j ≡ length right → Merged left right i j out (i + 1) j out'
  merged_end out' e h g =
      let gone : drop j right ≡ [] = ap (λ k. drop k right) g ∙ drop-length right in
      record {
        same =
            ap (λ w. w ++ add_terms (drop (i + 1) left) (drop j right)) e ∙ append_assoc out (term_at left i ∷ []) (add_terms (drop (i + 1) left) (drop j right)) ∙
            ap (λ w. out ++ w)
            (ap (λ w. term_at left i ∷ add_terms (drop (i + 1) left) w) gone ∙ sym (merge_end (term_at left i) (drop (i + 1) left)) ∙
            sym (ap₂ add_terms (from_place left i h) gone));
        left_within = omega arith;
        right_within = omega arith;
        further = omega arith;
        short = omega (arith, ap length e, length-one (term_at left i));
      }

  -- the left key is lower
  pub merged_left : (out' : List Monomial) → out' ≡ out ++ term_at left i ∷ [] → i < length left → j < length right →
      (term_at left i).key < (term_at right j).key → Merged left right i j out (i + 1) j out'
  merged_left out' e h g l =
      record {
        same =
            ap (λ w. w ++ add_terms (drop (i + 1) left) (drop j right)) e ∙ append_assoc out (term_at left i ∷ []) (add_terms (drop (i + 1) left) (drop j right)) ∙
            ap (λ w. out ++ w)
            (ap (λ w. term_at left i ∷ add_terms (drop (i + 1) left) w) (from_place right j g) ∙
            sym (merge_left (term_at left i) (term_at right j) (drop (i + 1) left) (drop (j + 1) right) l) ∙ sym (ap₂ add_terms (from_place left i h) (from_place right j g)));
        left_within = omega arith;
        right_within = omega arith;
        further = omega arith;
        short = omega (arith, ap length e, length-one (term_at left i));
      }

  -- the right key is lower
  pub merged_right : (out' : List Monomial) → out' ≡ out ++ term_at right j ∷ [] → i < length left → j < length right →
      (term_at right j).key < (term_at left i).key → Merged left right i j out i (j + 1) out'
  merged_right out' e h g l =
      record {
        same =
            ap (λ w. w ++ add_terms (drop i left) (drop (j + 1) right)) e ∙ append_assoc out (term_at right j ∷ []) (add_terms (drop i left) (drop (j + 1) right)) ∙
            ap (λ w. out ++ w)
            (ap (λ w. term_at right j ∷ add_terms w (drop (j + 1) right)) (from_place left i h) ∙
            sym (merge_right (term_at left i) (term_at right j) (drop (i + 1) left) (drop (j + 1) right) l) ∙ sym (ap₂ add_terms (from_place left i h) (from_place right j g)));
        left_within = omega arith;
        right_within = omega arith;
        further = omega arith;
        short = omega (arith, ap length e, length-one (term_at right j));
      }

  both_places : i < length left → j < length right → (term_at left i).key ≡ (term_at right j).key →
      add_terms (drop i left) (drop j right) ≡
      put_term (monomial (term_at left i).key ((term_at left i).times +ℤ (term_at right j).times)) (add_terms (drop (i + 1) left) (drop (j + 1) right))
  both_places h g l =
      ap₂ add_terms (from_place left i h) (from_place right j g) ∙ merge_both (term_at left i) (term_at right j) (drop (i + 1) left) (drop (j + 1) right) l

  put_in_front : (m : Monomial) (ms : List Monomial) → put_term m ms ≡ put_term m [] ++ ms
  unfolding put_term
  put_in_front m ms = on_test (is_zero_number m.times) (λ t. elim t [ true ↦ ms | false ↦ m ∷ ms ] ≡ elim t [ true ↦ [] | false ↦ m ∷ [] ] ++ ms) (λ _. refl) (λ _. refl)

  put-short : (m : Monomial) → length (put_term m []) ≤ 1
  unfolding put_term
  put-short m = on_test (is_zero_number m.times) (λ t. length {A = Monomial} (elim t [ true ↦ [] | false ↦ m ∷ [] ]) ≤ 1) (λ _. omega arith) (λ _. omega arith)

  -- the keys are alike, and the coefficients are added
  pub merged_both : (out' : List Monomial) → out' ≡ out ++ put_term (monomial (term_at left i).key ((term_at left i).times +ℤ (term_at right j).times)) [] → i < length left → j < length right →
      (term_at left i).key ≡ (term_at right j).key → Merged left right i j out (i + 1) (j + 1) out'
  merged_both out' e h g l =
      let m = monomial (term_at left i).key ((term_at left i).times +ℤ (term_at right j).times) in
      let more = add_terms (drop (i + 1) left) (drop (j + 1) right) in
      record {
        same = ap (λ w. w ++ more) e ∙ append_assoc out (put_term m []) more ∙ ap (λ w. out ++ w) (sym (both_places h g l ∙ put_in_front m more));
        left_within = omega arith;
        right_within = omega arith;
        further = omega arith;
        short = omega (arith, ap length e, length-append out (put_term m []), put-short m);
      }
