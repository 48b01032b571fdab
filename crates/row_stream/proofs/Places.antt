-- The first zero among the signs of a row. Assumes nothing.
use Rattle.std.proofs.Common.{◌≡◌, ℕ, suc, ◌+◌, ltb, arith, ap₂, length, take, Bool, true, false, cond, ◌||◌, List, [], ◌∷◌, Option, Some, None, refl, sym, ap, ◌∙◌, slice_get}
use Rattle.std.specs.List.{list_any, position, position_or_len}
use Rattle.std.specs.Option.{option_and_then, option_copied}
use Rattle.std.specs.Slice.{IsItemAt}
use Rattle.std.proofs.lemmas.Option.{slice_get_past, slice_get_read}
use denote.Ref.{Bor}
use Rattle.std.proofs.lemmas.Bool.Decides.{nat_tests}
use denote.Enum.Bare.{sameb}
use Rattle.field.specs.contracts.sign.Sign.{the_type}
use Rattle.field.specs.declared.sign.Sign.{Sign}
use Rattle.field.specs.declared.sign.Sign.TheVariants.{Neg, Zero, Pos}
use Rattle.sign_table.specs.Facts.{Is}
use Rattle.sign_table.specs.Deduce.{is_zero_sign, any_zero, at_root}
use Rattle.row_stream.specs.Known.{known_of}

is_zero_test : (s : Sign) → sameb the_type s Zero ≡ is_zero_sign s
is_zero_test Neg = refl
is_zero_test Zero = refl
is_zero_test Pos = refl

pub any_zero_is : (xs : List Sign) → list_any (λ s. sameb the_type s Zero) xs ≡ any_zero xs
unfolding any_zero
any_zero_is [] = refl
any_zero_is (x ∷ xs) = ap₂ (λ a b. a || b) (is_zero_test x) (any_zero_is xs)

-- the remainder at this place, if there is one
abbrev pub remainder_at : List Sign → Option ℕ → Option Sign
remainder_at rs place = option_and_then (slice_get rs) place

one_later : (r : Sign) (rs : List Sign) (b : Bool) (m : ℕ) → remainder_at (r ∷ rs) (cond b (Some (suc m)) None) ≡ remainder_at rs (cond b (Some m) None)
one_later r rs true m = refl
one_later r rs false m = refl

one_place_later : (r : Sign) (rs : List Sign) (m n : ℕ) → remainder_at (r ∷ rs) (cond (ltb (1 + m) (suc n)) (Some (1 + m)) None) ≡ remainder_at rs (cond (ltb m n) (Some m) None)
one_place_later r rs m n =
    let e : ltb (1 + m) (suc n) ≡ ltb m n = grind (arith, nat_tests) in
    let f : 1 + m ≡ suc m = omega arith in
    ap₂ (λ b k. remainder_at (r ∷ rs) (cond b (Some k) None)) e f ∙ one_later r rs (ltb m n) m

at_once : (r : Sign) (rs : List Sign) (n : ℕ) → remainder_at (r ∷ rs) (cond (ltb 0 (suc n)) (Some 0) None) ≡ Some r
at_once r rs n = let e : ltb 0 (suc n) ≡ true = grind (arith, nat_tests) in ap (λ b. remainder_at (r ∷ rs) (cond b (Some 0) None)) e

none_there : (place : Option ℕ) → remainder_at [] place ≡ None
none_there None = refl
none_there (Some i) = refl

pub root_at_first : (xs rs : List Sign) → known_of (remainder_at rs (position is_zero_sign xs)) ≡ at_root xs rs
unfolding at_root
root_at_first [] rs = refl
root_at_first (x ∷ xs) [] = ap known_of (none_there (position is_zero_sign (x ∷ xs)))
root_at_first (Zero ∷ xs) (r ∷ rs) = ap known_of (at_once r rs (length xs))
root_at_first (Neg ∷ xs) (r ∷ rs) = ap known_of (one_place_later r rs (position_or_len is_zero_sign xs) (length xs)) ∙ root_at_first xs rs
root_at_first (Pos ∷ xs) (r ∷ rs) = ap known_of (one_place_later r rs (position_or_len is_zero_sign xs) (length xs)) ∙ root_at_first xs rs

-- signs past the remainders change nothing
pub root_beyond : (xs rs : List Sign) → at_root (take (length rs) xs) rs ≡ at_root xs rs
unfolding at_root
root_beyond [] [] = refl
root_beyond [] (r ∷ rs) = refl
root_beyond (x ∷ xs) [] = refl
root_beyond (x ∷ xs) (r ∷ rs) = ap (λ k. cond (is_zero_sign x) (Is r) k) (root_beyond xs rs)

-- what `get` gives, copied
pub copied_get : (rs : List Sign) (i : ℕ) (r : Option (Bor Sign)) → IsItemAt rs i r → option_copied r ≡ slice_get rs i
copied_get rs i None h = sym (slice_get_past rs i h.3)
copied_get rs i (Some x) h = sym (slice_get_read rs (length rs) i x.now refl h.3.0 h.1)
