-- Where a name stands in a list.
use Rattle.std.proofs.Common.{◌≡◌, ℕ, suc, ◌+◌, Bool, true, false, cond, not, ltb, List, [], ◌∷◌, length, Some, None, Option, refl, ap, ◌∙◌, arith}
use Rattle.std.specs.List.{position_or_len}
use Rattle.std.specs.Str.{bytes_eq}
use Rattle.grammar.specs.declared.word.Word.{Word}
use Rattle.grammar.specs.Tokens.{position}

ltb-suc : (a b : ℕ) → ltb (1 + a) (suc b) ≡ ltb a b
ltb-suc a b = grind arith

ltb-zero-suc : (b : ℕ) → ltb 0 (suc b) ≡ true
ltb-zero-suc b = grind arith

pub first_place : (names : List Word) (w : Word) → cond (ltb (position_or_len (λ (v : Word). bytes_eq v.letters w.letters) names) (length names)) (Some (position_or_len (λ (v : Word). bytes_eq v.letters w.letters) names)) None ≡ position names w
unfolding position
first_place [] w = refl
first_place (v ∷ names) w = go (bytes_eq v.letters w.letters) (first_place names w)
  where
    place : ℕ
    place = position_or_len (λ (u : Word). bytes_eq u.letters w.letters) names

    later : (b : Bool) → cond b (Some (1 + place)) None ≡ elim (cond b (Some place) None) [ None ↦ None | Some i ↦ Some (suc i) ]
    later true = ap {B = Option ℕ} (λ n. Some n) (omega arith)
    later false = refl

    go : (here : Bool) → cond (ltb place (length names)) (Some place) None ≡ position names w → cond (ltb (cond (not here) (1 + place) 0) (suc (length names))) (Some (cond (not here) (1 + place) 0)) None ≡ cond here (Some 0) (elim (position names w) [ None ↦ None | Some i ↦ Some (suc i) ])
    go true e = ap (λ b. cond b (Some 0) None) (ltb-zero-suc (length names))
    go false e = ap (λ b. cond b (Some (1 + place)) None) (ltb-suc place (length names)) ∙ later (ltb place (length names)) ∙ ap (λ (o : Option ℕ). elim o [ None ↦ None | Some i ↦ Some (suc i) ]) e
