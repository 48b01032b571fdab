-- Trees that ask nothing, and what makes an or, or a not, of two such trees yes or no. Assumes nothing.
use Rattle.std.proofs.Common.{◌≡◌, ℕ, ◌⊎◌, List, sym, inl, inr, arith}
use Rattle.field.specs.Field.{RealClosedField}
use Rattle.sign_table.specs.Tree.{Tree, Yes, No, GivenUp, Ask}
use Rattle.sign_table.specs.Meaning.{Says, YesOrNo, DepthTree}
use Rattle.decision.specs.RowAnswer.{or_tree, not_tree}

pub given_up_refused : {A : Type 0} {what : Tree} → YesOrNo what → what ≡ GivenUp → A
given_up_refused (inl y) e = let z : ◌≡◌ {A = ℕ} 0 1 = cc in absurd (omega arith)
given_up_refused (inr n) e = let z : ◌≡◌ {A = ℕ} 0 1 = cc in absurd (omega arith)

pub yes_not_no : {A : Type 0} → Yes ≡ No → A
yes_not_no e = let z : ◌≡◌ {A = ℕ} 0 1 = cc in absurd (omega arith)

abbrev pub AsksNothing : Tree → Type 0
AsksNothing Yes = Unit {0}
AsksNothing No = Unit {0}
AsksNothing GivenUp = Unit {0}
AsksNothing (Ask p a b c) = ⊥

pub nothing_or : (a b : Tree) → AsksNothing b → AsksNothing (or_tree a b)
nothing_or Yes b h = tt
nothing_or No b h = h
nothing_or GivenUp Yes h = tt
nothing_or GivenUp No h = tt
nothing_or GivenUp GivenUp h = tt
nothing_or GivenUp (Ask p a b c) h = tt
nothing_or (Ask p a b c) t h = tt

pub nothing_not : (a : Tree) → AsksNothing (not_tree a)
nothing_not Yes = tt
nothing_not No = tt
nothing_not GivenUp = tt
nothing_not (Ask p a b c) = tt

pub Depth-nothing : (n : ℕ) (t : Tree) → AsksNothing t → DepthTree n t
unfolding DepthTree
Depth-nothing n Yes h = tt
Depth-nothing n No h = tt
Depth-nothing n GivenUp h = tt
Depth-nothing n (Ask p a b c) h = absurd h

pub says_itself : {R : Type 0} (f : RealClosedField R) (e : List R) (what t : Tree) → AsksNothing t → Says f what t e → t ≡ what
unfolding Says
says_itself f e what Yes h s = sym s
says_itself f e what No h s = sym s
says_itself f e what GivenUp h s = sym s
says_itself f e what (Ask p a b c) h s = absurd h

pub not_yes : (a : Tree) → not_tree a ≡ Yes → a ≡ No
not_yes Yes e = cc
not_yes No e = cc
not_yes GivenUp e = cc
not_yes (Ask p a b c) e = cc

pub not_no : (a : Tree) → not_tree a ≡ No → a ≡ Yes
not_no Yes e = cc
not_no No e = cc
not_no GivenUp e = cc
not_no (Ask p a b c) e = cc

pub or_yes : (a b : Tree) → or_tree a b ≡ Yes → (a ≡ Yes) ⊎ (b ≡ Yes)
or_yes Yes b e = inl e
or_yes No b e = inr e
or_yes GivenUp Yes e = inr e
or_yes GivenUp No e = inl (cc)
or_yes GivenUp GivenUp e = inl e
or_yes GivenUp (Ask p a b c) e = inl e
or_yes (Ask p a b c) t e = inl (cc)

pub or_no : (a b : Tree) → or_tree a b ≡ No → (a ≡ No) × (b ≡ No)
or_no Yes b e = (e, cc)
or_no No b e = (cc, e)
or_no GivenUp Yes e = (cc, cc)
or_no GivenUp No e = (cc, cc)
or_no GivenUp GivenUp e = (cc, cc)
or_no GivenUp (Ask p a b c) e = (cc, cc)
or_no (Ask p a b c) t e = (cc, cc)
