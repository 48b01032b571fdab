-- The polynomials that a tree asks about: all of them are listed, and each has the tree's count of variables. Assumes nothing.
use Rattle.std.proofs.Common.{ℕ, zero, suc, Bool, true, false, cond, ◌&&◌, ◌||◌, T, List, [], ◌∷◌, sym, subst}
use lib.IntN.{+ℤ_invr}
use Rattle.poly.specs.Poly.{Poly, coefs, the_number, is_zero_number}
use Rattle.poly.specs.Arithmetic.{same_by, same}
use Rattle.poly.specs.Value.{Depth}
use Rattle.sign_table.specs.Tree.{Tree, Yes, No, GivenUp, Ask}
use Rattle.sign_table.specs.Meaning.{DepthTree, DepthAll}
use Rattle.decision.specs.Asked.{is_among, asked}

both_hold : (a b : Bool) → T a → T b → T (a && b)
both_hold true b h k = k
both_hold false b h k = absurd h

first_holds : (a b : Bool) → T a → T (a || b)
first_holds true b h = tt
first_holds false b h = absurd h

second_holds : (a b : Bool) → T b → T (a || b)
second_holds true b h = tt
second_holds false b h = h

same_by_refl : (g : Poly → Poly → Bool) → ((p : Poly) → T (g p p)) → (ps : List Poly) → T (same_by g ps ps)
unfolding same_by
same_by_refl g h [] = tt
same_by_refl g h (p ∷ ps) = both_hold (g p p) (same_by g ps ps) (h p) (same_by_refl g h ps)

pub same_refl : (n : ℕ) (p : Poly) → T (same n p p)
unfolding same
same_refl zero p = subst (λ z. T (is_zero_number z)) (sym (+ℤ_invr (the_number p))) tt
same_refl (suc n) p = same_by_refl (same n) (same_refl n) (coefs p)

-- all of ps are among qs
abbrev Extends : ℕ → List Poly → List Poly → Type 0
Extends n ps qs = (p : Poly) → T (is_among n p ps) → T (is_among n p qs)

-- all that the tree asks about are among ps
unfoldable pub AllAmong : ℕ → Tree → List Poly → Type 0
AllAmong n Yes ps = Unit {0}
AllAmong n No ps = Unit {0}
AllAmong n GivenUp ps = Unit {0}
AllAmong n (Ask p a b c) ps = T (is_among n p ps) × AllAmong n a ps × AllAmong n b ps × AllAmong n c ps

all_extends : (n : ℕ) (t : Tree) (ps qs : List Poly) → Extends n ps qs → AllAmong n t ps → AllAmong n t qs
unfolding AllAmong
all_extends n Yes ps qs h k = tt
all_extends n No ps qs h k = tt
all_extends n GivenUp ps qs h k = tt
all_extends n (Ask p a b c) ps qs h k = (h p k.0, all_extends n a ps qs h k.1, all_extends n b ps qs h k.2, all_extends n c ps qs h k.3)

-- p put in front unless it is among ps already
abbrev one_more : ℕ → Poly → List Poly → List Poly
one_more n p ps = cond (is_among n p ps) ps (p ∷ ps)

one_more_extends : (n : ℕ) (p : Poly) (ps : List Poly) → Extends n ps (one_more n p ps)
unfolding is_among
one_more_extends n p ps = either (is_among n p ps)
  where
    either : (b : Bool) → Extends n ps (cond b ps (p ∷ ps))
    either true q h = h
    either false q h = second_holds (same n q p) (is_among n q ps) h

one_more_has : (n : ℕ) (p : Poly) (ps : List Poly) → T (is_among n p (one_more n p ps))
unfolding is_among
one_more_has n p ps = either (is_among n p ps) (λ h. h)
  where
    either : (b : Bool) → (T b → T (is_among n p ps)) → T (is_among n p (cond b ps (p ∷ ps)))
    either true h = h tt
    either false h = first_holds (same n p p) (is_among n p ps) (same_refl n p)

asked_extends : (n : ℕ) (t : Tree) (ps : List Poly) → Extends n ps (asked n t ps)
unfolding asked
asked_extends n Yes ps q h = h
asked_extends n No ps q h = h
asked_extends n GivenUp ps q h = h
asked_extends n (Ask p a b c) ps q h =
    let cs = asked n c ps in
    let bs = asked n b cs in
    one_more_extends n p (asked n a bs) q (asked_extends n a bs q (asked_extends n b cs q (asked_extends n c ps q h)))

pub all_asked : (n : ℕ) (t : Tree) (ps : List Poly) → AllAmong n t (asked n t ps)
unfolding asked AllAmong
all_asked n Yes ps = tt
all_asked n No ps = tt
all_asked n GivenUp ps = tt
all_asked n (Ask p a b c) ps =
    let cs = asked n c ps in
    let bs = asked n b cs in
    let as' = asked n a bs in
    let more = one_more n p as' in
    let from-a : Extends n as' more = one_more_extends n p as' in
    let from-b : Extends n bs more = λ q h. from-a q (asked_extends n a bs q h) in
    let from-c : Extends n cs more = λ q h. from-b q (asked_extends n b cs q h) in
    (one_more_has n p as', all_extends n a as' more from-a (all_asked n a bs), all_extends n b bs more from-b (all_asked n b cs), all_extends n c cs more from-c (all_asked n c ps))

Depth-one_more : (n : ℕ) (p : Poly) (ps : List Poly) → Depth n p → DepthAll n ps → DepthAll n (one_more n p ps)
Depth-one_more n p ps d ds = either (is_among n p ps)
  where
    either : (b : Bool) → DepthAll n (cond b ps (p ∷ ps))
    either true = ds
    either false = (d, ds)

pub Depth-asked : (n : ℕ) (t : Tree) (ps : List Poly) → DepthTree n t → DepthAll n ps → DepthAll n (asked n t ps)
unfolding asked DepthTree
Depth-asked n Yes ps d ds = ds
Depth-asked n No ps d ds = ds
Depth-asked n GivenUp ps d ds = ds
Depth-asked n (Ask p a b c) ps d ds =
    let cs = asked n c ps in
    let bs = asked n b cs in
    Depth-one_more n p (asked n a bs) d.0 (Depth-asked n a bs d.1 (Depth-asked n b cs d.2 (Depth-asked n c ps d.3 ds)))
