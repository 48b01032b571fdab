-- Names noted one by one, and the polynomials that they name.
use Rattle.std.proofs.Common.{◌≡◌, ℕ, ◌+◌, ◌*◌, ◌<◌, ◌≤◌, min, Bool, true, false, cond, ◌||◌, T, eqb, List, [], ◌∷◌, ◌++◌, map, reverse, length, get_or, ℤ, pos, negsuc, Ok, Err, Result, sym, refl, ap, ◌∙◌, subst, subst₂, arith}
use Rattle.std.proofs.Math.Bool.{or_assoc}
use mathlib.Core.List.{reverse-cons, reverse-append, map-append}
use lib.ListN.{length-map}
use Rattle.std.proofs.lemmas.List.{length-reverse}
use Rattle.std.proofs.lemmas.Bool.Decides.{nat_tests}
use native.Mathlib.Decide.{ℕ_discrete}
use Rattle.arena.specs.declared.arena.Full.{Full}
use Rattle.poly.specs.Poly.{Poly, End}
use Rattle.poly.specs.Arithmetic.{same}
use Rattle.sign_table.specs.Tree as sign
use Rattle.decision.specs.Asked.{is_among, asked}
use Rattle.decision.proofs.Asked.{same_refl}
use Rattle.question.specs.Cells.{small_of}
use Rattle.question.specs.declared.tree.Tree.{Tree}
use Rattle.question.specs.declared.tree.Tree.TheVariants.{Question as Numbered}
use Rattle.question.specs.declared.tree.Question.{Question}
use Rattle.question.specs.Nodes.{node_at}
use Rattle.question.specs.Denote.{Earlier, IsTree}
use Rattle.question.specs.Collect.{has_name, named_by, AllNamed, Apart, Notes, Collected, Collects}
use Rattle.question.proofs.Nodes.{small_of_small}

holds : (b : Bool) → T b → b ≡ true
holds true t = refl
holds false t = absurd t

fails : (b : Bool) → (T b → ⊥) → b ≡ false
fails true f = absurd (f tt)
fails false f = refl

or_swap : (a b : Bool) → (a || (b || false)) ≡ (b || a)
or_swap true true = refl
or_swap true false = refl
or_swap false true = refl
or_swap false false = refl

-- a polynomial is among those named just where its name is
module _ (n : ℕ) (ps : List Poly) (apart : Apart n ps) (k : ℕ) (known : k < length ps) (small : k < 65536) where
  same_name : (z : ℤ) → small_of z < length ps → same n (get_or ps k End) (get_or ps (small_of z) End) ≡ eqb (small_of z) k
  same_name z h = decided (ℕ_discrete (small_of z) k)
    where
      decided : Dec (small_of z ≡ k) → same n (get_or ps k End) (get_or ps (small_of z) End) ≡ eqb (small_of z) k
      decided (yes e) =
          let hit : eqb (small_of z) k ≡ true = grind (arith, nat_tests) in
          holds (same n (get_or ps k End) (get_or ps (small_of z) End)) (subst (λ j. T (same n (get_or ps k End) (get_or ps j End))) (sym e) (same_refl n (get_or ps k End))) ∙ sym hit
      decided (no d) =
          let miss : eqb (small_of z) k ≡ false = grind (arith, nat_tests) in
          fails (same n (get_or ps k End) (get_or ps (small_of z) End)) (λ t. d (sym (apart k (small_of z) known h t))) ∙ sym miss

  among-append : (qs rs : List Poly) (p : Poly) → is_among n p (qs ++ rs) ≡ (is_among n p qs || is_among n p rs)
  unfolding is_among
  among-append [] rs p = refl
  among-append (q ∷ qs) rs p = ap (λ b. same n p q || b) (among-append qs rs p) ∙ sym (or_assoc (same n p q) (is_among n p qs) (is_among n p rs))

  pub among-named : (zs : List ℤ) → AllNamed ps zs → is_among n (get_or ps k End) (named_by ps zs) ≡ has_name k zs
  unfolding is_among
  among-named [] a = refl
  among-named (z ∷ zs) a =
      ap (is_among n (get_or ps k End)) (ap (map (λ y. get_or ps (small_of y) End)) (reverse-cons z zs) ∙ map-append (λ y. get_or ps (small_of y) End) (reverse zs) (z ∷ [])) ∙
      among-append (named_by ps zs) (get_or ps (small_of z) End ∷ []) (get_or ps k End) ∙
      ap (λ b. b || (same n (get_or ps k End) (get_or ps (small_of z) End) || false)) (among-named zs a.1) ∙
      ap (λ b. has_name k zs || (b || false)) (same_name z a.0) ∙
      or_swap (has_name k zs) (eqb (small_of z) k)

asked-longer : (n : ℕ) (t : sign.Tree) (qs : List Poly) → length qs ≤ length (asked n t qs)
unfolding asked
asked-longer n sign.Yes qs = omega arith
asked-longer n sign.No qs = omega arith
asked-longer n sign.GivenUp qs = omega arith
asked-longer n (sign.Ask p a b c) qs =
    let cs = asked n c qs in
    let bs = asked n b cs in
    let x = asked-longer n c qs in
    let y = asked-longer n b cs in
    let z = asked-longer n a bs in
    let w = one-longer (is_among n p (asked n a bs)) (asked n a bs) in omega arith
  where
    one-longer : (e : Bool) (rs : List Poly) → length rs ≤ length (cond e rs (p ∷ rs))
    one-longer true rs = omega arith
    one-longer false rs = omega arith

length-named : (ps : List Poly) (zs : List ℤ) → length (named_by ps zs) ≡ length zs
length-named ps zs = length-map (reverse zs) (λ z. get_or ps (small_of z) End) ∙ length-reverse zs

one-longer : (e : Bool) (p : Poly) (rs : List Poly) → length rs ≤ length (cond e rs (p ∷ rs))
one-longer true p rs = omega arith
one-longer false p rs = omega arith

-- the last of a question's polynomials is its own
module _ (n : ℕ) (ps : List Poly) (apart : Apart n ps) (k : ℕ) (known : k < length ps) (small : k < 65536) (zs : List ℤ) (all : AllNamed ps zs) where
  named_more : named_by ps (zs ++ (pos k ∷ [])) ≡ (get_or ps k End ∷ named_by ps zs)
  named_more =
      ap (map (λ y. get_or ps (small_of y) End)) (reverse-append zs (pos k ∷ [])) ∙ ap (λ j. get_or ps j End ∷ named_by ps zs) (small_of_small k small)

  all_more : AllNamed ps (zs ++ (pos k ∷ []))
  all_more = more zs all
    where
      more : (ys : List ℤ) → AllNamed ps ys → AllNamed ps (ys ++ (pos k ∷ []))
      more [] a = (subst (λ j. j < length ps) (sym (small_of_small k small)) known, tt)
      more (y ∷ ys) a = (a.0, more ys a.1)

  pub noted : (r : Result (Unit {0}) Full) (room : ℕ) (after : List ℤ) → Notes r k zs room after →
      Collected r n ps (cond (is_among n (get_or ps k End) (named_by ps zs)) (named_by ps zs) (get_or ps k End ∷ named_by ps zs)) after room
  noted (Ok u) room after e =
      let p = get_or ps k End in
      subst (λ b. (named_by ps after ≡ cond b (named_by ps zs) (p ∷ named_by ps zs)) × AllNamed ps after) (sym (among-named n ps apart k known small zs all)) (kept (has_name k zs) e)
    where
      kept : (b : Bool) → after ≡ cond b zs (zs ++ (pos k ∷ [])) →
          (named_by ps after ≡ cond b (named_by ps zs) (get_or ps k End ∷ named_by ps zs)) × AllNamed ps after
      kept true f = (ap (named_by ps) f, subst (AllNamed ps) (sym f) all)
      kept false f = (ap (named_by ps) f ∙ named_more, subst (AllNamed ps) (sym f) all_more)
  noted (Err x) room after e =
      let p = get_or ps k End in
      let full : length (named_by ps zs) ≡ room = length-named ps zs ∙ e.1 in
      subst (λ b. room < length (cond b (named_by ps zs) (p ∷ named_by ps zs))) (sym (among-named n ps apart k known small zs all ∙ e.0)) (omega arith)

-- more are asked about than there is room for
abbrev pub Refuses : List ℤ → ℕ → Tree → List ℤ → ℕ → Type 0
Refuses cells limit t before room =
    (n : ℕ) (ps : List Poly) (s : sign.Tree) → Apart n ps → AllNamed ps before → IsTree ps cells s t → Earlier limit t → room < length (asked n s (named_by ps before))

-- a tree's polynomials: those above, then those at, then those below, then its own
module _ (cells : List ℤ) (limit : ℕ) (t : Tree) (before : List ℤ) (room : ℕ) where
  pub collects_none : ((i : ℕ) → t ≡ Numbered i → ⊥) → Collects {E = Full} cells limit t before (Ok tt) before room
  unfolding IsTree asked
  collects_none none n ps sign.Yes apart all h l = (refl, all)
  collects_none none n ps sign.No apart all h l = (refl, all)
  collects_none none n ps sign.GivenUp apart all h l = (refl, all)
  collects_none none n ps (sign.Ask p a b c) apart all h l = absurd (none h.place h.is)

  pub collects_beyond : (i len : ℕ) → t ≡ Numbered i → length cells ≤ 5 * len → min limit len ≤ i → Collects {E = Full} cells limit t before (Ok tt) before room
  unfolding IsTree asked
  collects_beyond i len e long o n ps sign.Yes apart all h l = (refl, all)
  collects_beyond i len e long o n ps sign.No apart all h l = (refl, all)
  collects_beyond i len e long o n ps sign.GivenUp apart all h l = (refl, all)
  collects_beyond i len e long o n ps (sign.Ask p a b c) apart all h l =
      let is = h.is in
      let same : h.place ≡ i = cc in
      let first : i < limit = subst (Earlier limit) e l in
      let inside : 5 * h.place + 5 ≤ length cells = h.inside in absurd (omega arith)

  small-below : (z : ℤ) → small_of z < 65536
  small-below (pos j) = grind (arith, nat_tests)
  small-below (negsuc j) = omega arith

  asked-parts : (n : ℕ) (p : Poly) (a b c : sign.Tree) (qs : List Poly) →
      (length (asked n c qs) ≤ length (asked n (sign.Ask p a b c) qs)) × (length (asked n b (asked n c qs)) ≤ length (asked n (sign.Ask p a b c) qs)) × (length (asked n a (asked n b (asked n c qs))) ≤ length (asked n (sign.Ask p a b c) qs))
  unfolding asked
  asked-parts n p a b c qs =
      let cs = asked n c qs in
      let bs = asked n b cs in
      let y = asked-longer n b cs in
      let z = asked-longer n a bs in
      let w = one-longer (is_among n p (asked n a bs)) p (asked n a bs) in omega arith

  -- what a `?` passes on
  passed_on : (y : Full) (r : Result (Unit {0}) Full) → r ≡ Err y → (later : List ℤ) → Refuses cells limit t before room → Collects cells limit t before r later room
  passed_on y r e later f = subst (λ u. Collects cells limit t before u later room) (sym e) f

  module _ (i : ℕ) (is : t ≡ Numbered i) (q : Question) (read : q ≡ node_at cells i) where
    opened : (P : sign.Tree → Type 0) (ps : List Poly) (s : sign.Tree) → IsTree ps cells s t →
        ((p : Poly) (a b c : sign.Tree) → get_or ps q.polynomial End ≡ p → q.polynomial < length ps → IsTree ps cells a q.below → IsTree ps cells b q.at → IsTree ps cells c q.above →
        Earlier i q.below → Earlier i q.at → Earlier i q.above → P (sign.Ask p a b c)) → P s
    unfolding IsTree
    opened P ps sign.Yes h k = absurd (cc)
    opened P ps sign.No h k = absurd (cc)
    opened P ps sign.GivenUp h k = absurd (cc)
    opened P ps (sign.Ask p a b c) h k =
        let there = h.is in
        let same : h.place ≡ i = cc in
        moved (node_at cells h.place) h.place (ap (node_at cells) same ∙ sym read) same h.about h.named h.below h.at h.above h.below_earlier h.at_earlier h.above_earlier
      where
        moved : (r : Question) (j : ℕ) → r ≡ q → j ≡ i → get_or ps r.polynomial End ≡ p → r.polynomial < length ps → IsTree ps cells a r.below → IsTree ps cells b r.at →
            IsTree ps cells c r.above → Earlier j r.below → Earlier j r.at → Earlier j r.above → P (sign.Ask p a b c)
        moved r j e f =
            subst₂ (λ u m. get_or ps u.polynomial End ≡ p → u.polynomial < length ps → IsTree ps cells a u.below → IsTree ps cells b u.at → IsTree ps cells c u.above →
            Earlier m u.below → Earlier m u.at → Earlier m u.above → P (sign.Ask p a b c)) (sym e) (sym f) (k p a b c)

    pub refused_above : Refuses cells i q.above before room → (y : Full) (r : Result (Unit {0}) Full) → r ≡ Err y → (later : List ℤ) → Collects cells limit t before r later room
    refused_above f y r e later =
        passed_on y r e later (λ n ps s apart all h l. opened (λ u. room < length (asked n u (named_by ps before))) ps s h (λ p a b c about known ha hb hc la lb lc.
        let bound = asked-parts n p a b c (named_by ps before) in
        let full : room < length (asked n c (named_by ps before)) = f n ps c apart all hc lc in omega arith))

    module _ (above : List ℤ) (done-above : Collects {E = Full} cells i q.above before (Ok tt) above room) where
      pub refused_at : (left : ℕ) → left ≡ room → Refuses cells i q.at above left → (y : Full) (r : Result (Unit {0}) Full) → r ≡ Err y → (later : List ℤ) → Collects cells limit t before r later room
      refused_at left same f y r e later =
          passed_on y r e later (λ n ps s apart all h l. opened (λ u. room < length (asked n u (named_by ps before))) ps s h (λ p a b c about known ha hb hc la lb lc.
          let bound = asked-parts n p a b c (named_by ps before) in
          let first = done-above n ps c apart all hc lc in
          let full : left < length (asked n b (asked n c (named_by ps before))) =
          subst (λ qs. left < length (asked n b qs)) first.0 (f n ps b apart first.1 hb lb) in omega arith))

      module _ (at : List ℤ) (done_at : Collects {E = Full} cells i q.at above (Ok tt) at room) where
        pub refused_below : (left : ℕ) → left ≡ room → Refuses cells i q.below at left → (y : Full) (r : Result (Unit {0}) Full) → r ≡ Err y → (later : List ℤ) → Collects cells limit t before r later room
        refused_below left same f y r e later =
            passed_on y r e later (λ n ps s apart all h l. opened (λ u. room < length (asked n u (named_by ps before))) ps s h (λ p a b c about known ha hb hc la lb lc.
            let bound = asked-parts n p a b c (named_by ps before) in
            let first = done-above n ps c apart all hc lc in
            let second = done_at n ps b apart first.1 hb lb in
            let full : left < length (asked n a (asked n b (asked n c (named_by ps before)))) =
            subst (λ qs. left < length (asked n a qs)) (second.0 ∙ ap (asked n b) first.0) (f n ps a apart second.1 ha la) in omega arith))

        pub collects_question : (below : List ℤ) → Collects {E = Full} cells i q.below at (Ok tt) below room → (left : ℕ) → left ≡ room →
            (r : Result (Unit {0}) Full) (after : List ℤ) → Notes r q.polynomial below left after → Collects cells limit t before r after room
        unfolding asked
        collects_question below Done-below left here r after notes n ps s apart all h l =
            opened (λ u. Collected r n ps (asked n u (named_by ps before)) after room) ps s h (λ p a b c about known ha hb hc la lb lc.
            let first = done-above n ps c apart all hc lc in
            let second = done_at n ps b apart first.1 hb lb in
            let third = Done-below n ps a apart second.1 ha la in
            let qs = asked n a (asked n b (asked n c (named_by ps before))) in
            let same : named_by ps below ≡ qs = third.0 ∙ ap (asked n a) (second.0 ∙ ap (asked n b) first.0) in
            let few : q.polynomial < 65536 = subst (λ u. u.polynomial < 65536) (sym read) (small-below (get_or cells (5 * i) (pos 0))) in
            let own : Collected r n ps (cond (is_among n (get_or ps q.polynomial End) (named_by ps below)) (named_by ps below) (get_or ps q.polynomial End ∷ named_by ps below)) after left =
            noted n ps apart q.polynomial known few below third.1 r left after notes in
            subst₂ (λ o us. Collected r n ps (cond (is_among n o us) us (o ∷ us)) after room) about same (subst (λ m. Collected r n ps (cond (is_among n (get_or ps q.polynomial End) (named_by ps below)) (named_by ps below) (get_or ps q.polynomial End ∷ named_by ps below)) after m) here own))
