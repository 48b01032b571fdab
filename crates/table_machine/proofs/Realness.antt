-- Going through what is left of a table's polynomials. Assumes nothing.
use Rattle.std.proofs.Common.{◌≡◌, ℕ, zero, suc, ◌+◌, ◌-◌, ◌<◌, Bool, true, false, cond, ltb, List, [], ◌∷◌, ◌++◌, length, get_or, Some, None, Option, sym, refl, ap, ◌∙◌, subst, append_assoc, arith, length-append}
use Rattle.std.proofs.lemmas.List.{get_or_at, get_or_append_left}
use Rattle.field.specs.declared.sign.Sign.{Sign}
use Rattle.poly.specs.Poly.{Poly}
use Rattle.poly.specs.Leading.{degree}
use Rattle.terms.specs.LeadingTerms.{degree_terms}
use Rattle.storage.proofs.Denoting.{denoting_laws}
use Rattle.sign_table.specs.Table.{poly_of, highest, none_left}
use Rattle.sign_table.specs.Leadings.{Left, Plain, Real, reals, turned_round}
use Rattle.machine.specs.Stacks.{back, forth}
use Rattle.stacks.specs.declared.marks.Marks.{Marks}
use Rattle.stacks.specs.Values.{left_in}
use Rattle.stacks.specs.Memories.{Cells, AllHold, front_poly, left_with}
use Rattle.table_machine.specs.declared.outlook.Top.{Top}
use Rattle.table_machine.specs.Told.{front_terms}
use Rattle.table_machine.specs.Reals.{table_left, reals_from, Highest, HighestSoFar, FoundHighest, top_here, higher_of}
use Rattle.table_machine.proofs.Telling.{front-denotes}

turned : (f : ℕ → Left) (k j : ℕ) → turned_round (back f k) (forth f k j) ≡ forth f 0 (k + j)
unfolding turned_round back forth
turned f zero j = let e : j ≡ zero + j = omega arith in ap (forth f 0) e
turned f (suc k) j = let e : k + suc j ≡ suc k + j = omega arith in turned f k (suc j) ∙ ap (forth f 0) e

-- from the first to the last
pub turned_forth : (f : ℕ → Left) (k : ℕ) → turned_round (back f k) [] ≡ forth f 0 k
turned_forth f k =
    let e : k + 0 ≡ k = omega arith in
    ap (turned_round (back f k)) (none f k) ∙ turned f k 0 ∙ ap (forth f 0) e
  where
    none : (f : ℕ → Left) (k : ℕ) → [] ≡ forth f k 0
    none f k = unfold forth in refl

forth_more : (f : ℕ → Left) (i k : ℕ) → i < k → forth f i (k - i) ≡ f i ∷ forth f (i + 1) (k - (i + 1))
forth_more f i k h =
    let e : k - i ≡ suc (k - (i + 1)) = omega arith in
    let j : suc i ≡ i + 1 = omega arith in
    ap (forth f i) e ∙ cons (k - (i + 1)) ∙ ap (λ a. f i ∷ forth f a (k - (i + 1))) j
  where
    cons : (d : ℕ) → forth f i (suc d) ≡ f i ∷ forth f (suc i) d
    cons d = unfold forth in refl

reals-plain : (s : Sign) (ls : List Left) → reals (Plain s ∷ ls) ≡ reals ls
reals-plain s ls = unfold reals in refl

reals_real : (p : Poly) (s : Sign) (ls : List Left) → reals (Real p s ∷ ls) ≡ Real p s ∷ reals ls
reals_real p s ls = unfold reals in refl

left_plain : (k : ℕ) (p : Poly) (s : Sign) → k ≡ 0 → left_with k p s ≡ Plain s
left_plain zero p s e = refl
left_plain (suc k) p s e = let z : ◌≡◌ {A = ℕ} 0 1 = omega arith in absurd (omega arith)

left_real : (k : ℕ) (p : Poly) (s : Sign) → 0 < k → left_with k p s ≡ Real p s
left_real zero p s h = absurd (omega arith)
left_real (suc k) p s h = refl

pub plain-passed : (n : ℕ) (c : Cells) (m : Marks) (i : ℕ) → i < m.done → (left_in c.lefts (m.base + i)).count ≡ 0 → reals_from n c m (i + 1) ≡ reals_from n c m i
plain-passed n c m i h z =
    let l = left_in c.lefts (m.base + i) in
    let p = front_poly n c.slots (m.base + i) l.count in
    let rest = forth (table_left n c m) (i + 1) (m.done - (i + 1)) in
    sym (ap reals (forth_more (table_left n c m) i m.done h) ∙ ap (λ v. reals (v ∷ rest)) (left_plain l.count p l.sign z) ∙ reals-plain l.sign rest)

pub real_here : (n : ℕ) (c : Cells) (m : Marks) (i : ℕ) → i < m.done → 0 < (left_in c.lefts (m.base + i)).count → reals_from n c m i ≡ table_left n c m i ∷ reals_from n c m (i + 1)
real_here n c m i h z =
    let l = left_in c.lefts (m.base + i) in
    let p = front_poly n c.slots (m.base + i) l.count in
    let rest = forth (table_left n c m) (i + 1) (m.done - (i + 1)) in
    let e = left_real l.count p l.sign z in
    ap reals (forth_more (table_left n c m) i m.done h) ∙ ap (λ v. reals (v ∷ rest)) e ∙ reals_real p l.sign rest ∙ ap (λ v. v ∷ reals rest) (sym e)

pub none_after : (n : ℕ) (c : Cells) (m : Marks) → reals_from n c m m.done ≡ []
none_after n c m = let e : m.done - m.done ≡ 0 = omega arith in ap (λ k. reals (forth (table_left n c m) m.done k)) e ∙ none
  where
    none : reals (forth (table_left n c m) m.done 0) ≡ []
    none = unfold reals forth in refl

poly_of_lem : (k : ℕ) (p : Poly) (s : Sign) → 0 < k → poly_of (left_with k p s) ≡ p
poly_of_lem k p s h = ap poly_of (left_real k p s h)

pub degree_is : (n : ℕ) (c : Cells) (m : Marks) (i : ℕ) → AllHold n c.slots → 0 < (left_in c.lefts (m.base + i)).count →
    degree_terms n (front_terms c.slots (m.base + i) (left_in c.lefts (m.base + i)).count) ≡ degree (poly_of (table_left n c m i))
degree_is n c m i h r =
    let l = left_in c.lefts (m.base + i) in
    let p = front_poly n c.slots (m.base + i) l.count in
    denoting_laws.degree_is n (front_terms c.slots (m.base + i) l.count) p (front-denotes n c.slots (m.base + i) l.count h) ∙ ap degree (sym (poly_of_lem l.count p l.sign r))

-- the first real one is the highest so far
highest-first : (n : ℕ) (c : Cells) (m : Marks) (i : ℕ) → i < m.done → 0 < (left_in c.lefts (m.base + i)).count → reals_from n c m i ≡ reals_from n c m 0 →
    Highest n c m 1 (i + 1) (top_here n c m i 0)
highest-first n c m i h r same =
    record {
      first = table_left n c m i;
      others = reals_from n c m (i + 1);
      all = sym same ∙ real_here n c m i h r;
      best = refl;
      front = table_left n c m i ∷ [];
      parted = refl;
      counted = refl;
      here = refl;
      place_bound = omega arith;
      index_bound = h;
      few = omega arith;
    }

highest_cons : (count b d : ℕ) (l : Left) (ls : List Left) (t : Bool) → ltb d (degree (poly_of l)) ≡ t →
    highest count b d (l ∷ ls) ≡ (elim t as (λ _. ℕ) [ true ↦ highest (count + 1) count (degree (poly_of l)) ls | false ↦ highest (count + 1) b d ls ])
unfolding highest
highest_cons count b d l ls t e = ap (λ t. elim t as (λ _. ℕ) [ true ↦ highest (count + 1) count (degree (poly_of l)) ls | false ↦ highest (count + 1) b d ls ]) e

pub highest-next : (n : ℕ) (c : Cells) (m : Marks) (count i : ℕ) (t : Top) → Highest n c m count i t → i < m.done → 0 < (left_in c.lefts (m.base + i)).count →
    Highest n c m (count + 1) (i + 1) (higher_of n c m (Some t) i count)
highest-next n c m count i t h l r = by (ltb t.degree (degree (poly_of (table_left n c m i)))) refl (real_here n c m i l r)
  where
    same : (from : reals_from n c m i ≡ table_left n c m i ∷ reals_from n c m (i + 1)) → h.first ∷ h.others ≡ (h.front ++ table_left n c m i ∷ []) ++ reals_from n c m (i + 1)
    same from = h.parted ∙ ap (λ z. h.front ++ z) from ∙ sym (append_assoc h.front (table_left n c m i ∷ []) (reals_from n c m (i + 1)))

    longer : length (h.front ++ table_left n c m i ∷ []) ≡ count + 1
    longer = length-append h.front (table_left n c m i ∷ []) ∙ ap (λ z. z + 1) h.counted

    by : (x : Bool) → ltb t.degree (degree (poly_of (table_left n c m i))) ≡ x → reals_from n c m i ≡ table_left n c m i ∷ reals_from n c m (i + 1) →
        Highest n c m (count + 1) (i + 1) (cond x (top_here n c m i count) t)
    by true x from =
        record {
          first = h.first;
          others = h.others;
          all = h.all;
          best = h.best ∙ ap (highest count t.place t.degree) from ∙ highest_cons count t.place t.degree (table_left n c m i) (reals_from n c m (i + 1)) true x;
          front = h.front ++ table_left n c m i ∷ [];
          parted = same from;
          counted = longer;
          here = get_or_at h.front (table_left n c m i) [] none_left count h.counted;
          place_bound = omega arith;
          index_bound = l;
          few = omega (arith, h.few);
        }
    by false x from =
        record {
          first = h.first;
          others = h.others;
          all = h.all;
          best = h.best ∙ ap (highest count t.place t.degree) from ∙ highest_cons count t.place t.degree (table_left n c m i) (reals_from n c m (i + 1)) false x;
          front = h.front ++ table_left n c m i ∷ [];
          parted = same from;
          counted = longer;
          here = get_or_append_left h.front (table_left n c m i ∷ []) none_left t.place (omega (arith, h.place_bound, h.counted)) ∙ h.here;
          place_bound = omega (arith, h.place_bound);
          index_bound = h.index_bound;
          few = omega (arith, h.few);
        }

pub highest_found : (n : ℕ) (c : Cells) (m : Marks) (count i : ℕ) (t : Top) → Highest n c m count i t → i ≡ m.done → FoundHighest n c m (Some t)
highest_found n c m count i t h e =
    let none : reals_from n c m i ≡ [] = ap (reals_from n c m) e ∙ none_after n c m in (
      h.first,
      h.others,
      h.all,
      sym (h.best ∙ ap (highest count t.place t.degree) none ∙ last count t.place t.degree),
      ap (λ z. get_or z t.place none_left) h.parted ∙ get_or_append_left h.front (reals_from n c m i) none_left t.place (omega (arith, h.place_bound, h.counted)) ∙ h.here,
      h.index_bound,
    )
  where
    last : (count b d : ℕ) → highest count b d [] ≡ b
    last count b d = unfold highest in refl

-- one that isn't real is passed
highest-passed : (n : ℕ) (c : Cells) (m : Marks) (count i : ℕ) (t : Top) → Highest n c m count i t → reals_from n c m (i + 1) ≡ reals_from n c m i → Highest n c m count (i + 1) t
highest-passed n c m count i t h e =
    record {
      first = h.first;
      others = h.others;
      all = h.all;
      best = h.best ∙ ap (highest count t.place t.degree) (sym e);
      front = h.front;
      parted = h.parted ∙ ap (λ z. h.front ++ z) (sym e);
      counted = h.counted;
      here = h.here;
      place_bound = h.place_bound;
      index_bound = h.index_bound;
      few = omega (arith, h.few);
    }

module _ (n : ℕ) (c : Cells) (m : Marks) (count i : ℕ) where
  pub real_one : (top : Option Top) → HighestSoFar n c m count i top → i < m.done → 0 < (left_in c.lefts (m.base + i)).count →
      HighestSoFar n c m (count + 1) (i + 1) (Some (higher_of n c m top i count))
  real_one None h l r = subst (λ k. Highest n c m (k + 1) (i + 1) (top_here n c m i k)) (sym h.0) (highest-first n c m i l r h.1)
  real_one (Some t) h l r = highest-next n c m count i t h l r

  pub plain_one : (top : Option Top) → HighestSoFar n c m count i top → i < m.done → (left_in c.lefts (m.base + i)).count ≡ 0 → HighestSoFar n c m count (i + 1) top
  plain_one None h l z = (h.0, plain-passed n c m i l z ∙ h.1)
  plain_one (Some t) h l z = highest-passed n c m count i t h (plain-passed n c m i l z)

  pub found : (top : Option Top) → HighestSoFar n c m count i top → i ≡ m.done → FoundHighest n c m top
  found None h e = sym h.1 ∙ ap (reals_from n c m) e ∙ none_after n c m
  found (Some t) h e = highest_found n c m count i t h e
