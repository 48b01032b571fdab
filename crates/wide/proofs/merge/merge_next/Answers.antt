-- The lower key comes first, and monomials with one key are added.
use Rattle.std.proofs.Common.{◌≡◌, ℕ, ◌+◌, ◌^◌, ◌<◌, [], ◌∷◌, ◌++◌, length, ◌+ℤ◌, ◌*ℤ◌, sym, ap, ◌∙◌, subst, ap₂, arith}
use Rattle.poly.specs.Modest.{magnitude}
use Rattle.terms.specs.Monomial.{Monomial, monomial}
use Rattle.terms.specs.Operations.{put_term}
use Rattle.terms.proofs.Bounds.{length_scaled}
use Rattle.packed.specs.Terms.{terms_in}
use Rattle.packed.proofs.Places.{key_at}
use Rattle.wide.specs.Written.{written}
use Rattle.wide.specs.Merging.{scaled_by}
use Rattle.wide.proofs.Bounds.{product-fits, pair_fits, scaled_term}
use Rattle.wide.proofs.Merging.{merged_end, merged_left, merged_right, merged_both}
use Rattle.wide.proofs.merge.merge_next.Goals as goal

pub term-requires : goal.term-requires
term-requires c = omega (arith, c.requires.left, length_scaled c.args.by.key c.args.by.coefficient (terms_in c.args.polynomial))

pub scaled-left-requires : goal.scaled-left-requires
scaled-left-requires c =
    let f = product-fits c.args.by.key c.args.by.coefficient (terms_in c.args.polynomial) (written c.args.list.now) c.args.place.left c.requires.fits c.requires.left in
    let e = c.term.ensures.value in
    let Key : Monomial → Type 0 = λ m. c.args.by.key + m.key < 2 ^ 63 in
    let Size : Monomial → Type 0 = λ m. magnitude (c.args.by.coefficient *ℤ m.times) < 2 ^ 63 in
    record { key = subst Key (sym e) f.key; size = subst Size (sym e) f.size }

pub push-requires : goal.push-requires
push-requires c =
    let p = scaled_by c.args.by c.args.polynomial in
    let q = written c.args.list.now in
    let left = scaled_term c.args.by c.args.polynomial c.args.place.left c.term.result c.scaled-left.result c.requires.left c.term.ensures.value c.scaled-left.ensures in (
      omega (arith, c.requires.left, c.requires.right, c.requires.short, c.requires.fits.room),
      omega (arith, ap (λ m. m.key) left, key_at (2 ^ 63) p c.args.place.left c.requires.fits.keys_left c.requires.left),
    )

pub returns-then-place-len : goal.returns-then-place-len
returns-then-place-len c =
    let p = scaled_by c.args.by c.args.polynomial in
    let q = written c.args.list.now in
    let left = scaled_term c.args.by c.args.polynomial c.args.place.left c.term.result c.scaled-left.result c.requires.left c.term.ensures.value c.scaled-left.ensures in
    merged_end p q c.args.place.left c.args.place.right (written c.args.out.now) c.requires.short _
    (c.push.ensures ∙ ap (λ m. written c.args.out.now ++ m ∷ []) left) c.requires.left (c.if-place-len.true ∙ c.len.ensures)

pub push-requires-then-left-right : goal.push-requires-then-left-right
push-requires-then-left-right c =
    let p = scaled_by c.args.by c.args.polynomial in
    let q = written c.args.list.now in
    let left = scaled_term c.args.by c.args.polynomial c.args.place.left c.term.result c.scaled-left.result c.requires.left c.term.ensures.value c.scaled-left.ensures in (
      omega (arith, c.requires.left, c.requires.right, c.requires.short, c.requires.fits.room),
      omega (arith, ap (λ m. m.key) left, key_at (2 ^ 63) p c.args.place.left c.requires.fits.keys_left c.requires.left),
    )

pub returns-then-left-right : goal.returns-then-left-right
returns-then-left-right c =
    let p = scaled_by c.args.by c.args.polynomial in
    let q = written c.args.list.now in
    let left = scaled_term c.args.by c.args.polynomial c.args.place.left c.term.result c.scaled-left.result c.requires.left c.term.ensures.value c.scaled-left.ensures in
    let j : c.args.place.right < length q = omega (arith, c.len.ensures, c.if-place-len.false, c.requires.right) in
    merged_left p q c.args.place.left c.args.place.right (written c.args.out.now) c.requires.short _
    (c.push-then-left-right.ensures ∙ ap (λ m. written c.args.out.now ++ m ∷ []) left) c.requires.left j
    (omega (arith, ap (λ m. m.key) left, ap (λ m. m.key) c.term-right.ensures, c.if-left-right.true))

pub push-requires-then-right-left : goal.push-requires-then-right-left
push-requires-then-right-left c =
    let q = written c.args.list.now in
    let j : c.args.place.right < length q = omega (arith, c.len.ensures, c.if-place-len.false, c.requires.right) in (
      omega (arith, c.requires.left, c.requires.right, c.requires.short, c.requires.fits.room),
      omega (arith, ap (λ m. m.key) c.term-right.ensures, key_at (2 ^ 63) q c.args.place.right c.requires.fits.keys_right j),
    )

pub returns-then-right-left : goal.returns-then-right-left
returns-then-right-left c =
    let p = scaled_by c.args.by c.args.polynomial in
    let q = written c.args.list.now in
    let left = scaled_term c.args.by c.args.polynomial c.args.place.left c.term.result c.scaled-left.result c.requires.left c.term.ensures.value c.scaled-left.ensures in
    let j : c.args.place.right < length q = omega (arith, c.len.ensures, c.if-place-len.false, c.requires.right) in
    merged_right p q c.args.place.left c.args.place.right (written c.args.out.now) c.requires.short _
    (c.push-then-right-left.ensures ∙ ap (λ m. written c.args.out.now ++ m ∷ []) c.term-right.ensures) c.requires.left j
    (omega (arith, ap (λ m. m.key) left, ap (λ m. m.key) c.term-right.ensures, c.if-right-left.true))

pub push_sum-requires : goal.push_sum-requires
push_sum-requires c =
    let p = scaled_by c.args.by c.args.polynomial in
    let q = written c.args.list.now in
    let left = scaled_term c.args.by c.args.polynomial c.args.place.left c.term.result c.scaled-left.result c.requires.left c.term.ensures.value c.scaled-left.ensures in
    let j : c.args.place.right < length q = omega (arith, c.len.ensures, c.if-place-len.false, c.requires.right) in
    let f = pair_fits p q c.args.place.left c.args.place.right c.requires.fits c.requires.left j in
    let Small : ℕ → Type 0 = λ n. n < 2 ^ 63 in
    record {
      room = omega (arith, c.requires.left, j, c.requires.short, c.requires.fits.room);
      key = subst Small (sym (ap (λ m. m.key) left)) f.left_key;
      size = subst Small (ap magnitude (sym (ap₂ ◌+ℤ◌ (ap (λ m. m.times) left) (ap (λ m. m.times) c.term-right.ensures)))) f.size;
    }

pub returns : goal.returns
returns c =
    let p = scaled_by c.args.by c.args.polynomial in
    let q = written c.args.list.now in
    let left = scaled_term c.args.by c.args.polynomial c.args.place.left c.term.result c.scaled-left.result c.requires.left c.term.ensures.value c.scaled-left.ensures in
    let j : c.args.place.right < length q = omega (arith, c.len.ensures, c.if-place-len.false, c.requires.right) in
    merged_both p q c.args.place.left c.args.place.right (written c.args.out.now) c.requires.short _
    (c.push_sum.ensures ∙
    ap (λ m. written c.args.out.now ++ put_term m [])
    (ap₂ monomial (ap (λ m. m.key) left) (ap₂ ◌+ℤ◌ (ap (λ m. m.times) left) (ap (λ m. m.times) c.term-right.ensures))))
    c.requires.left j (omega (arith, ap (λ m. m.key) left, ap (λ m. m.key) c.term-right.ensures, c.if-left-right.false, c.if-right-left.false))
