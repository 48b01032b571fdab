-- A monomial from the place on, its key lowered, with the stretch's sign.
use Rattle.std.proofs.Common.{◌+◌, ap, ◌∙◌, arith}
use Rattle.packed.specs.Signed.{signed_number}
use Rattle.packed.proofs.Lowered.{stretch_length, stretch_term, view-short}
use Rattle.packed.proofs.Places.{from_bits, mag_small}
use Rattle.packed.proofs.stretch.Stretch.term.Goals as goal

pub overflow_add-self : goal.overflow_add-self
overflow_add-self c = record { fits = omega (arith, stretch_length c.args.self.now, c.requires, view-short c.args.self.now.view) }

pub term-term-requires : goal.term-term-requires
term-term-requires c = omega (arith, stretch_length c.args.self.now, c.requires)

pub overflow_sub-result : goal.overflow_sub-result
overflow_sub-result c =
    omega (
      arith,
      ap (λ m. m.key) c.term-term.ensures.value,
      c.args.self.now.above (c.args.self.now.from + c.args.i) (omega arith) (omega (arith, stretch_length c.args.self.now, c.requires)),
    )

pub returns-clause-value : goal.returns-clause-value
returns-clause-value c =
    let x = c.term-term.result.coefficient in
    let read = from_bits x (mag_small x (omega (arith, c.term-term.ensures.size))) in
    let signed = from_bits c.with_sign.result (mag_small c.with_sign.result (omega (arith, c.with_sign.ensures.size))) in
    stretch_term c.args.self.now c.args.i c.term-term.result _ c.requires c.term-term.ensures.value
    (signed ∙ c.with_sign.ensures.value ∙ ap (signed_number c.args.self.now.negative) read)
