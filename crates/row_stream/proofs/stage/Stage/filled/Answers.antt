-- One more slot is filled, and in the end all.
use Rattle.std.proofs.Common.{◌≡◌, rules, min, length, take, drop, [], ◌∷◌, ◌++◌, None, unwrap_or, refl, ap, ◌∙◌, arith, length-set}
use Rattle.field.specs.declared.sign.Sign.TheVariants.{Zero}
use Rattle.sign_table.specs.Deduce.{insert_at}
use Rattle.stream.specs.Stage.{filled_by}
use Rattle.row_stream.proofs.Fill.{reals_rest, reals_take, filled_known, filled_taken, filled_whole, inserted_between}
use Rattle.row_stream.proofs.stage.Stage.filled.Goals.{in-Some, in-None}
use Rattle.row_stream.proofs.stage.Stage.filled.Goals as goal

pub loop-i-init : goal.loop-i-init
loop-i-init c =
    let n = min c.args.self.now.place (length c.args.others.now) in
    let e : reals_rest c.chain-reals.result ≡ (take n c.args.others.now ++ c.args.sign ∷ []) ++ drop n c.args.others.now = search rules in
    (refl, ap (filled_by c.view-plan.result.now) (e ∙ inserted_between c.args.self.now.place n c.args.sign c.args.others.now refl))

pub loop-i-preserved : goal.loop-i-preserved
loop-i-preserved c =
    let signs = insert_at c.args.self.now.place c.args.sign c.args.others.now in
    let left = reals_rest c.loop-i.reals in (
      length-set c.loop-i.items c.loop-i.i c.match-slot.items ∙ c.loop-i.invariant.0,
      elim c.match-slot.branch [
        | in-Some w ↦ rw (w.reals-is, w.items-is) (filled_known c.view-plan.result.now signs c.loop-i.items left c.loop-i.i None w.in-Some.known c.loop-i-test.true (omega arith) w.in-Some.is c.loop-i.invariant.1)
        | in-None w ↦ rw (w.reals-is, w.items-is) (filled_taken c.view-plan.result.now signs c.loop-i.items left (reals_rest w.next.new.self) c.loop-i.i None w.unwrap_or.result w.next.result
            c.loop-i-test.true (omega arith) w.in-None.is (reals_take c.loop-i.reals w.next.new.self w.next.result w.next.ensures.steps) (w.unwrap_or.ensures ∙ ap (λ o. unwrap_or o Zero) w.copied.ensures) c.loop-i.invariant.1)
      ],
    )

pub returns : goal.returns
returns c =
    let e : min (length c.view-plan.result.now) 63 ≡ c.loop-i.i = omega arith in
    ap (λ n. take n c.loop-i.items) e
    ∙ filled_whole c.view-plan.result.now (insert_at c.args.self.now.place c.args.sign c.args.others.now) c.loop-i.items (reals_rest c.loop-i.reals) c.loop-i.i c.loop-i-test.false c.loop-i.invariant.1
    ∙ ap (λ p. filled_by p (insert_at c.args.self.now.place c.args.sign c.args.others.now)) c.view-plan.ensures.values
