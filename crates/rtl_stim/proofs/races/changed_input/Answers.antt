use Rattle.std.proofs.Common.{below_more, refl}
use Rattle.std.specs.Prelude.{slice_index}
use Rattle.rtl_stim.specs.Quiet.{IsChangedAt}
use Rattle.rtl_stim.proofs.races.changed_input.Goals as goal

pub returns-then-changes-clause-found : goal.returns-then-changes-clause-found
returns-then-changes-clause-found c = (c.loop-input.input-index, c.loop-input-test.true, refl, c.changes.ensures.changed c.if-changes.true, c.loop-input.invariant)

pub loop-input-preserved : goal.loop-input-preserved
loop-input-preserved c =
    below_more (λ k. IsChangedAt c.args.stimulus.now c.args.clocks.now c.args.time (slice_index c.args.inputs.now k) → ⊥) c.loop-input.input-index c.loop-input.invariant
    (c.changes.ensures.unchanged c.if-changes.false)
