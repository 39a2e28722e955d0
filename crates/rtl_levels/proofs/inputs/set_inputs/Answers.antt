use Rattle.std.proofs.Common.{◌∙◌}
use Rattle.std.proofs.lemmas.List.{length-map, length-set}
use Rattle.rtl_kernel.specs.kernel.Simulation.{changes_of}
use Rattle.rtl_kernel.proofs.Changing.{changed_more, set_at}
use Rattle.rtl_levels.proofs.inputs.set_inputs.Goals as goal

pub loop-net-preserved : goal.loop-net-preserved
loop-net-preserved c =
    let cs = c.args.changes.now in
    let i = c.loop-net.net-index in
    record {
      as_many = length-set _ _ _ ∙ c.loop-net.invariant.as_many;
      rest = changed_more (changes_of cs) i _ c.code.result c.loop-net.values.items c.args.values.now.items (rw length-map c.loop-net-test.true)
          (set_at cs i c.code.result _ c.loop-net-test.true c.code.ensures.code) c.loop-net.invariant.rest;
    }
