use Rattle.std.proofs.Common.{◌+◌, ap, ◌∙◌, drop, length}
use Rattle.std.proofs.lemmas.List.{length-map, length-set}
use Rattle.rtl_model.specs.simulation.Cycle.{with_changes}
use Rattle.rtl_kernel.specs.kernel.Simulation.{changes_of}
use Rattle.rtl_kernel.specs.values.TwoValues.{TwoValues}
use Rattle.rtl_kernel.proofs.Changing.{changed_more, set_at}
use Rattle.rtl_kernel.proofs.values.Values.set_all.Goals as goal

pub loop-net-preserved : goal.loop-net-preserved
loop-net-preserved c =
    let cs = c.args.changes.now in
    let i = c.loop-net.net-index in
    let I = c.loop-net.invariant in
    record {
      groups = ap (λ (v : TwoValues). v.groups) c.set.ensures ∙ I.groups;
      before = ap (λ (v : TwoValues). v.before) c.set.ensures ∙ I.before;
      as_many = ap (λ (v : TwoValues). length v.current) c.set.ensures ∙ length-set _ _ _ ∙ I.as_many;
      rest = λ m. ap (λ (v : TwoValues). with_changes (drop (i + 1) (changes_of cs)) v.current m) c.set.ensures
          ∙ changed_more (changes_of cs) i _ c.code.result c.loop-net.self.current c.args.self.now.current (rw length-map c.loop-net-test.true)
          (set_at cs i c.code.result _ c.loop-net-test.true c.code.ensures.code) I.rest m;
    }
