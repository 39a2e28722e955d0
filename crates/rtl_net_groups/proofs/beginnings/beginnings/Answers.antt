use Rattle.std.proofs.Common.{◌∙◌, ◌<◌, ℕ, List, length, arith, subst}
use Rattle.rtl_net_groups.specs.steps.Marks.{AreListedAlike}
use Rattle.rtl_net_groups.proofs.Marking.{apart_none, apart_more, apart_all}
use Rattle.rtl_net_groups.proofs.beginnings.beginnings.Goals as goal

pub loop-process-init : goal.loop-process-init
loop-process-init c = record {
  as_many = c.in_ok-begins.ensures.as_many;
  first = c.in_ok-begins.ensures.first;
  apart = apart_none c.args.declared.now c.args.nets_of.now c.in_ok-begins.begins.items c.in_ok-begins.ensures.alike;
}

pub loop-process-preserved : goal.loop-process-preserved
loop-process-preserved c =
    let I = c.loop-process.invariant in
    let E = c.mark_ends.ensures in
    let new = c.mark_ends.new.begins.items in
    let k = c.loop-process.process in
    let within : k < length c.args.nets_of.now = omega (arith, c.loop-process-test.true, c.count-process-end.ensures) in
    let alike = subst (λ (nets : List ℕ). AreListedAlike new nets) c.get.ensures E.alike in
    record {
      as_many = E.kept.as_many ∙ I.as_many;
      first = E.kept.kept 0 I.first;
      apart = apart_more c.args.declared.now c.args.nets_of.now c.loop-process.begins.items new k within E.kept alike I.apart;
    }

pub returns-clause-apart : goal.returns-clause-apart
returns-clause-apart c =
    apart_all c.args.declared.now c.args.nets_of.now c.loop-process.begins.items c.loop-process.process (omega (arith, c.loop-process-test.false, c.count-process-end.ensures)) c.loop-process.invariant.apart
