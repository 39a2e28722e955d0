use Rattle.std.proofs.Common.{◌≡◌, ℕ, List, refl, subst, ◌∙◌, get_or}
use Rattle.std.proofs.lemmas.List.{take_all}
use Rattle.std.specs.Prelude.{Contains}
use Rattle.rtl_net_groups.specs.Groups.{Grouping}
use Rattle.rtl_model.specs.nets.CoreNetlist.{core_netlist}
use Rattle.rtl_model.proofs.basics.Lists.{Contains-none}
use Rattle.rtl_net.specs.Nets.{flat}
use Rattle.rtl_kernel.specs.drivers.Resolved.{AreResolved}
use Rattle.rtl_kernel.specs.drivers.Rows.{rows}
use Rattle.rtl_kernel.specs.values.TwoValues.{group_of}
use Rattle.rtl_kernel.proofs.Resolved.{none_resolved, group_resolved}
use Rattle.rtl_kernel.proofs.update.resolve_groups.Goals as goal

pub loop-group-init : goal.loop-group-init
loop-group-init c = record {
  groups = refl;
  before = refl;
  resolved = none_resolved (core_netlist (flat c.args.net.now)) (rows c.args.drivers.now) _ c.args.values.now.current (λ n h. Contains-none (group_of c.args.values.now n) h);
}

pub resolve_group-requires-clause-group : goal.resolve_group-requires-clause-group
resolve_group-requires-clause-group c = rw (c.loop-group.invariant.groups) (c.requires.groups c.loop-group.group-index 0 c.loop-group-test.true)

pub loop-group-preserved : goal.loop-group-preserved
loop-group-preserved c =
    let net = core_netlist (flat c.args.net.now) in
    let drivers = rows c.args.drivers.now in
    let groups = c.args.groups.now in
    let i = c.loop-group.group-index in
    let g = get_or groups i 0 in
    let I = c.loop-group.invariant in
    let of_net = c.args.values.now.groups.of_net in
    let mid = c.loop-group.values.current in
    let new = c.resolve_group.new.values.current in
    record {
      groups = c.resolve_group.ensures.groups ∙ I.groups;
      before = c.resolve_group.ensures.before ∙ I.before;
      resolved = group_resolved net drivers of_net groups i g c.args.values.now.current mid new c.loop-group-test.true refl I.resolved
          (subst (λ (h : Grouping). AreResolved net drivers (λ n. get_or h.of_net n 0 ≡ g) mid new) I.groups c.resolve_group.ensures.current);
    }

pub returns-clause-current : goal.returns-clause-current
returns-clause-current c =
    let v = c.args.values.now in
    subst (λ (gs : List ℕ). AreResolved (core_netlist (flat c.args.net.now)) (rows c.args.drivers.now) (λ n. Contains gs (group_of v n)) v.current c.loop-group.values.current)
    (take_all c.loop-group.group-index c.args.groups.now c.loop-group-test.false) c.loop-group.invariant.resolved
