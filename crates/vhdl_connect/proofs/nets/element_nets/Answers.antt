use Rattle.std.proofs.Common.{map, ap, ◌∙◌}
use Rattle.rtl_net.specs.Limits.{most_nets}
use Rattle.vhdl_elab_rules.specs.Numbering.{element_nets}
use Rattle.vhdl_expand_tree.specs.Views.{object_view}
use Rattle.vhdl_connect_processes.proofs.Lists.{take_whole}
use Rattle.vhdl_connect.proofs.Numbered.{has_room, nets_next, sizes_next}
use Rattle.vhdl_connect.proofs.nets.element_nets.Goals as goal

pub loop-object-preserved : goal.loop-object-preserved
loop-object-preserved c =
    let os = c.args.objects.now in
    let i = c.loop-object.object-index in (
      sizes_next os i c.object-item.result c.loop-object-test.true c.object-item.is c.args.first c.loop-object.next _ c.loop-object.invariant.0 c.in_ok-next.ensures.next,
      nets_next os i c.object-item.result c.loop-object-test.true c.object-item.is c.args.above.now c.args.first c.loop-object.next c.loop-object.nets.items _ c.loop-object.invariant.0
          c.loop-object.invariant.1 c.in_ok-next.ensures.nets,
    )

pub returns : goal.returns
returns c = c.loop-object.invariant.1 ∙ ap (λ os. element_nets c.args.above.now c.args.first (map object_view os)) (take_whole c.args.objects.now c.loop-object.object-index c.loop-object-test.false)

pub push_object-requires : goal.push_object-requires
push_object-requires c =
    has_room c.args.objects.now c.loop-object.object-index c.object-item.result c.loop-object-test.true c.object-item.is c.args.first c.loop-object.next most_nets c.loop-object.invariant.0 c.requires
