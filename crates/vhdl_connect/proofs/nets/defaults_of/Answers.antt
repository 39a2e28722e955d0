use Rattle.std.proofs.Common.{map, ap, ◌∙◌}
use Rattle.vhdl_elab_rules.specs.Wiring.{defaults_of}
use Rattle.vhdl_expand_tree.specs.Views.{object_view}
use Rattle.vhdl_connect_processes.proofs.Lists.{take_whole}
use Rattle.vhdl_connect.proofs.Numbered.{defaults_next}
use Rattle.vhdl_connect.proofs.nets.defaults_of.Goals as goal

pub loop-object-preserved : goal.loop-object-preserved
loop-object-preserved c =
    c.in_ok-extend_from_slice.ensures.items
    ∙ defaults_next c.args.objects.now c.loop-object.object-index c.object-item.result c.loop-object-test.true c.object-item.is c.loop-object.defaults.items _ c.loop-object.invariant c.as_slice.ensures

pub returns : goal.returns
returns c = c.loop-object.invariant ∙ ap (λ os. defaults_of (map object_view os)) (take_whole c.args.objects.now c.loop-object.object-index c.loop-object-test.false)
