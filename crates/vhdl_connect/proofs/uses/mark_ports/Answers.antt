use Rattle.std.proofs.Common.{◌++◌, map, ap}
use Rattle.vhdl_expand_rules.specs.Tree.{input, output}
use Rattle.vhdl_elab_rules.specs.Numbering.{actuals_of}
use Rattle.vhdl_expand_tree.specs.Views.{object_view}
use Rattle.vhdl_connect_processes.proofs.Lists.{take_whole}
use Rattle.vhdl_connect.proofs.Marking.{ports_next, uses_whole}
use Rattle.vhdl_connect.proofs.uses.mark_ports.Goals as goal

pub loop-object-preserved : goal.loop-object-preserved
loop-object-preserved c = λ driven read h.
    ports_next c.args.objects.now c.loop-object.object-index c.object-item.result c.loop-object-test.true c.object-item.is driven read c.mark_port.new.uses
    (c.mark_port.ensures _ _ (c.loop-object.invariant driven read h))

pub returns : goal.returns
returns c = λ driven read h.
    let e = take_whole c.args.objects.now c.loop-object.object-index c.loop-object-test.false in
    uses_whole _ _ _ _ c.loop-object.uses (ap (λ os. driven ++ actuals_of output (map object_view os)) e) (ap (λ os. read ++ actuals_of input (map object_view os)) e)
    (c.loop-object.invariant driven read h)
