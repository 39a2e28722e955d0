use Rattle.std.proofs.Common.{◌++◌, map, subst}
use Rattle.vhdl_expand_rules.specs.Tree.{input, output}
use Rattle.vhdl_elab_rules.specs.Numbering.{actuals_of}
use Rattle.vhdl_expand_tree.specs.Views.{object_view}
use Rattle.vhdl_connect.specs.Uses.{AreUses}
use Rattle.vhdl_connect.proofs.Marking.{process_if, instance_part}
use Rattle.vhdl_connect.proofs.uses.mark_part.Goals as goal

pub returns-in-Process : goal.returns-in-Process
returns-in-Process c = process_if c.mark_process.result c.args.part.now c.in-Process.process c.args.uses.now c.mark_process.new.uses c.in-Process.is c.mark_process.ensures

pub returns-in-Instance : goal.returns-in-Instance
returns-in-Instance c = λ driven read h.
    instance_part c.args.part.now c.in-Instance.label c.in-Instance.instance.objects c.in-Instance.instance.turns c.in-Instance.instance.parts c.in-Instance.is driven read c.mark_ports.new.uses
    (subst (λ os. AreUses (driven ++ actuals_of output (map object_view os)) (read ++ actuals_of input (map object_view os)) c.mark_ports.new.uses) c.deref.ensures.value
    (c.mark_ports.ensures driven read h))
