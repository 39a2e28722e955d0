use Rattle.std.proofs.Common.{None, Some, map, sym, ◌∙◌}
use Rattle.vhdl_tree.specs.View.{association_view}
use Rattle.vhdl_names_instances.proofs.Associating.{placed}
use Rattle.vhdl_names_instances.proofs.associations.actual_of.Goals as goal

pub returns-in-None : goal.returns-in-None
returns-in-None c = sym (placed c.args.name.now c.args.taken.now.keys (map association_view c.args.list.now) None c.in-None.ensures.index)

pub returns-in-Some : goal.returns-in-Some
returns-in-Some c =
    c.actual_at.ensures ∙ sym (placed c.args.name.now c.args.taken.now.keys (map association_view c.args.list.now) (Some c.in-Some.index) c.in-Some.ensures.index)
