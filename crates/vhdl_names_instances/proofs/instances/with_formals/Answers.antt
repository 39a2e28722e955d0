use Rattle.vhdl_tree.specs.View as tree
use Rattle.vhdl_names_instances.proofs.instances.with_formals.Goals as goal

pub returns-in-Err-clause-told : goal.returns-in-Err-clause-told
returns-in-Err-clause-told c = λ e h. c.first_of_maps.ensures.told e h (tree.ident_view c.args.label.now) c.args.unit c.in-Err.ensures
