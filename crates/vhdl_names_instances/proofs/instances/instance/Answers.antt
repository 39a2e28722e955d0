use Rattle.vhdl_tree.specs.View as tree
use Rattle.vhdl_names_rules.proofs.Along.{gives_along}
use Rattle.vhdl_names_units.specs.views.Concurrent.{instance_view}
use Rattle.vhdl_names_instances.proofs.Instancing.{instance_gives}
use Rattle.vhdl_names_instances.proofs.instances.instance.Goals as goal

pub returns-clause-given : goal.returns-clause-given
returns-clause-given c = λ es are.
    gives_along instance_view _ _ _
    (instance_gives c.args.entities.now es are c.args.sight.now (tree.ident_view c.args.label.now) (tree.instance_view c.args.instance.now))
    c.instance_in_turn.ensures.given
