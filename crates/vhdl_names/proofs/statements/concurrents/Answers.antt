use Rattle.std.proofs.Common.{map}
use Rattle.vhdl_tree.specs.View as tree
use Rattle.vhdl_names_units.specs.views.Concurrent.{concurrents_view, concurrents_of}
use Rattle.vhdl_names_units.specs.Once.{names_view}
use Rattle.vhdl_names_units.proofs.Lists.{gives_more}
use Rattle.vhdl_names_instances.specs.Table.{seens_view}
use Rattle.vhdl_names_instances.specs.steps.Instances.{instance}
use Rattle.vhdl_names.proofs.Generating.{concurrents_by}
use Rattle.vhdl_names_instances.proofs.Instancing.{instance_gives}
use Rattle.vhdl_names.proofs.statements.concurrents.Goals as goal

pub returns-clause-given : goal.returns-clause-given
returns-clause-given c = λ es are.
    let e = c.args.entities.now in
    gives_more concurrents_view concurrents_of _ _ _
    (concurrents_by (instance (names_view e.names) (seens_view e.formals)) es (instance_gives e es are) c.args.sight.now (map tree.concurrent_view c.args.list.now))
    c.statements.ensures.given
