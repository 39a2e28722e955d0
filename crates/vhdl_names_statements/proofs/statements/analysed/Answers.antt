use Rattle.std.proofs.Common.{map}
use Rattle.vhdl_tree.specs.View as tree
use Rattle.vhdl_names_units.specs.views.Sequential.{statements_of, statements_view}
use Rattle.vhdl_names_units.proofs.Lists.{gives_more}
use Rattle.vhdl_names_statements.proofs.steps.Sequential.{statements_each}
use Rattle.vhdl_names_statements.proofs.statements.analysed.Goals as goal

pub returns-clause-given : goal.returns-clause-given
returns-clause-given c =
    gives_more statements_view statements_of _ _ _
    (statements_each c.args.sight.now (map tree.sequential_view c.args.list.now)) c.statements.ensures.given
