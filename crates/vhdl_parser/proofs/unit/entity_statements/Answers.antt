use Rattle.std.proofs.Common.{rules}
use Rattle.vhdl_tree.specs.View.{assertion_view}
use Rattle.vhdl_parser_expressions.proofs.Lists.{reads_many}
use Rattle.vhdl_parser.specs.reader.Units.{entity_statements, begins_assertion, entity_assertion}
use Rattle.vhdl_parser.proofs.unit.entity_statements.Goals as goal

pub returns : goal.returns
unfolding entity_statements
returns c =
    let e = reads_many assertion_view begins_assertion entity_assertion (λ ts b h. search rules) (λ ts r rest h. search rules) c.many.ensures in
    search rules
