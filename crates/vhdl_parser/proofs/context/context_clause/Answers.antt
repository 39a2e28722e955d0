use Rattle.std.proofs.Common.{rules}
use Rattle.vhdl_tree.specs.View.{context_view}
use Rattle.vhdl_parser_expressions.proofs.Lists.{reads_many}
use Rattle.vhdl_parser.specs.reader.Context.{context, begins_context, context_item}
use Rattle.vhdl_parser.proofs.context.context_clause.Goals as goal

pub returns : goal.returns
unfolding context
returns c =
    let e = reads_many context_view begins_context context_item (λ ts b h. search rules) (λ ts r rest h. search rules) c.many.ensures in
    search rules
