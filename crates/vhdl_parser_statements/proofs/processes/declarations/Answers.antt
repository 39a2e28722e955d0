use Rattle.std.proofs.Common.{rules}
use Rattle.vhdl_tree.specs.View.{process_declaration_view}
use Rattle.vhdl_parser_statements.specs.reader.Process.{begins_process_declaration, process_declaration}
use Rattle.vhdl_parser_expressions.proofs.Lists.{reads_many}
use Rattle.vhdl_parser_statements.proofs.processes.declarations.Goals as goal

pub returns : goal.returns
returns c =
    let e = reads_many process_declaration_view (begins_process_declaration c.args.language) (process_declaration c.args.language c.args.levels) (λ ts b h. search rules) (λ ts r rest h. search rules) c.many.ensures in
    search rules
