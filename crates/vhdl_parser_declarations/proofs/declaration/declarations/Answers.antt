use Rattle.std.proofs.Common.{rules}
use Rattle.vhdl_tree.specs.View.{declaration_view}
use Rattle.vhdl_parser_expressions.proofs.Lists.{reads_many}
use Rattle.vhdl_parser_declarations.specs.reader.Declarations.{declarations, begins_declaration, declaration}
use Rattle.vhdl_parser_declarations.proofs.declaration.declarations.Goals as goal

pub returns : goal.returns
unfolding declarations
returns c =
    let e = reads_many declaration_view (begins_declaration c.args.language) (declaration c.args.language c.args.levels) (λ ts b h. search rules) (λ ts r rest h. search rules) c.many.ensures in
    search rules
