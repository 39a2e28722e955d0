use Rattle.std.proofs.Common.{rules}
use Rattle.vhdl_lexer.specs.declared.token.TokenKind.TheVariants as k
use Rattle.vhdl_tree.specs.View.{port_view}
use Rattle.vhdl_parser_declarations.specs.reader.Declarations.{port}
use Rattle.vhdl_parser_expressions.proofs.Lists.{reads_separated}
use Rattle.vhdl_parser_declarations.proofs.interface.port_list.Goals as goal

pub returns : goal.returns
returns c = reads_separated port_view k.Semicolon (port c.args.language c.args.levels) (λ ts r rest h. search rules) c.separated.ensures
