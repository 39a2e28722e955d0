use Rattle.std.proofs.Common.{rules}
use Rattle.vhdl_lexer.specs.declared.token.TokenKind.TheVariants as k
use Rattle.vhdl_tree.specs.View.{name_view}
use Rattle.vhdl_parser_expressions.specs.reader.Expressions.{inner, name}
use Rattle.vhdl_parser_expressions.proofs.Lists.{reads_separated}
use Rattle.vhdl_parser_statements.proofs.processes.names.Goals as goal

pub returns : goal.returns
returns c = reads_separated name_view k.Comma (name (inner c.args.language c.args.levels)) (λ ts r rest h. search rules) c.separated.ensures
