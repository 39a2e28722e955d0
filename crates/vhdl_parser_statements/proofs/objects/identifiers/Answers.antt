use Rattle.std.proofs.Common.{rules}
use Rattle.vhdl_lexer.specs.declared.token.TokenKind.TheVariants as k
use Rattle.vhdl_tree.specs.View.{ident_view}
use Rattle.vhdl_parser_expressions.specs.reader.Input.{identifier}
use Rattle.vhdl_parser_expressions.proofs.Lists.{reads_separated}
use Rattle.vhdl_parser_statements.proofs.objects.identifiers.Goals as goal

pub returns : goal.returns
returns c = reads_separated ident_view k.Comma identifier (λ ts r rest h. search rules) c.separated.ensures
