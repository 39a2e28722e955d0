use Rattle.std.proofs.Common.{rules}
use Rattle.vhdl_lexer.specs.declared.token.TokenKind.TheVariants as k
use Rattle.vhdl_tree.specs.View.{association_view}
use Rattle.vhdl_parser_expressions.specs.reader.Values.{association}
use Rattle.vhdl_parser_expressions.proofs.Lists.{reads_separated}
use Rattle.vhdl_parser_expressions.proofs.parser.Parser.associations.Goals as goal

pub returns : goal.returns
returns c = reads_separated association_view k.Comma (association c.args.language c.args.levels) (λ ts r rest h. search rules) c.separated.ensures
