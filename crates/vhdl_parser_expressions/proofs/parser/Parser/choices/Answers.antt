use Rattle.std.proofs.Common.{rules}
use Rattle.vhdl_lexer.specs.declared.token.TokenKind.TheVariants as k
use Rattle.vhdl_tree.specs.View.{choice_view}
use Rattle.vhdl_parser_expressions.specs.reader.Values.{choice_in}
use Rattle.vhdl_parser_expressions.proofs.Lists.{reads_separated}
use Rattle.vhdl_parser_expressions.proofs.parser.Parser.choices.Goals as goal

pub returns : goal.returns
returns c = reads_separated choice_view k.Bar (choice_in c.args.language c.args.levels) (λ ts r rest h. search rules) c.separated.ensures
