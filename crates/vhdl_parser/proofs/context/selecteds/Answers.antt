use Rattle.std.proofs.Common.{rules}
use Rattle.vhdl_lexer.specs.declared.token.TokenKind.TheVariants as k
use Rattle.vhdl_tree.specs.View.{selected_view}
use Rattle.vhdl_parser.specs.reader.Context.{selected}
use Rattle.vhdl_parser_expressions.proofs.Lists.{reads_separated}
use Rattle.vhdl_parser.proofs.context.selecteds.Goals as goal

pub returns : goal.returns
returns c = reads_separated selected_view k.Comma selected (λ ts r rest h. search rules) c.separated.ensures
