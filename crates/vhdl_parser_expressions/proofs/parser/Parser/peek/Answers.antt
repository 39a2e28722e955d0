use Rattle.std.proofs.Common.{ap, ◌∙◌, arith}
use Rattle.std.proofs.lemmas.Bool.Decides.{nat_tests}
use Rattle.vhdl_parser_expressions.specs.reader.Input.{next_kind}
use Rattle.vhdl_parser_expressions.proofs.Cursor.{next_kind_at}
use Rattle.vhdl_parser_expressions.proofs.parser.Parser.peek.Goals as goal

pub returns : goal.returns
returns c = next_kind_at c.self.inside.source.now c.self.inside.tokens.now _ (grind (arith, nat_tests)) ∙ ap next_kind c.self.view_is
