use Rattle.std.proofs.Common.{rules}
use Rattle.vhdl_lexer.specs.declared.token.TokenKind.TheVariants as k
use Rattle.vhdl_tree.specs.View.{text_view}
use Rattle.vhdl_parser_expressions.proofs.Lists.{reads_many}
use Rattle.vhdl_parser_statements.specs.reader.Texts.{text_of}
use Rattle.vhdl_parser.specs.reader.Units.{max_open, attributes, begins_attribute}
use Rattle.vhdl_parser.proofs.unit.attributes.Goals as goal

pub returns : goal.returns
unfolding attributes
returns c =
    let e = reads_many text_view (begins_attribute c.args.language) (text_of c.args.language max_open k.Attribute) (λ ts b h. search rules) (λ ts r rest h. search rules) c.many.ensures in
    search rules
