use Rattle.std.proofs.Common.{rules}
use Rattle.vhdl_lexer.specs.declared.token.TokenKind.TheVariants as k
use Rattle.vhdl_tree.specs.View.{waveform_view}
use Rattle.vhdl_parser_statements.specs.reader.Waveforms.{waveform}
use Rattle.vhdl_parser_expressions.proofs.Lists.{reads_separated}
use Rattle.vhdl_parser_statements.proofs.waveforms.waveforms.Goals as goal

pub returns : goal.returns
returns c = reads_separated waveform_view k.Comma (waveform c.args.language c.args.levels) (λ ts r rest h. search rules) c.separated.ensures
