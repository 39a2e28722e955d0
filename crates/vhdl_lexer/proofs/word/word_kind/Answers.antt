use Rattle.std.proofs.Common.{◌∙◌, ap}
use Rattle.vhdl_lexer.specs.Words.{kind_among}
use Rattle.vhdl_lexer.proofs.Reserved.{word_kind-letter}
use Rattle.vhdl_lexer.proofs.word.word_kind.Goals as goal

pub returns : goal.returns
returns c = c.kind_among.ensures ∙ ap (λ words. kind_among words c.args.text.now) c.words_of.ensures ∙ word_kind-letter c.args.text.now c.requires
