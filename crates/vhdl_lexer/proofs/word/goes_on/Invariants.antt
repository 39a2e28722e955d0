use Rattle.std.proofs.Common.{◌≡◌, cond, length}
use Rattle.vhdl_lexer.specs.Words.{goes_on, is_joined}
use Rattle.vhdl_lexer.proofs.word.goes_on.Given as goal

abbrev pub invariant-loop-text : goal.invariant-loop-text
invariant-loop-text l = cond l.joined (is_joined l.class l.text) (goes_on l.class l.text) ≡ goes_on l.class l.initial.text

abbrev pub decreases-loop-text : goal.decreases-loop-text
decreases-loop-text l = length l.text
