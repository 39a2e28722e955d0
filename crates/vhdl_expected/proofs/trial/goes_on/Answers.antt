use Rattle.std.proofs.Common.{sym, ◌∙◌}
use Rattle.vhdl_tree.specs.Lexeme.{lexemes}
use Rattle.vhdl_tree.specs.View.{file_view}
use Rattle.vhdl_expected.proofs.Begun.{breaks, whole_begins}
use Rattle.vhdl_expected.proofs.trial.goes_on.Goals as goal

pub returns-in_default-clause-on : goal.returns-in_default-clause-on
returns-in_default-clause-on c on =
    whole_begins c.args.language (lexemes c.args.source.now c.args.tokens.now) (file_view c.in_default.field-0) c.in_default.ensures.well_formed c.in_default.ensures.spelled

pub returns-then-is_wrong-clause-off : goal.returns-then-is_wrong-clause-off
returns-then-is_wrong-clause-off c off =
    breaks c.args.language c.args.source.now c.args.tokens.now c.in-Err.fault (sym c.is_wrong.ensures ∙ c.if-is_wrong.true) c.in-Err.ensures.stuck c.in-Err.ensures.deep
