use Rattle.std.proofs.Common.{map}
use Rattle.rtlsim_refusals.specs.Explained.{told_view}
use Rattle.vhdl_front_rules.specs.Asking.{asked_view}
use Rattle.vhdl_source_files.specs.Files.{file_view}
use Rattle.rtlsim_command_faults.proofs.Grammar.{grammar_none, grammar_uncut}
use Rattle.rtlsim_command_faults.proofs.syntax.find_grammar.Goals as goal

pub returns-in_default : goal.returns-in_default
returns-in_default c =
    grammar_none (map file_view c.args.files.now) (asked_view c.args.asked) c.args.first (map told_view c.args.told.now.items) c.in_default.not-Some

pub returns-in_default-lex : goal.returns-in_default-lex
returns-in_default-lex c =
    grammar_uncut (map file_view c.args.files.now) (asked_view c.args.asked) c.args.first c.in-Some.at (map told_view c.args.told.now.items) c.in-Some.is
