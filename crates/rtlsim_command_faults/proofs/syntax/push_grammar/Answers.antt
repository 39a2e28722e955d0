use Rattle.std.proofs.Common.{map}
use Rattle.rtlsim_refusals.specs.Explained.{told_view}
use Rattle.vhdl_source_files.specs.Files.{file_view}
use Rattle.vhdl_front_rules.specs.Asking.{asked_view}
use Rattle.vhdl_parser_rules.specs.Expected.{expected_of}
use Rattle.rtlsim_command_faults.proofs.Grammar.{appends}
use Rattle.rtlsim_command_faults.proofs.syntax.push_grammar.Goals as goal

pub returns : goal.returns
returns c =
    appends c.push_report.result (map file_view c.args.files.now) (asked_view c.args.asked) c.args.tokens.now c.args.fault (expected_of c.in_ok-expected.expected)
    (map told_view c.args.told.now.items) (map told_view c.push_report.new.told.items)
    (rw c.syntax_report-report.ensures at c.in_ok-expected.ensures) (rw c.syntax_report-report.ensures at c.push_report.ensures)
