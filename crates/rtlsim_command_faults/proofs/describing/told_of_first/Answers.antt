use Rattle.std.proofs.Common.{map}
use Rattle.vhdl_front_rules.specs.Asking.{asked_view}
use Rattle.vhdl_source_files.specs.Files.{file_view}
use Rattle.rtlsim_command_faults.proofs.Described.{first_none}
use Rattle.rtlsim_command_faults.proofs.describing.told_of_first.Goals as goal

pub returns-in-Lex : goal.returns-in-Lex
returns-in-Lex c = rw c.in-Lex.is (rw c.lex_report.ensures at c.told_of_lexer.ensures)

pub returns-in-Syntax : goal.returns-in-Syntax
returns-in-Syntax c = rw c.in-Syntax.is (rw c.syntax_report.ensures at c.told_read.ensures)

pub returns-in-Name : goal.returns-in-Name
returns-in-Name c = rw c.in-Name.is (rw c.name_report.ensures at c.told_read-in-Name.ensures)

pub returns-in-Elab : goal.returns-in-Elab
returns-in-Elab c = rw c.in-Elab.is (rw c.elab_report.ensures at c.told_read-in-Elab.ensures)

pub returns-in_default : goal.returns-in_default
returns-in_default c =
    let other = c.in_default in
    first_none (map file_view c.args.files.now) (asked_view c.args.asked) c.args.fault.now other.not-Lex other.not-Syntax other.not-Name other.not-Elab
