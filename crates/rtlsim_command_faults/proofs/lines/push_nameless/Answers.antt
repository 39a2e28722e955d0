use Rattle.std.proofs.Common.{map}
use Rattle.vhdl_source_files.specs.Files.{file_view}
use Rattle.rtlsim_command_faults.proofs.Told.{goes_along, nameless_stim}
use Rattle.rtlsim_command_faults.proofs.lines.push_nameless.Goals as goal

pub returns-in-Lex : goal.returns-in-Lex
returns-in-Lex g c net = rw c.in-Lex.is (rw c.lex_report.ensures at c.push_reported.ensures)

pub returns-in-Syntax : goal.returns-in-Syntax
returns-in-Syntax g c net = rw c.in-Syntax.is (rw c.syntax_report.ensures at c.push_reported-in-Syntax.ensures)

pub returns-in-Name : goal.returns-in-Name
returns-in-Name g c net = rw c.in-Name.is (rw c.name_report.ensures at c.push_reported-in-Name.ensures)

pub returns-in-Elab : goal.returns-in-Elab
returns-in-Elab g c net = rw c.in-Elab.is (rw c.elab_report.ensures at c.push_reported-in-Elab.ensures)

pub returns-in-Stim : goal.returns-in-Stim
returns-in-Stim g c net =
    let quiet = rw c.in-Stim.is at c.requires.nameless in
    rw c.in-Stim.is (goes_along _ _ _ _ (nameless_stim (map file_view c.args.files.now) net c.in-Stim.stim quiet) (rw c.stim_report.ensures at c.push_reported-in-Stim.ensures))

pub returns-in-Untraced : goal.returns-in-Untraced
returns-in-Untraced g c net = rw c.in-Untraced.is (rw c.untraced_report.ensures at c.push_reported-in-Untraced.ensures)

pub returns-in-NoSettling : goal.returns-in-NoSettling
returns-in-NoSettling g c net = rw c.in-NoSettling.is (rw c.settle_report.ensures at c.push_reported-in-NoSettling.ensures)

pub returns-in-Output : goal.returns-in-Output
returns-in-Output g c net = rw c.in-Output.is c.push_text.ensures
