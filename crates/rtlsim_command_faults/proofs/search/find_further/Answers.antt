use Rattle.std.proofs.Common.{map}
use Rattle.rtlsim_refusals.specs.Explained.{told_view}
use Rattle.vhdl_source_files.specs.Files.{file_view}
use Rattle.rtlsim_command_faults.proofs.Behind.{others_none}
use Rattle.rtlsim_command_faults.proofs.search.find_further.Goals as goal
use Rattle.vhdl_front_rules.specs.Asking.{asked_view}

pub returns-in-Syntax : goal.returns-in-Syntax
returns-in-Syntax g c = rw c.in-Syntax.is (rw c.byte.ensures at c.find_grammar.ensures)

pub returns-in-Name : goal.returns-in-Name
returns-in-Name g c = rw c.in-Name.is c.find_names.ensures

pub returns-in_default : goal.returns-in_default
returns-in_default g c =
    others_none (map file_view c.args.files.now) (asked_view c.args.asked) c.args.first.now (map told_view c.args.told.now.items) c.in_default.not-Syntax c.in_default.not-Name
