use Rattle.std.proofs.Common.{map}
use Rattle.rtlsim_refusals.specs.Explained.{told_view}
use Rattle.vhdl_source_files.specs.Files.{file_view}
use Rattle.rtlsim_command_faults.proofs.Behind.{names_all, names_none}
use Rattle.rtlsim_command_faults.proofs.search.find_names.Goals as goal
use Rattle.vhdl_front_rules.specs.Asking.{asked_view}

pub returns-in_default : goal.returns-in_default
returns-in_default g c = names_none (map file_view c.args.files.now) (asked_view c.args.asked) c.args.first (map told_view c.args.told.now.items)

pub returns-in_default-from_slice : goal.returns-in_default-from_slice
returns-in_default-from_slice g c = names_none (map file_view c.args.files.now) (asked_view c.args.asked) c.args.first (map told_view c.args.told.now.items)

pub returns : goal.returns
returns g c =
    names_all (map file_view c.args.files.now) (asked_view c.args.asked) c.args.first c.deref.result.now c.in-Ok-from_slice.left.items _ _ c.find_behind.result
    (rw c.deref.ensures.value c.in-Ok.ensures.cuts) c.in-Ok-from_slice.ensures.items c.find_behind.ensures
