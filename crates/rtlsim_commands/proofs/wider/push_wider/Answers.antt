use Rattle.std.proofs.Common.{map, sym, ◌∙◌}
use Rattle.rtlsim_command_faults.specs.Places.{byte_of}
use Rattle.rtlsim_commands.proofs.Widened.{tells_line, tells_none}
use Rattle.vhdl_front_rules.specs.Asking.{asked_view}
use Rattle.vhdl_source_files.specs.Files.{file_view}
use Rattle.rtlsim_commands.proofs.wider.push_wider.Goals as goal

pub returns-in-Some : goal.returns-in-Some
returns-in-Some g c =
    tells_line (map file_view c.args.files.now) (asked_view c.args.asked) (byte_of c.args.first.now) c.in-Some.at _ _ (sym c.byte.ensures ∙ c.in-Some.is)
    c.push_reading.ensures

pub returns-in_default : goal.returns-in_default
returns-in_default g c =
    tells_none (map file_view c.args.files.now) (asked_view c.args.asked) (byte_of c.args.first.now) _ (λ at is. c.in_default.not-Some at (c.byte.ensures ∙ is))
