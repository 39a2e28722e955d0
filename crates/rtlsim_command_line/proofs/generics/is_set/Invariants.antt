use Rattle.std.proofs.Common.{◌≡◌, drop, map}
use Rattle.rtlsim_command_line.specs.Settings.{is_set}
use Rattle.rtlsim_command_line.specs.Words.{setting_view}
use Rattle.rtlsim_command_line.proofs.generics.is_set.Given as goal

-- those that are left decide
abbrev pub invariant-loop-setting : goal.invariant-loop-setting
invariant-loop-setting l = is_set (map setting_view (drop l.setting-index l.settings)) l.name ≡ is_set (map setting_view l.settings) l.name
