use Rattle.std.proofs.Common.{◌≡◌, map, take}
use Rattle.rtlsim.specs.Served.{setting_of}
use Rattle.rtlsim_command_line.specs.Words as words
use Rattle.vhdl_expand_rules.specs.views.Tops.{setting_view}
use Rattle.rtlsim.proofs.prepared.settings_of.Given as goal

-- those so far
abbrev pub invariant-loop-setting : goal.invariant-loop-setting
invariant-loop-setting l = map setting_view l.all.items ≡ map setting_of (map words.setting_view (take l.setting-index l.set))
