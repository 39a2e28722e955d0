use Rattle.std.proofs.Common.{◌≡◌, [], drop, map}
use Rattle.rtlsim_command_line.specs.Settings.{settings_from}
use Rattle.rtlsim_command_line.specs.Words.{setting_view, text_of}
use Rattle.rtlsim_command_line.proofs.generics.settings_of.Given as goal

-- what all the words set is what those that are left set beside what is set so far
abbrev pub invariant-loop-word : goal.invariant-loop-word
invariant-loop-word l =
    settings_from [] (map text_of l.words) ≡ settings_from (map setting_view l.settings.items) (map text_of (drop l.word-index l.words))
