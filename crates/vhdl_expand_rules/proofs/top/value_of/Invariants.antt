use Rattle.std.proofs.Common.{◌≡◌, map, drop}
use Rattle.std.specs.Prelude.{find}
use Rattle.vhdl_expand_rules.specs.Tops.{sets}
use Rattle.vhdl_expand_rules.specs.views.Tops.{setting_view}
use Rattle.vhdl_expand_rules.proofs.top.value_of.Given as goal

-- it is found among those that are left, if it is found
abbrev pub invariant-loop-setting : goal.invariant-loop-setting
invariant-loop-setting l = find (sets l.name) (map setting_view l.settings) ≡ find (sets l.name) (map setting_view (drop l.setting-index l.settings))
