-- Tops of the code.
use Rattle.std.specs.Prelude.{map}
use Rattle.vhdl_expand_rules.specs.declared.top.Setting.{Setting}
use Rattle.vhdl_expand_rules.specs.declared.top.Top.{Top}
use Rattle.vhdl_expand_rules.specs.Tops as definition

abbrev pub setting_view : Setting → definition.Setting
setting_view s = record { name = s.name.now; value = s.value }

abbrev pub top_view : Top → definition.Top
top_view top = record { name = top.name.now; generics = map setting_view top.generics.now }
