use Rattle.std.proofs.Common.{sym, ap, ◌∙◌}
use Rattle.std.specs.List.{list_any}
use Rattle.vhdl_tree.specs.declared.expression.Identifier.{Identifier}
use Rattle.vhdl_names_units.specs.declared.declaration.GenericType.{GenericType}
use Rattle.vhdl_names_units.specs.views.Declarations.{generic_type_view}
use Rattle.vhdl_expand_rules.specs.Tops.{sets, is_integer}
use Rattle.vhdl_expand_rules.specs.views.Tops.{setting_view}
use Rattle.vhdl_expand.proofs.SetGenerics.{any_named, none_named, no_integer}
use Rattle.vhdl_expand.proofs.settings.is_of.Goals as goal

pub returns-in_default : goal.returns-in_default
returns-in_default c =
    let d = c.args.declaration.now in
    sym (none_named d (setting_view c.args.setting.now) (no_integer d.generic_type c.in_default.not-Integers) d.names.items)

pub loop-name-init : goal.loop-name-init
loop-name-init c =
    let s = setting_view c.args.setting.now in
    let d = c.args.declaration.now in
    any_named d s (ap (λ (g : GenericType). is_integer (generic_type_view g)) c.in-Integers.is) d.names.items
    ∙ ap (list_any (λ (n : Identifier). sets n.text.items s)) (sym c.deref-name-items.ensures.value)
