use Rattle.std.proofs.Common.{◌<◌, length, arith, rules}
use Rattle.std.proofs.lemmas.Grind.{common_steps}
use Rattle.vhdl_expand_rules.specs.views.Tops.{setting_view}
use Rattle.vhdl_expand.proofs.SetGenerics.{next_declared}
use Rattle.vhdl_expand.proofs.settings.is_generic.Goals as goal

pub loop-declaration-preserved : goal.loop-declaration-preserved
loop-declaration-preserved c =
    let below : c.loop-declaration.declaration-index < length c.args.declarations.now = first_of (search rules, omega arith) in
    let next = next_declared (setting_view c.args.setting.now) c.args.declarations.now c.loop-declaration.declaration-index c.declaration-item.result below c.declaration-item.is in
    first_of (search rules, grind (arith, common_steps))

pub returns-then-is_of : goal.returns-then-is_of
returns-then-is_of c =
    let below : c.loop-declaration.declaration-index < length c.args.declarations.now = first_of (search rules, omega arith) in
    let next = next_declared (setting_view c.args.setting.now) c.args.declarations.now c.loop-declaration.declaration-index c.declaration-item.result below c.declaration-item.is in
    first_of (search rules, grind (arith, common_steps))
