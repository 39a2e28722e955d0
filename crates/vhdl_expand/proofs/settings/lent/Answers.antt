use Rattle.std.proofs.Common.{◌<◌, Bor, option_map, length, ap, ◌∙◌, arith, rules}
use Rattle.vhdl_names_units.specs.declared.answers.Fixed.{Fixed}
use Rattle.vhdl_names_units.specs.views.Answers.{fixed_view}
use Rattle.vhdl_expand_declarations.proofs.Names.{copied_seen}
use Rattle.vhdl_expand.proofs.SetGenerics.{none_pushed, one_pushed}
use Rattle.vhdl_expand.proofs.settings.lent.Goals as goal

pub loop-actual-preserved : goal.loop-actual-preserved
loop-actual-preserved c =
    let below : c.loop-actual.actual-index < length c.args.actuals.now = first_of (search rules, omega arith) in
    let seen = copied_seen fixed_view c.as_ref.result ∙ ap (option_map fixed_view) c.as_ref.ensures.value in
    one_pushed (option_map (λ (x : Bor Fixed). fixed_view x.now)) (option_map fixed_view) _ c.loop-actual.list.items c.push.new.self.items c.args.actuals.now c.loop-actual.actual-index
    c.actual-item.result c.as_ref.result below c.actual-item.is c.loop-actual.invariant seen c.in_ok-push.ensures.items

pub returns : goal.returns
returns c =
    none_pushed (option_map (λ (x : Bor Fixed). fixed_view x.now)) (option_map fixed_view) _ c.loop-actual.list.items c.args.actuals.now c.loop-actual.actual-index (omega arith)
    c.loop-actual.invariant
