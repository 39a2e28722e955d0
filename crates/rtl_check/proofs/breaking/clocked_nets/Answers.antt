use Rattle.std.proofs.Common.{◌&&◌, not, ℕ, List, sym, ap, ◌∙◌}
use Rattle.rtl_body_facts.specs.Reading.{is_in}
use Rattle.rtl_check.specs.declared.rule.Rule.{Rule}
use Rattle.rtl_process_kinds.specs.KindViews.{nets_tested}
use Rattle.rtl_check.specs.Rules.{clocked_breaks}
use Rattle.rtl_check.proofs.KeptNets.{if_ok, kept_rise, kept_are}
use Rattle.rtl_check.proofs.breaking.clocked_nets.Goals as goal

pub returns-in_ok-tested-in-EdgeNotSensitive-clause-rise : goal.returns-in_ok-tested-in-EdgeNotSensitive-clause-rise
returns-in_ok-tested-in-EdgeNotSensitive-clause-rise c =
    let nets = c.in_ok-tested-in-EdgeNotSensitive.tested.items in
    if_ok _ _ (c.outside-in-EdgeNotSensitive).result
    (λ v h. kept_rise _ v.items c.deref.result.now nets h c.deref.ensures.value (c.in_ok-tested-in-EdgeNotSensitive).ensures.rise) (c.outside-in-EdgeNotSensitive).ensures

pub returns-in_ok-tested-in-EdgeNotSensitive-clause-are : goal.returns-in_ok-tested-in-EdgeNotSensitive-clause-are
returns-in_ok-tested-in-EdgeNotSensitive-clause-are c =
    let those = nets_tested c.args.clocking in
    if_ok _ _ (c.outside-in-EdgeNotSensitive).result
    (λ v h n.
    kept_are _ v.items c.deref.result.now n (is_in n those) h (ap (is_in n) c.deref.ensures.value ∙ (c.in_ok-tested-in-EdgeNotSensitive).ensures.are n)
    ∙ (ap (λ (xs : List ℕ). is_in n those && not (is_in n xs)) c.as_slice.ensures
    ∙ ap (λ (r : Rule). clocked_breaks c.args.inputs.now c.args.clocks.now c.args.process.now c.args.clocking r n) (sym c.in-EdgeNotSensitive.is)))
    (c.outside-in-EdgeNotSensitive).ensures

pub returns-in-ClockAsData-clause-rise : goal.returns-in-ClockAsData-clause-rise
returns-in-ClockAsData-clause-rise c =
    if_ok _ _ c.clocks_as_data.result
    (λ v h. kept_rise _ v.items (c.deref-in-ClockAsData).result.now c.args.process.now.reads.items h (c.deref-in-ClockAsData).ensures.value c.requires.reads) c.clocks_as_data.ensures

pub returns-in-ClockAsData-clause-are : goal.returns-in-ClockAsData-clause-are
returns-in-ClockAsData-clause-are c =
    let reads = c.args.process.now.reads.items in
    if_ok _ _ c.clocks_as_data.result
    (λ v h n.
    kept_are _ v.items (c.deref-in-ClockAsData).result.now n (is_in n reads) h (ap (is_in n) (c.deref-in-ClockAsData).ensures.value)
    ∙ ap (λ (r : Rule). clocked_breaks c.args.inputs.now c.args.clocks.now c.args.process.now c.args.clocking r n) (sym c.in-ClockAsData.is))
    c.clocks_as_data.ensures
