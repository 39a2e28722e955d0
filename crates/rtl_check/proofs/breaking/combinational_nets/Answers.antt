use Rattle.std.proofs.Common.{◌&&◌, not, ℕ, List, sym, ap, ◌∙◌}
use Rattle.rtl_body_facts.specs.Reading.{is_in}
use Rattle.rtl_check.specs.declared.rule.Rule.{Rule}
use Rattle.rtl_check.specs.Rules.{combinational_breaks}
use Rattle.rtl_check.proofs.KeptNets.{if_ok, kept_rise, kept_are}
use Rattle.rtl_check.proofs.breaking.combinational_nets.Goals as goal

pub returns-in-MissingSensitivity-clause-rise : goal.returns-in-MissingSensitivity-clause-rise
returns-in-MissingSensitivity-clause-rise c =
    if_ok _ _ c.outside.result (λ v h. kept_rise _ v.items c.deref.result.now c.args.process.now.reads.items h c.deref.ensures.value c.requires.reads) c.outside.ensures

pub returns-in-MissingSensitivity-clause-are : goal.returns-in-MissingSensitivity-clause-are
returns-in-MissingSensitivity-clause-are c =
    let reads = c.args.process.now.reads.items in
    if_ok _ _ c.outside.result
    (λ v h n.
    kept_are _ v.items c.deref.result.now n (is_in n reads) h (ap (is_in n) c.deref.ensures.value)
    ∙ (ap (λ (xs : List ℕ). is_in n reads && not (is_in n xs)) c.as_slice.ensures ∙ ap (λ (r : Rule). combinational_breaks c.args.process.now r n) (sym c.in-MissingSensitivity.is)))
    c.outside.ensures
