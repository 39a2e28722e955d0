use Rattle.std.proofs.Common.{ℕ, List, get_or, ap, subst, ◌∙◌}
use Rattle.std.specs.Prelude.{◌↔◌, IsTrue}
use Rattle.rtl_net.specs.declared.process.Process.{Process}
use Rattle.rtl_check.proofs.RuleLists.{reads_listed, wakes_rise}
use Rattle.rtl_recheck.specs.Kept.{KeepsBy, clock_nets}
use Rattle.rtl_recheck.proofs.Keeping.{rules_to, rules_from}
use Rattle.rtl_recheck.proofs.rules.keeps_rules.Goals as goal

pub keeps_by-requires-clause-wakes : goal.keeps_by-requires-clause-wakes
keeps_by-requires-clause-wakes c =
    let p = c.args.process in
    let x = c.index-processes-process.result in
    let at = c.index-processes-process.is ∙ ap (λ (ps : List Process). get_or ps p x) c.processes-processes.ensures in
    wakes_rise c.args.net.now c.is_elaborated.ensures p x c.requires.there at

pub returns : goal.returns
returns c =
    let net = c.args.net.now in
    let clocks = c.args.clocks.now in
    let p = c.args.process in
    let x = c.index-processes-process.result in
    let kind = c.kind_at.result in
    let at = c.index-processes-process.is ∙ ap (λ (ps : List Process). get_or ps p x) c.processes-processes.ensures in
    let listed = reads_listed net c.is_elaborated.ensures p x c.requires.there at in
    let so : IsTrue c.keeps_by.result ↔ KeepsBy net.inputs (clock_nets clocks) x kind =
    subst (λ (ns : List ℕ). IsTrue c.keeps_by.result ↔ KeepsBy ns (clock_nets clocks) x kind) c.inputs-inputs.ensures c.keeps_by.ensures in (
      λ t. rules_to net clocks c.requires.clocks p x c.requires.there at listed kind c.kind_at.ensures (so.0 t),
      λ N. so.1 (rules_from net clocks c.requires.clocks p x c.requires.there at listed kind c.kind_at.ensures N),
    )
