use Rattle.std.proofs.Common.{List, sym, ap, subst, ◌∙◌}
use Rattle.rtl_net.specs.declared.body.Statement.{Statement}
use Rattle.rtl_net.specs.declared.process.Process.{Process}
use Rattle.rtl_net.specs.Bodies.{statements_of}
use Rattle.rtl_net.specs.Nets.{body_of}
use Rattle.rtl_net.specs.Core.{core}
use Rattle.rtl_process_kinds.specs.KindViews.{reset_kept}
use Rattle.rtl_process_kinds.proofs.Processes.{listed_as}
use Rattle.rtl_process_kinds.specs.BodyViews as v
use Rattle.rtl_calm_nets.specs.NetOrigins.{IsResetTest}
use Rattle.rtl_calm_nets.proofs.Ranges.{found_reset, no_test}
use Rattle.rtl_calm_nets.proofs.resets.reset_of.Goals as goal

pub returns-in_err-asked-in-Clocked : goal.returns-in_err-asked-in-Clocked
returns-in_err-asked-in-Clocked c =
    let net = c.args.net.now in
    let x = c.index-processes-process.result in
    let at = listed_as c.args.process c.index-processes-process.is c.processes.ensures in
    subst (IsResetTest (core net) c.args.process) (sym c.from_residual-in_err-asked-in-Clocked.ensures)
    (no_test net c.is_elaborated.ensures c.args.process c.requires.there x at c.args.kind c.in_ok-net_tested-in-Clocked.net_tested c.requires.kind
    (ap reset_kept c.in-Clocked.is ∙ c.in_ok-net_tested-in-Clocked.was)
    (sym (c.asked_last.ensures ∙ ap (λ (xs : List Statement). v.asked_last (statements_of xs)) c.deref.ensures.value ∙ ap (λ (q : Process). v.asked_last (body_of q)) (sym c.index-processes-process.is)) ∙ c.in_err-asked-in-Clocked.was))

pub returns-in_ok-asked-in-Clocked : goal.returns-in_ok-asked-in-Clocked
returns-in_ok-asked-in-Clocked c =
    let net = c.args.net.now in
    let x = c.index-processes-process.result in
    let at = listed_as c.args.process c.index-processes-process.is c.processes.ensures in
    found_reset net c.is_elaborated.ensures c.args.process c.requires.there x at c.args.kind c.in_ok-net_tested-in-Clocked.net_tested c.in_ok-asked-in-Clocked.asked c.requires.kind
    (ap reset_kept c.in-Clocked.is ∙ c.in_ok-net_tested-in-Clocked.was)
    (sym (c.asked_last.ensures ∙ ap (λ (xs : List Statement). v.asked_last (statements_of xs)) c.deref.ensures.value ∙ ap (λ (q : Process). v.asked_last (body_of q)) (sym c.index-processes-process.is)) ∙ c.in_ok-asked-in-Clocked.was)
