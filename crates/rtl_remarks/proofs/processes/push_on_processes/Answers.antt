use Rattle.std.proofs.Common.{◌≡◌, ◌<◌, ◌++◌, List, length, get_or, map, ap, subst, ◌∙◌}
use Rattle.rtl_net.specs.declared.process.Process.{Process}
use Rattle.rtl_remarks.specs.Remarks.{at_process, on_process}
use Rattle.rtl_remarks.proofs.LeftOut.{in_range}
use Rattle.rtl_remarks.proofs.Listed.{next_process}
use Rattle.rtl_remarks.proofs.processes.push_on_processes.Goals as goal

pub named-requires-clause-in_range : goal.named-requires-clause-in_range
named-requires-clause-in_range c =
    let net = c.args.net.now in
    let i = c.loop-number.number in
    let p = c.index-processes-number.result in
    in_range net c.is_elaborated.ensures i p (subst (λ (ps : List Process). i < length ps) c.processes-processes.ensures c.loop-number-test.true)
    (c.index-processes-number.is ∙ ap (λ (ps : List Process). get_or ps i p) c.processes-processes.ensures)

pub loop-number-preserved : goal.loop-number-preserved
loop-number-preserved c =
    let net = c.args.net.now in
    let i = c.loop-number.number in
    let p = c.index-processes-number.result in
    let l : i < length net.processes = subst (λ (ps : List Process). i < length ps) c.processes-processes.ensures c.loop-number-test.true in
    let at : p ≡ get_or net.processes i p = c.index-processes-number.is ∙ ap (λ (ps : List Process). get_or ps i p) c.processes-processes.ensures in
    next_process (on_process net c.args.kind) net.processes i p _ _ _ l at c.loop-number.invariant
    (c.in_ok-push_each.ensures ∙ ap (λ xs. c.loop-number.remarks.items ++ map (at_process c.args.kind i) xs) (c.deref.ensures.value ∙ c.in_ok-nets.ensures))
