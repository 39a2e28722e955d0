use Rattle.std.proofs.Common.{[], ◌∷◌, ◌++◌, map, ap, sym, ◌∙◌}
use Rattle.std.proofs.lemmas.List.{map_more, take_all}
use Rattle.rtl_net.specs.declared.process.Process.{Process}
use Rattle.rtl_kernel.proofs.wakes.wake_lists.Goals as goal

pub loop-process-preserved : goal.loop-process-preserved
loop-process-preserved c =
    let ps = c.args.processes.now in
    let i = c.loop-process.process-index in
    let p = c.process-item.result in
    c.in_ok-push.ensures.ok ∙ (λ j. c.loop-process.invariant j ++ (c.as_slice.ensures ∙ ap (λ (q : Process). q.wakes.items) c.process-item.is) j ∷ [])
    ∙ sym (map_more (λ (q : Process). q.wakes.items) ps i p c.loop-process-test.true)

pub returns : goal.returns
returns c = c.loop-process.invariant ∙ ap (map (λ (p : Process). p.wakes.items)) (take_all c.loop-process.process-index c.args.processes.now c.loop-process-test.false)
