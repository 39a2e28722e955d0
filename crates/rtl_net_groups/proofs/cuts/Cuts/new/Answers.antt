use Rattle.std.proofs.Common.{◌<◌, ℕ, List, [], ◌∷◌, ◌++◌, length, sym, ap, subst, ◌∙◌, arith}
use Rattle.rtl_net_groups.specs.declared.cuts.Cut.{Cut}
use Rattle.rtl_net_groups.specs.Cuts.{AreCuts}
use Rattle.rtl_net_groups.proofs.Cutting.{cuts_of_none, cuts_of_more, cuts_of_all}
use Rattle.rtl_net_groups.proofs.cuts.Cuts.new.Goals as goal

pub loop-process-init : goal.loop-process-init
loop-process-init c = rw (c.in_ok-cuts.ensures, c.in_ok-numbers.ensures) (cuts_of_none c.args.of_net.now c.args.targets.now)

pub loop-process-preserved : goal.loop-process-preserved
loop-process-preserved c =
    let of_net = c.args.of_net.now in
    let targets = c.args.targets.now in
    let k = c.loop-process.process in
    let within : k < length targets = omega (arith, c.loop-process-test.true, c.count-process-end.ensures) in
    let row = c.in_ok-row.row in
    let are = subst (λ (nets : List ℕ). AreCuts of_net nets row.cuts.items row.numbers.items) c.get.ensures c.in_ok-row.ensures in
    let cuts = c.in_ok-push.ensures.ok ∙ ap (λ (r : List Cut). c.loop-process.cuts ++ r ∷ []) c.deref.ensures.value in
    let numbers = c.in_ok-push-2.ensures.ok ∙ ap (λ (r : List ℕ). c.loop-process.numbers ++ r ∷ []) c.deref-in-loop-process.ensures.value in
    rw (cuts, numbers) (cuts_of_more of_net targets k c.loop-process.cuts c.loop-process.numbers row.cuts.items row.numbers.items within c.loop-process.invariant are)

pub returns : goal.returns
returns c =
    cuts_of_all c.args.of_net.now c.args.targets.now c.loop-process.process (record { cuts = c.loop-process.cuts; numbers = c.loop-process.numbers })
    (omega (arith, c.loop-process-test.false, c.count-process-end.ensures)) c.loop-process.invariant

pub invariant_of-result : goal.invariant_of-result
invariant_of-result c = c.loop-process.invariant.each_row ∙ sym c.loop-process.invariant.each_process
