use Rattle.std.proofs.Common.{◌≡◌, ◌+◌, ◌++◌, length, ap, sym, ◌∙◌, append-nil, arith}
use Rattle.rtl_remarks.specs.Remarks.{of_nets, on_net}
use Rattle.rtl_remarks.proofs.Listed.{next_net}
use Rattle.rtl_remarks.proofs.nets.push_on_nets.Goals as goal

pub loop-number-init : goal.loop-number-init
loop-number-init c = sym (append-nil c.args.remarks.now.items)

pub loop-number-preserved : goal.loop-number-preserved
loop-number-preserved c =
    next_net (on_net c.args.net.now c.args.kind) c.loop-number.number (c.loop-number.number + 1) _ _ _ (omega arith) c.loop-number.invariant
    (c.in_ok-push_told.ensures ∙ ap (λ rs. c.loop-number.remarks.items ++ rs) c.on_net.ensures)

pub returns : goal.returns
returns c =
    let net = c.args.net.now in
    let l = c.loop-number in
    let all : l.number ≡ length net.types = omega (arith, c.loop-number-test.false, l.auto.number-end, c.nets-number-end.ensures.count) in
    l.invariant ∙ ap (λ n. c.args.remarks.now.items ++ of_nets (on_net net c.args.kind) n) all
