use Rattle.std.proofs.Common.{◌≡◌, ◌+◌, ◌++◌, length, ap, sym, ◌∙◌, append-nil, arith}
use Rattle.rtl_body_facts.specs.Reading.{is_in}
use Rattle.rtl_remarks.specs.Remarks.{of_nets}
use Rattle.rtl_remarks.proofs.Listed.{next_net}
use Rattle.rtl_undriven_inputs.specs.Naming.{without}
use Rattle.rtl_undriven_inputs.proofs.listing.push_inputs.Goals as goal

pub loop-number-init : goal.loop-number-init
loop-number-init c = sym (append-nil c.args.remarks.now.items)

pub loop-number-preserved : goal.loop-number-preserved
loop-number-preserved c =
    next_net (without c.args.net.now c.args.clock (λ n. is_in n c.args.named.now)) c.loop-number.number (c.loop-number.number + 1) _ _ _ (omega arith) c.loop-number.invariant
    c.in_ok-push_input.ensures

pub returns : goal.returns
returns c =
    let net = c.args.net.now in
    let l = c.loop-number in
    let all : l.number ≡ length net.types = omega (arith, c.loop-number-test.false, l.auto.number-end, c.nets-number-end.ensures.count) in
    l.invariant ∙ ap (λ k. c.args.remarks.now.items ++ of_nets (without net c.args.clock (λ n. is_in n c.args.named.now)) k) all
