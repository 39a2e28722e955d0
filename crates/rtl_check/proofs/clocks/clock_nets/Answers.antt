use Rattle.std.proofs.Common.{ap, ◌∙◌}
use Rattle.std.specs.List.{list_any}
use Rattle.std.proofs.lemmas.List.{take_all}
use Rattle.rtl_net.specs.Core.{core}
use Rattle.rtl_body_facts.specs.Reading.{is_in}
use Rattle.rtl_check.specs.Rules.{has_clock}
use Rattle.rtl_check.proofs.ClockNets.{clocks_are, one_more}
use Rattle.std.proofs.lemmas.Result.{IfOk-from_err}
use Rattle.rtl_check.proofs.clocks.clock_nets.Goals as goal

pub returns : goal.returns
returns c =
    let l = c.loop-kind in
    clocks_are (core c.args.net.now) c.args.kinds.now c.requires c.sort_once.new.numbers.items c.sort_once.ensures.rise
    (λ n. c.sort_once.ensures.same n ∙ (l.invariant n ∙ ap (list_any (has_clock n)) (take_all l.kind-index c.args.kinds.now c.loop-kind-test.false)))

pub loop-kind-init : goal.loop-kind-init
loop-kind-init c = λ n. ap (is_in n) c.new-clocks.ensures.items

pub loop-kind-preserved : goal.loop-kind-preserved
loop-kind-preserved c = λ n. one_more (has_clock n) c.args.kinds.now c.loop-kind.kind-index _ _ _ c.loop-kind-test.true (c.in_ok-push_clock.ensures n) (c.loop-kind.invariant n)

pub returns-in_err-push_clock : goal.returns-in_err-push_clock
returns-in_err-push_clock c = IfOk-from_err c.from_residual.result _ c.from_residual.ensures.0
