use Rattle.std.proofs.Common.{Bool, ap, sym, ◌∙◌, ◌&&◌, ◌||◌}
use Rattle.std.specs.List.{list_any}
use Rattle.std.proofs.lemmas.List.{take_all}
use Rattle.std.proofs.lemmas.Result.{IfOk-from_err}
use Rattle.rtl_net.specs.Nets.{SignalView, signal_view}
use Rattle.rtl_net.specs.declared.signal.Signal.{Signal}
use Rattle.rtl_body_facts.specs.Reading.{is_in}
use Rattle.rtl_body_facts.proofs.EveryPath.{any_more}
use Rattle.rtl_remarks.specs.Remarks.{is_of}
use Rattle.rtl_remarks.specs.Tables.{takes}
use Rattle.rtl_remarks.proofs.Listed.{any_mapped}
use Rattle.rtl_remarks.proofs.signals.nets_of.Goals as goal

pub loop-signal-init : goal.loop-signal-init
loop-signal-init c = λ n. ap (is_in n) c.new-nets.ensures.items

pub loop-signal-preserved : goal.loop-signal-preserved
loop-signal-preserved c =
    let l = c.loop-signal in
    let s = c.signal-item.result in
    λ n. c.in_ok-push_nets.ensures n
    ∙ (ap (λ (b : Bool). b || (takes c.args.which (signal_view s) && is_in n s.nets.items)) (l.invariant n)
    ∙ sym (any_more (λ (s : Signal). takes c.args.which (signal_view s) && is_in n s.nets.items) c.signals-signals.result.now l.signal-index s c.loop-signal-test.true c.signal-item.is))

pub returns-in_err-push_nets : goal.returns-in_err-push_nets
returns-in_err-push_nets c = IfOk-from_err c.from_residual.result _ c.from_residual.ensures.0

pub returns : goal.returns
returns c = record {
  rise = c.sort_once.ensures.rise;
  are = λ n.
      c.sort_once.ensures.same n ∙ c.loop-signal.invariant n
      ∙ ap (list_any (λ (s : Signal). takes c.args.which (signal_view s) && is_in n s.nets.items)) (take_all c.loop-signal.signal-index c.signals-signals.result.now c.loop-signal-test.false)
      ∙ sym (any_mapped (λ (s : SignalView). takes c.args.which s && is_in n s.nets) signal_view c.signals-signals.result.now)
      ∙ ap (λ ss. is_of (takes c.args.which) ss n) c.signals-signals.ensures;
}
