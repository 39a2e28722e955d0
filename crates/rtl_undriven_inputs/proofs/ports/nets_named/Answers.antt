use Rattle.std.proofs.Common.{◌&&◌, ◌||◌, Bool, ℕ, ap, sym, ◌∙◌}
use Rattle.std.specs.List.{list_any}
use Rattle.std.proofs.lemmas.List.{take_all}
use Rattle.rtl_net.specs.Nets.{SignalView, signal_view}
use Rattle.rtl_net.specs.declared.signal.Signal.{Signal}
use Rattle.rtl_body_facts.specs.Reading.{is_in}
use Rattle.rtl_body_facts.proofs.EveryPath.{any_more}
use Rattle.rtl_remarks.specs.Remarks.{is_top_port, is_of}
use Rattle.rtl_remarks.proofs.Listed.{any_mapped}
use Rattle.rtl_stim_lines.specs.Inputs.{small}
use Rattle.rtl_undriven_inputs.specs.Kept.{has_name}
use Rattle.rtl_undriven_inputs.proofs.ports.nets_named.Goals as goal

pub loop-signal-init : goal.loop-signal-init
loop-signal-init c = λ n. ap (is_in n) c.new-nets.ensures.items

pub loop-signal-preserved : goal.loop-signal-preserved
loop-signal-preserved c =
    let l = c.loop-signal in
    let is : (n : ℕ) (s : Signal) → Bool = λ n s. (is_top_port (signal_view s) && has_name (small s.name.items) c.args.names.now) && is_in n s.nets.items in
    λ n. c.in_ok-push_named.ensures n ∙ ap (λ (b : Bool). b || is n c.signal-item.result) (l.invariant n)
    ∙ sym (any_more (is n) c.signals-signals.result.now l.signal-index c.signal-item.result c.loop-signal-test.true c.signal-item.is)

pub returns : goal.returns
returns c =
    let ss = c.signals-signals.result.now in
    let names = c.args.names.now in
    record {
      rise = c.sort_once.ensures.rise;
      are = λ n.
          c.sort_once.ensures.same n ∙ c.loop-signal.invariant n
          ∙ ap (list_any (λ (s : Signal). (is_top_port (signal_view s) && has_name (small s.name.items) names) && is_in n s.nets.items)) (take_all c.loop-signal.signal-index ss c.loop-signal-test.false)
          ∙ sym (any_mapped (λ (s : SignalView). (is_top_port s && has_name (small s.name) names) && is_in n s.nets) signal_view ss)
          ∙ ap (λ xs. is_of (λ s. is_top_port s && has_name (small s.name) names) xs n) c.signals-signals.ensures;
    }
