use Rattle.std.proofs.Common.{◌++◌, ◌∷◌, [], All, map, take, filter, ap, sym, subst, ◌∙◌}
use Rattle.std.specs.Prelude.{◌≢◌}
use Rattle.rtl_stim_lines.specs.View.{inputs_view, named_input}
use Rattle.rtl_stim_lines.specs.Inputs.{Input, small}
use Rattle.rtl_stim.specs.Ports.{input_of, is_in_port}
use Rattle.rtl_stim.proofs.PortLemmas.{has_nets, nets_there, name_is_new, port_more, port_less}
use Rattle.rtl_stim.proofs.ports.inputs_of.Goals as goal
use Rattle.rtl_stim.proofs.ports.inputs_of.Goals.{then-is_in_port+in_ok-input_of+in_ok-add_input, else-is_in_port}

pub is_in_port-requires : goal.is_in_port-requires
is_in_port-requires c =
    record {
      some = has_nets c.args.net.now c.is_elaborated.ensures c.signals-signal-items.result.now c.signals-signal-items.ensures c.loop-signal.signal-index c.signal-item.result
          c.loop-signal-test.true c.signal-item.is;
    }

pub input_of-requires : goal.input_of-requires
input_of-requires c =
    nets_there c.args.net.now c.is_elaborated.ensures c.signals-signal-items.result.now c.signals-signal-items.ensures c.loop-signal.signal-index c.signal-item.result
    c.loop-signal-test.true c.signal-item.is

pub add_input-requires : goal.add_input-requires
add_input-requires c =
    let name = ap small (sym c.deref.ensures.value) in
    let new = name_is_new c.args.net.now c.is_elaborated.ensures c.signals-signal-items.result.now c.signals-signal-items.ensures c.loop-signal.signal-index c.signal-item.result
    c.loop-signal-test.true c.signal-item.is c.requires (sym c.is_in_port.ensures ∙ c.if-is_in_port.true) in
    subst (λ inputs. All (λ (other : Input). other.name ≢ small c.deref.result.now) inputs) (sym c.loop-signal.invariant)
    (subst (λ n. All (λ (other : Input). other.name ≢ n) (map (input_of c.args.net.now) (filter (is_in_port c.args.net.now) (take c.loop-signal.signal-index c.args.net.now.signals)))) name new)

pub loop-signal-preserved : goal.loop-signal-preserved
loop-signal-preserved c =
    let net = c.args.net.now in
    let s = c.signal-item.result in
    let i = c.loop-signal.signal-index in
    let old = map (input_of net) (filter (is_in_port net) (take i net.signals)) in
    elim c.if-is_in_port.branch [
      | then-is_in_port+in_ok-input_of+in_ok-add_input w ↦
          let more = port_more net c.is_elaborated.ensures c.signals-signal-items.result.now c.signals-signal-items.ensures i s c.loop-signal-test.true c.signal-item.is
          (sym c.is_in_port.ensures ∙ w.if-is_in_port.true) in
          ap inputs_view w.inputs-is ∙ w.in_ok-add_input.ensures ∙ ap (λ is. is ++ named_input (small w.deref.result.now) w.in_ok-input_of.field-0 ∷ []) c.loop-signal.invariant
          ∙ ap (λ n. old ++ named_input (small n) w.in_ok-input_of.field-0 ∷ []) w.deref.ensures.value
          ∙ ap (λ input. old ++ input ∷ []) w.in_ok-input_of.ensures ∙ sym more
      | else-is_in_port w ↦
          let less = port_less net c.is_elaborated.ensures c.signals-signal-items.result.now c.signals-signal-items.ensures i s c.loop-signal-test.true c.signal-item.is
          (sym c.is_in_port.ensures ∙ w.if-is_in_port.false) in
          ap inputs_view w.inputs-is ∙ c.loop-signal.invariant ∙ sym less
    ]
