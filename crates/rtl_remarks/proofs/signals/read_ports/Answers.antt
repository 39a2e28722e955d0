use Rattle.std.proofs.Common.{◌≡◌, ◌<◌, ℕ, length, map, get_or, ap, sym, subst, ◌∙◌, ◌&&◌}
use Rattle.std.specs.Prelude.{slice_index_or}
use Rattle.std.specs.List.{list_any}
use Rattle.std.proofs.lemmas.List.{take_all, length-map}
use Rattle.std.proofs.lemmas.Option.{slice_get_within}
use Rattle.rtl_model.proofs.basics.Lists.{get_or-map_within}
use Rattle.rtl_net.specs.Elaborated.{SignalInRange}
use Rattle.rtl_net.specs.Nets.{SignalView, signal_view, element_type}
use Rattle.rtl_net.specs.declared.signal.Signal.{Signal}
use Rattle.rtl_body_facts.specs.Reading.{is_in}
use Rattle.rtl_remarks.specs.Remarks.{is_of, is_read_port}
use Rattle.rtl_remarks.proofs.Listed.{any_mapped}
use Rattle.rtl_remarks.proofs.signals.read_ports.Goals as goal

pub push_read_port-requires-clause-there : goal.push_read_port-requires-clause-there
push_read_port-requires-clause-there c =
    let net = c.args.net.now in
    let ss = c.signals-signals.result.now in
    let i = c.loop-signal.signal-index in
    let s = c.signal-item.result in
    let InRange : SignalView → Type 0 = SignalInRange net.types (length net.scopes) in
    let same : get_or (map signal_view ss) i (signal_view s) ≡ signal_view s =
    get_or-map_within signal_view ss i s (signal_view s) c.loop-signal-test.true ∙ ap signal_view (sym c.signal-item.is) in
    let within : i < length (map signal_view ss) = rw (length-map ss signal_view) c.loop-signal-test.true in
    let all : (k : ℕ) (d : SignalView) → k < length (map signal_view ss) → InRange (get_or (map signal_view ss) k d) =
    subst (λ xs. (k : ℕ) (d : SignalView) → k < length xs → InRange (get_or xs k d)) (sym c.signals-signals.ensures) c.is_elaborated.ensures.signals in
    let in_range : InRange (signal_view s) = subst InRange same (all i (signal_view s) within) in
    λ k d l. slice_get_within net.types (slice_index_or s.nets.items k d) (element_type s.kind) (in_range.nets k d l)

pub returns : goal.returns
returns c =
    let net = c.args.net.now in
    let ss = c.signals-signals.result.now in
    record {
      rise = c.sort_once.ensures.rise;
      are = λ n.
          c.sort_once.ensures.same n ∙ c.loop-signal.invariant n
          ∙ ap (list_any (λ (s : Signal). is_read_port net (signal_view s) && is_in n s.nets.items)) (take_all c.loop-signal.signal-index ss c.loop-signal-test.false)
          ∙ sym (any_mapped (λ (s : SignalView). is_read_port net s && is_in n s.nets) signal_view ss)
          ∙ ap (λ xs. is_of (is_read_port net) xs n) c.signals-signals.ensures;
    }
