use Rattle.std.proofs.Common.{◌≡◌, ℕ, List, map, slice_index, ap, subst, ◌∙◌}
use Rattle.rtl_net.specs.Values.{value_text}
use Rattle.byte_streams.specs.Written.{Goes}
use Rattle.byte_streams.proofs.Writing.{Goes-append}
use Rattle.rtl_run.proofs.ports.push_line.Goals as goal

pub returns : goal.returns
returns g c =
    let values = c.args.values.now in
    let name = subst (λ (text : List ℕ). Goes (g.W.Sink.state c.args.out.now) (g.W.Sink.state c.push_text.new.sink) text) c.deref.ensures.value c.push_text.ensures in
    let found : c.deref-3.result.now ≡ map (slice_index values) c.args.port.now.nets.items =
    c.deref-3.ensures.0 ∙ c.values_at.ensures ∙ ap (map (slice_index values)) c.deref-2.ensures in
    let words = c.deref-4.ensures.0 ∙ c.value_text.ensures ∙ ap (value_text c.args.port.now.kind) found in
    let value = subst (λ (text : List ℕ). Goes (g.W.Sink.state c.push_text-2.new.sink) (g.W.Sink.state c.push_text-3.new.sink) text) words c.push_text-3.ensures in
    Goes-append _ _ _ _ _ (Goes-append _ _ _ _ _ (Goes-append _ _ _ _ _ name c.push_text-2.ensures) value) c.push_text-4.ensures
