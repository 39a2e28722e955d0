use Rattle.std.proofs.Common.{List, ℕ, subst}
use Rattle.byte_streams.specs.Written.{Goes}
use Rattle.byte_streams.proofs.Writing.{Goes-append}
use Rattle.rtl_signal_names.proofs.naming.push_name.Goals as goal

pub returns : goal.returns
returns g c =
    let state = g.S.Sink.state in
    let name = subst (λ (text : List ℕ). Goes (state c.push_labels.new.sink) (state c.push_text.new.sink) text) c.deref.ensures.value c.push_text.ensures in
    Goes-append _ _ _ _ _ c.push_labels.ensures name
