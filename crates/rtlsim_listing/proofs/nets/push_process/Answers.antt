use Rattle.std.proofs.Common.{subst, ◌∙◌}
use Rattle.byte_streams.specs.Written.{Goes}
use Rattle.byte_streams.proofs.Writing.{Goes-append}
use Rattle.rtlsim_listing.proofs.nets.push_process.Goals as goal

pub returns : goal.returns
returns g c =
    let state = g.W.Sink.state in
    let name = subst (λ text. Goes (state c.push_text-2.new.sink) (state c.push_text-3.new.sink) text) (c.deref.ensures.value ∙ c.in_ok-name.ensures) c.push_text-3.ensures in
    let number = Goes-append _ _ _ _ _ (Goes-append _ _ _ _ _ c.push_text.ensures c.push_number.ensures) c.push_text-2.ensures in
    Goes-append _ _ _ _ _ (Goes-append _ _ _ _ _ number name) c.push_text-4.ensures
