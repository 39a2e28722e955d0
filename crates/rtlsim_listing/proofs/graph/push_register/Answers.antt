use Rattle.std.proofs.Common.{subst, ◌∙◌}
use Rattle.byte_streams.specs.Written.{Goes}
use Rattle.byte_streams.proofs.Writing.{Goes-append}
use Rattle.rtlsim_listing.specs.DotText.{register_text}
use Rattle.rtlsim_listing.proofs.Printing.{none, refused}
use Rattle.rtlsim_listing.proofs.graph.push_register.Goals as goal

pub returns-in_err-name : goal.returns-in_err-name
returns-in_err-name g c =
    let text = register_text c.args.net.now c.args.number in
    refused c.from_residual.result _ _ _ text c.from_residual.ensures.1 (none _ text)

pub returns : goal.returns
returns g c =
    let state = g.W.Sink.state in
    let name = subst (λ text. Goes (state c.push_text.new.sink) (state c.push_text-2.new.sink) text) (c.deref.ensures.value ∙ c.in_ok-name.ensures) c.push_text-2.ensures in
    Goes-append _ _ _ _ _ (Goes-append _ _ _ _ _ c.push_text.ensures name) c.push_text-3.ensures
