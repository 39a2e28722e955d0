use Rattle.std.proofs.Common.{subst, ◌∙◌}
use Rattle.byte_streams.specs.Written.{Goes}
use Rattle.byte_streams.proofs.Writing.{Goes-append}
use Rattle.rtlsim_listing.specs.CheckText as spec
use Rattle.rtlsim_listing.proofs.Printing.{none, refused}
use Rattle.rtlsim_listing.proofs.levels.push_level_of.Goals as goal

pub returns-in_err-name : goal.returns-in_err-name
returns-in_err-name g c =
    let text = spec.level_of c.args.net.now c.args.number c.args.level c.args.behind.now in
    refused c.from_residual.result _ _ _ text c.from_residual.ensures.1 (none _ text)

pub returns : goal.returns
returns g c =
    let state = g.W.Sink.state in
    let name = subst (λ text. Goes (state c.push_text-2.new.sink) (state c.push_text-3.new.sink) text) (c.deref.ensures.value ∙ c.in_ok-name.ensures) c.push_text-3.ensures in
    let level = Goes-append _ _ _ _ _ (Goes-append _ _ _ _ _ c.push_text.ensures c.push_number.ensures) c.push_text-2.ensures in
    Goes-append _ _ _ _ _ (Goes-append _ _ _ _ _ (Goes-append _ _ _ _ _ level name) c.push_text-4.ensures) c.push_text-5.ensures
