use Rattle.std.proofs.Common.{subst, ◌∙◌}
use Rattle.byte_streams.specs.Written.{Goes}
use Rattle.byte_streams.proofs.Writing.{Goes-append}
use Rattle.rtlsim_listing.specs.DotText.{node_text, arrows_to, leveled_text}
use Rattle.rtlsim_listing.proofs.Printing.{none, refused, then}
use Rattle.rtlsim_listing.proofs.graph.push_leveled.Goals as goal

pub returns-in_err-name : goal.returns-in_err-name
returns-in_err-name g c =
    let text = leveled_text c.args.net.now c.args.number c.args.level in
    refused c.from_residual.result _ _ _ text c.from_residual.ensures.1 (none _ text)

pub returns : goal.returns
returns g c =
    let state = g.W.Sink.state in
    let net = c.args.net.now in
    let name = subst (Goes (state c.push_text-2.new.sink) (state c.push_text-3.new.sink)) (c.deref.ensures.value ∙ c.in_ok-name.ensures) c.push_text-3.ensures in
    let level = Goes-append _ _ _ _ _ (Goes-append _ _ _ _ _ c.push_text.ensures c.push_number.ensures) c.push_text-2.ensures in
    let node = Goes-append _ _ _ _ _ (Goes-append _ _ _ _ _ level name) c.push_text-4.ensures in
    then c.push_arrows_to.result _ _ _ (node_text net c.args.number c.args.level) (arrows_to net c.args.number) node c.push_arrows_to.ensures
