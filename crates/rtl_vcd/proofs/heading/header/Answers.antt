use Rattle.std.proofs.Common.{length, map}
use Rattle.std.proofs.lemmas.List.{length-map}
use Rattle.byte_streams.specs.Written.{Goes}
use Rattle.byte_streams.proofs.Writing.{Goes-append}
use Rattle.rtl_net.specs.Nets.{signal_view}
use Rattle.rtl_vcd.specs.Header as spec
use Rattle.rtl_vcd.proofs.Scopes.{in_order}
use Rattle.rtl_vcd.proofs.heading.header.Goals as goal

pub push_scopes-requires-clause-order : goal.push_scopes-requires-clause-order
push_scopes-requires-clause-order g c = in_order c.args.shown.signals.now c.args.shown.fits.order

pub returns-clause-text : goal.returns-clause-text
returns-clause-text g c =
    let state = g.W.Sink.state in
    let scopes = c.args.shown.net.now.scopes in
    let printed : Goes (state c.push_text.new.sink) (state c.push_scopes.new.out) (spec.scopes_text scopes (map signal_view c.args.shown.signals.now) (length scopes)) =
    rw (← c.scopes.ensures, length-map) c.push_scopes.ensures in
    let closed : Goes (state c.push_scopes.new.out) (state c.push_closing_after.new.out) (spec.closing_after scopes (length scopes)) =
    rw (← c.scopes-2.ensures, length-map) c.push_closing_after.ensures in
    Goes-append _ _ _ _ _ (Goes-append _ _ _ _ _ (Goes-append _ _ _ _ _ c.push_text.ensures printed) closed) c.push_text-2.ensures
