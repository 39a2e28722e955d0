use Rattle.std.proofs.Common.{◌≡◌, ◌<◌, List, length, Option, Some, sym, ap, subst, arith}
use Rattle.std.specs.Prelude.{slice_get}
use Rattle.std.proofs.lemmas.Bool.Decides.{nat_tests}
use Rattle.std.proofs.lemmas.List.{length-map}
use Rattle.byte_streams.specs.Written.{Goes}
use Rattle.rtl_net.specs.Nets.{ScopeView, SignalView, scope_view, signal_view}
use Rattle.rtl_signal_names.proofs.Labels.{signal_at, scope_there}
use Rattle.rtl_expect.specs.Telling.{of_signal_said, signal_said}
use Rattle.rtl_expect.specs.Watching.{difference_view}
use Rattle.rtl_expect.proofs.saying.push_of_signal.Goals as goal

pub push_signal-requires-clause-there : goal.push_signal-requires-clause-there
push_signal-requires-clause-there g c =
    let lookup = c.in-Some.ensures.lookup in
    let number = c.args.difference.now.signal in
    let there : number < length c.signals.result.now = let is = lookup.0 in grind (arith, nat_tests, is) in
    let within = scope_there c.args.net.now c.is_elaborated.ensures c.signals.result.now c.signals.ensures number c.in-Some.signal.now _ there lookup.1 in
    omega (arith, within, ap length c.scopes.ensures, length-map c.scopes.result.now scope_view)

pub returns : goal.returns
returns g c =
    let state = g.S.Sink.state in
    let lookup = c.in-Some.ensures.lookup in
    let number = c.args.difference.now.signal in
    let there : number < length c.signals.result.now = let is = lookup.0 in grind (arith, nat_tests, is) in
    let signal : slice_get c.args.net.now.signals number ≡ Some (signal_view c.in-Some.signal.now) =
    signal_at c.args.net.now c.signals.result.now c.signals.ensures number c.in-Some.signal.now _ there lookup.1 in
    let names = g.L.Literals.names c.args.literals.now in
    let d = difference_view c.args.difference.now in
    subst (λ (found : Option SignalView). Goes (state c.args.sink.now) (state c.push_signal.new.sink) (of_signal_said names c.args.net.now found d.found d.wanted)) (sym signal)
    (subst (λ (scopes : List ScopeView). Goes (state c.args.sink.now) (state c.push_signal.new.sink) (signal_said names scopes (signal_view c.in-Some.signal.now) d.found d.wanted))
    c.scopes.ensures c.push_signal.ensures)
