use Rattle.std.proofs.Common.{◌≡◌, ◌<◌, List, length, Option, Some, sym, ap, subst, arith}
use Rattle.std.specs.Prelude.{slice_get}
use Rattle.std.proofs.lemmas.Bool.Decides.{nat_tests}
use Rattle.std.proofs.lemmas.List.{length-map}
use Rattle.byte_streams.specs.Written.{Goes}
use Rattle.rtl_net.specs.Nets.{ScopeView, SignalView, scope_view, signal_view}
use Rattle.rtl_signal_names.specs.Names.{full_name}
use Rattle.rtl_signal_names.proofs.Labels.{signal_at, scope_there}
use Rattle.rtl_lost_integers.specs.Told.{name_of}
use Rattle.rtl_lost_integers.proofs.telling.push_signal.Goals as goal

pub push_name-requires-clause-there : goal.push_name-requires-clause-there
push_name-requires-clause-there g c =
    let lookup = c.in-Some.ensures.lookup in
    let there : c.args.number < length c.signals.result.now = let is = lookup.0 in grind (arith, nat_tests, is) in
    let within = scope_there c.args.net.now c.is_elaborated.ensures c.signals.result.now c.signals.ensures c.args.number c.in-Some.signal.now _ there lookup.1 in
    omega (arith, within, ap length c.scopes.ensures, length-map c.scopes.result.now scope_view)

pub returns : goal.returns
returns g c =
    let state = g.S.Sink.state in
    let lookup = c.in-Some.ensures.lookup in
    let there : c.args.number < length c.signals.result.now = let is = lookup.0 in grind (arith, nat_tests, is) in
    let signal : slice_get c.args.net.now.signals c.args.number ≡ Some (signal_view c.in-Some.signal.now) =
    signal_at c.args.net.now c.signals.result.now c.signals.ensures c.args.number c.in-Some.signal.now _ there lookup.1 in
    let name = subst (λ (scopes : List ScopeView). Goes (state c.args.sink.now) (state c.push_name.new.sink) (full_name scopes (signal_view c.in-Some.signal.now))) c.scopes.ensures c.push_name.ensures in
    subst (λ (found : Option SignalView). Goes (state c.args.sink.now) (state c.push_name.new.sink) (name_of c.args.net.now.scopes found)) (sym signal) name
