use Rattle.std.proofs.Common.{◌<◌, ◌-◌, length, map, ap, arith}
use Rattle.std.proofs.lemmas.List.{length-map}
use Rattle.rtl_net.specs.Nets.{scope_view}
use Rattle.rtl_signal_names.proofs.Labels.{scope_there}
use Rattle.rtl_signal_names.proofs.Named.{one_before}
use Rattle.rtl_signal_names.proofs.naming.table_of.Goals as goal

pub add_signal-requires-clause-there : goal.add_signal-requires-clause-there
add_signal-requires-clause-there c =
    let there : c.loop-number.number - 1 < length c.signals-signals.result.now = omega (arith, c.loop-number-test.true, c.loop-number.invariant.0) in
    let within = scope_there c.args.net.now c.is_elaborated.ensures c.signals-signals.result.now c.signals-signals.ensures (c.loop-number.number - 1)
    c.index-signals-number.result _ there c.index-signals-number.is in
    omega (arith, within, ap length c.scopes-scopes.ensures, length-map c.scopes-scopes.result.now scope_view)

pub loop-number-preserved : goal.loop-number-preserved
loop-number-preserved c = (
  omega (arith, c.loop-number.invariant.0),
  λ name.
      one_before (map scope_view c.scopes-scopes.result.now) c.signals-signals.result.now c.loop-number.number c.index-signals-number.result name _ _
      c.loop-number-test.true c.loop-number.invariant.0 c.index-signals-number.is (c.loop-number.invariant.1 name) (c.in_ok-add_signal.ensures name),
)
