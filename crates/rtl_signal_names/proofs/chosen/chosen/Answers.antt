use Rattle.std.proofs.Common.{List, length, map, ap, ◌∙◌, arith}
use Rattle.std.specs.Prelude.{filter}
use Rattle.std.proofs.lemmas.List.{length-map, take_all}
use Rattle.rtl_net.specs.Nets.{ScopeView, scope_view, signal_view}
use Rattle.rtl_signal_names.specs.Chosen.{is_chosen}
use Rattle.rtl_signal_names.proofs.Labels.{scope_there}
use Rattle.rtl_signal_names.proofs.Choosing.{texts, chosen_more}
use Rattle.rtl_signal_names.proofs.chosen.chosen.Goals as goal

pub add_chosen-requires-clause-there : goal.add_chosen-requires-clause-there
add_chosen-requires-clause-there c =
    let within = scope_there c.args.net.now c.is_elaborated.ensures c.signals-signals.result.now c.signals-signals.ensures c.loop-number.number
    c.index-signals-number.result _ c.loop-number-test.true c.index-signals-number.is in
    omega (arith, within, ap length c.scopes-scopes.ensures, length-map c.scopes-scopes.result.now scope_view)

pub loop-number-preserved : goal.loop-number-preserved
loop-number-preserved c =
    chosen_more (texts c.args.names.now) (map scope_view c.scopes-scopes.result.now) c.signals-signals.result.now c.loop-number.number c.index-signals-number.result
    (map signal_view c.loop-number.found.items) _ c.loop-number-test.true c.index-signals-number.is c.loop-number.invariant c.in_ok-add_chosen.ensures

pub returns : goal.returns
returns c =
    let names = texts c.args.names.now in
    let signals = c.signals-signals.result.now in
    let views = map signal_view signals in
    c.loop-number.invariant
    ∙ ap (filter (is_chosen names (map scope_view c.scopes-scopes.result.now))) (take_all c.loop-number.number views (omega (arith, c.loop-number-test.false, length-map signals signal_view)))
    ∙ ap (λ (scopes : List ScopeView). filter (is_chosen names scopes) views) c.scopes-scopes.ensures
    ∙ ap (filter (is_chosen names c.args.net.now.scopes)) c.signals-signals.ensures
