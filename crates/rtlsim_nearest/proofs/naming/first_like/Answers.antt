use Rattle.std.proofs.Common.{ℕ, List, length, map, ap, ◌∙◌, arith}
use Rattle.std.specs.Prelude.{find}
use Rattle.std.proofs.lemmas.List.{length-map}
use Rattle.rtl_net.specs.Nets.{ScopeView, SignalView, label_at, scope_view, signal_view}
use Rattle.rtl_signal_names.specs.Names.{full_name}
use Rattle.rtl_signal_names.proofs.Labels.{scope_there}
use Rattle.rtlsim_nearest.specs.Likeness.{is_like}
use Rattle.rtlsim_nearest.proofs.Names.{names_in}
use Rattle.rtlsim_nearest.proofs.naming.first_like.Goals as goal

pub full_name-requires-clause-there : goal.full_name-requires-clause-there
full_name-requires-clause-there c =
    let within = scope_there c.args.net.now c.is_elaborated.ensures c.signals-signals.result.now c.signals-signals.ensures c.loop-number.number
    c.index-signals-number.result _ c.loop-number-test.true c.index-signals-number.is in
    omega (arith, within, ap length c.scopes-scopes.ensures, length-map c.scopes-scopes.result.now scope_view)

pub loop-number-init : goal.loop-number-init
loop-number-init c =
    let signals = c.signals-signals.result.now in
    let first = λ (scopes : List ScopeView) (names : List (List ℕ)). find (is_like c.args.way (label_at scopes 0) c.args.name.now) names in
    let scopes = map scope_view c.scopes-scopes.result.now in
    ap (first scopes) (names_in scopes signals)
    ∙ ap (λ (ss : List ScopeView). first ss (map (full_name ss) (map signal_view signals))) c.scopes-scopes.ensures
    ∙ ap (λ (views : List SignalView). first c.args.net.now.scopes (map (full_name c.args.net.now.scopes) views)) c.signals-signals.ensures
