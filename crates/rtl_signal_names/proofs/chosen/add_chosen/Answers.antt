use Rattle.std.proofs.Common.{◌≡◌, Bool, true, false, [], ◌∷◌, ◌++◌, map, sym, ap, ◌∙◌, append-nil}
use Rattle.std.specs.Prelude.{if◌then◌else◌}
use Rattle.std.proofs.lemmas.List.{map-append}
use Rattle.rtl_net.specs.Nets.{SignalView, scope_view, signal_view}
use Rattle.rtl_signal_names.specs.Chosen.{is_chosen}
use Rattle.rtl_signal_names.proofs.Choosing.{texts}
use Rattle.rtl_signal_names.proofs.chosen.add_chosen.Goals as goal

pub returns-then-not-is_one : goal.returns-then-not-is_one
returns-then-not-is_one c =
    let before = map signal_view c.args.found.now.items in
    let s = signal_view c.args.signal.now in
    let is : false ≡ is_chosen (texts c.args.names.now) (map scope_view c.args.scopes.now) s = sym c.if-not-is_one.true ∙ c.in_ok-is_one.ensures in
    sym (append-nil before) ∙ ap (λ (b : Bool). before ++ (if b then s ∷ [] else [])) is

pub returns : goal.returns
returns c =
    let before = map signal_view c.args.found.now.items in
    let s = signal_view c.args.signal.now in
    let is : true ≡ is_chosen (texts c.args.names.now) (map scope_view c.args.scopes.now) s = sym c.if-not-is_one.false ∙ c.in_ok-is_one.ensures in
    ap (map signal_view) c.in_ok-push.ensures.items ∙ map-append signal_view c.args.found.now.items (c.in_ok-copy.copy ∷ [])
    ∙ ap (λ (x : SignalView). before ++ x ∷ []) c.in_ok-copy.ensures ∙ ap (λ (b : Bool). before ++ (if b then s ∷ [] else [])) is
