use Rattle.std.proofs.Common.{arith, ◌≡◌, ◌≢◌, ◌≤◌, suc, ◌+◌, None, Some, [], ◌∷◌, ◌++◌, map, length, drop, append-nil, ap, sym, ◌∙◌}
use Rattle.std.specs.Prelude.{option_map}
use Rattle.std.proofs.lemmas.List.{at_drop_all, length_push, map-append}
use Rattle.vhdl_names_rules.specs.declared.fault.NameFault.TheVariants.{NoMemory}
use Rattle.vhdl_names_trees.specs.views.Vectors.{place_view}
use Rattle.vhdl_names_units.specs.views.Actuals.{each_actual}
use Rattle.vhdl_names_expressions.proofs.Each.{behind, none_behind}
use Rattle.vhdl_names_instances.specs.Views.{actual_view, places_view}
use Rattle.vhdl_names_instances.specs.steps.Actuals as steps
use Rattle.vhdl_names_instances.proofs.Actual.{entry_fails, entry_goes, actuals_end}
use Rattle.vhdl_names_rules.proofs.Passing.{passed_on}
use Rattle.vhdl_names_instances.proofs.actuals.port_actuals.Goals as goal

pub returns-in_err-entry : goal.returns-in_err-entry
returns-in_err-entry c =
    let s = c.args.sight.now in
    let es = map actual_view c.args.actuals.now in
    let f : c.in_err-entry.field-0.0 ≢ NoMemory → steps.port_actuals s c.args.ports.now es ≡ None =
    λ n. entry_fails (steps.port_entry s) _ _ c.args.ports.now es c.loop-index.index c.loop-index.invariant.rest (c.in_err-entry.ensures n) in
    passed_on _ _ c.in_err-entry.field-0.0 _ c.from_residual.result c.from_residual.ensures.1 (λ e p. p) f

pub returns-in-None : goal.returns-in-None
returns-in-None c =
    let s = c.args.sight.now in
    let es = map actual_view c.args.actuals.now in
    actuals_end (steps.port_entry s) _ _ c.args.ports.now es c.loop-index.index c.loop-index.invariant.rest
    (c.in_ok-entry.ensures ∙ ap (λ o. Some (option_map (option_map place_view) o)) c.in-None.is)

pub loop-index-init : goal.loop-index-init
loop-index-init c =
    let all = steps.port_actuals c.args.sight.now c.args.ports.now (map actual_view c.args.actuals.now) in
    record {
      rest = none_behind all ∙ ap (λ xs. behind (map (option_map place_view) xs) all) (sym c.none-all.ensures);
      long = ap length c.none-all.ensures;
    }

pub loop-index-preserved : goal.loop-index-preserved
loop-index-preserved c =
    let s = c.args.sight.now in
    let ps = c.args.ports.now in
    let es = map actual_view c.args.actuals.now in
    let x = option_map place_view c.in-Some.actual in
    let before = each_actual c.loop-index.all in
    let e : suc c.loop-index.index ≡ c.loop-index.index + 1 = omega arith in
    record {
      rest = entry_goes (steps.port_entry s) _ _ ps es c.loop-index.index c.loop-index.invariant.rest x
          (c.in_ok-entry.ensures ∙ ap (λ o. Some (option_map (option_map place_view) o)) c.in-Some.is)
          ∙ ap (λ j. behind (map (option_map place_view) before ++ x ∷ []) (steps.port_actuals s (drop j ps) (drop j es))) e
          ∙ ap (λ ys. behind ys (steps.port_actuals s (drop (c.loop-index.index + 1) ps) (drop (c.loop-index.index + 1) es)))
          (sym (ap (map (option_map place_view)) c.in_ok-push-in-Some.ensures ∙ map-append (option_map place_view) before (c.in-Some.actual ∷ [])));
      long = ap length c.in_ok-push-in-Some.ensures ∙ length_push before c.in-Some.actual ∙ ap (λ n. n + 1) c.loop-index.invariant.long;
    }

pub returns : goal.returns
returns c =
    let s = c.args.sight.now in
    let es = drop c.loop-index.index (map actual_view c.args.actuals.now) in
    let past : length c.args.ports.now ≤ c.loop-index.index = omega arith in
    let ys = places_view c.loop-index.all in
    c.loop-index.invariant.rest ∙ at_drop_all (λ l. behind ys (steps.port_actuals s l es)) c.args.ports.now c.loop-index.index past ∙ ap Some (append-nil ys)
