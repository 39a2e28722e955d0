use Rattle.std.proofs.Common.{arith, ◌<◌, [], ◌∷◌, length, map, Option, Some, refl, ap, sym, ◌∙◌}
use Rattle.std.proofs.lemmas.List.{at_drop_all, map-append}
use Rattle.vhdl_tree.specs.View.{name_view}
use Rattle.vhdl_names_rules.specs.problems.Broken.{Tells, any_of}
use Rattle.vhdl_names_rules.specs.Rules.{◌>>=◌}
use Rattle.vhdl_names_rules.specs.Statements.{SignalName}
use Rattle.vhdl_names_rules.specs.problems.Statements.{signal}
use Rattle.vhdl_names_rules.proofs.kept.Statements.{signal_kept}
use Rattle.vhdl_names_units.specs.Lists.{in_turn, one_more}
use Rattle.vhdl_names_units.proofs.Behind.{next_told, next_left}
use Rattle.vhdl_names_units.proofs.Lists.{each_in_turn}
use Rattle.vhdl_names_trees.specs.views.Vectors.{place_view}
use Rattle.vhdl_names.specs.AllPlaces.{all_places_view}
use Rattle.vhdl_names.specs.steps.Processes.{place_of}
use Rattle.vhdl_names_rules.proofs.Memory.{memory_gives, memory_told}
use Rattle.vhdl_names_statements.proofs.steps.Told.{more_done, none_more}
use Rattle.vhdl_names_rules.proofs.Passing.{passed_on, told_by}
use Rattle.vhdl_names.proofs.processes.places.Goals as goal

pub returns-in_err-named-clause-told : goal.returns-in_err-named-clause-told
returns-in_err-named-clause-told c =
    let b = signal c.args.sight.now in
    let lt : c.loop-name.name-index < length c.args.names.now = omega arith in
    let h : Tells (any_of b (map name_view c.args.names.now)) c.in_err-named.field-0.0 =
    next_told name_view c.args.names.now c.loop-name.name-index c.name-item.result lt c.name-item.is b c.in_err-named.field-0.0 c.loop-name.invariant.1 c.in_err-named.ensures.told in
    told_by _ c.in_err-named.field-0.0 _ c.from_residual.result c.from_residual.ensures.1 (λ e p. p) h

pub returns-in_err-named-clause-given : goal.returns-in_err-named-clause-given
returns-in_err-named-clause-given c =
    let g = place_of c.args.sight.now in
    let lt : c.loop-name.name-index < length c.args.names.now = omega arith in
    passed_on _ _ c.in_err-named.field-0.0 _ c.from_residual.result c.from_residual.ensures.1 (λ e p. p)
    (λ n. none_more name_view c.args.names.now c.loop-name.name-index c.name-item.result lt c.name-item.is g (all_places_view c.loop-name.all) _ c.loop-name.invariant.0
    (ap (λ (o : Option SignalName). o >>= λ x. Some x.place) (c.in_err-named.ensures.given n)))

pub returns-in_err-push : goal.returns-in_err-push
returns-in_err-push c = record { given = memory_gives _ _ _ c.from_residual-in_err-push.result c.from_residual-in_err-push.ensures.1 (λ e p. p); told = memory_told _ _ c.from_residual-in_err-push.result c.from_residual-in_err-push.ensures.1 (λ e p. p) }

pub loop-name-preserved : goal.loop-name-preserved
loop-name-preserved c =
    let s = c.args.sight.now in
    let xs = c.args.names.now in
    let i = c.loop-name.name-index in
    let x = c.name-item.result in
    let lt : c.loop-name.name-index < length c.args.names.now = omega arith in (
      more_done name_view xs i x lt c.name-item.is (place_of s) (all_places_view c.loop-name.all) _ (place_view c.in_ok-named.named.place) _ c.loop-name.invariant.0
          (ap (λ (o : Option SignalName). o >>= λ x. Some x.place) c.in_ok-named.ensures.given)
          (ap (map place_view) c.in_ok-push.ensures.items ∙ map-append place_view c.loop-name.all.items (c.in_ok-named.named.place ∷ [])),
      next_left name_view xs i x lt c.name-item.is (signal s) c.loop-name.invariant.1 (signal_kept s (name_view x) _ c.in_ok-named.ensures.given),
    )

pub loop-name-init : goal.loop-name-init
loop-name-init c =
    let views = map name_view c.args.names.now in
    let g = place_of c.args.sight.now in
    (each_in_turn g views ∙ ap (λ done. in_turn (one_more g) done views) (sym (ap (map place_view) c.new-all.ensures.items)), refl)

pub returns-clause-given : goal.returns-clause-given
returns-clause-given c =
    let g = place_of c.args.sight.now in
    c.loop-name.invariant.0
    ∙ at_drop_all (λ left. in_turn (one_more g) (all_places_view c.loop-name.all) (map name_view left)) c.args.names.now c.loop-name.name-index c.loop-name-test.false
