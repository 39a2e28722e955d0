use Rattle.std.proofs.Common.{Some, map, ap, ◌∙◌, sym}
use Rattle.vhdl_tree.specs.View as tree
use Rattle.vhdl_tree.specs.View.{ident_view}
use Rattle.vhdl_tree.specs.declared.declaration.Mode.{Mode}
use Rattle.vhdl_names_rules.specs.units.Units as u
use Rattle.vhdl_names_rules.specs.Declarations.{mode_of, for_each, unfinished}
use Rattle.vhdl_names_rules.specs.Subtypes.{object}
use Rattle.vhdl_names_rules.specs.Visibility as visibility
use Rattle.vhdl_names_rules.specs.Visibility.{names_of, all_declared}
use Rattle.vhdl_names_rules.specs.problems.Declarations.{standing_twice, typed_port}
use Rattle.vhdl_names_rules.proofs.Passing.{passed_on, told_second}
use Rattle.vhdl_names_sight.specs.Seen.{sight_view}
use Rattle.vhdl_names_sight.specs.Views.{region_view}
use Rattle.vhdl_names_units.specs.views.Declarations.{object_view}
use Rattle.vhdl_names_declarations.specs.Entered.{more}
use Rattle.vhdl_names_declarations.specs.Porting.{Port, port_view}
use Rattle.vhdl_names_declarations.proofs.Breaking.{twice_first, standing_once}
use Rattle.vhdl_names_declarations.proofs.Classes.{map-map}
use Rattle.vhdl_names_declarations.proofs.Portings.{hidden_refused, hidden_unknown, hidden_whole}
use Rattle.vhdl_names_declarations.proofs.Regions.{names-all}
use Rattle.vhdl_names_declarations.proofs.Turns.{hidden}
use Rattle.vhdl_names_declarations.proofs.ports.hidden_port.Goals as goal

pub returns-in_err-hide-clause-given : goal.returns-in_err-hide-clause-given
returns-in_err-hide-clause-given c = rw (← c.sight.view_is) (
    let s = sight_view c.sight.inside in
    passed_on _ _ _ _ c.from_residual.result c.from_residual.ensures.1 (λ e p. p)
    (λ n. hidden_refused s (tree.port_view c.args.port.now)
    (ap (λ l. more s.region (all_declared visibility.unfinished (names_of (map ident_view l)))) (sym c.deref.ensures.value) ∙ c.in_err-hide.ensures.given n)))

pub returns-in_err-hide-clause-told : goal.returns-in_err-hide-clause-told
returns-in_err-hide-clause-told c = rw (← c.sight.view_is) (twice_first _ _ _ _ _ c.from_residual.result _ c.from_residual.ensures.1 (λ e p. p) c.deref.ensures.value c.in_err-hide.ensures.told)

pub returns-in_err-settled-clause-given : goal.returns-in_err-settled-clause-given
returns-in_err-settled-clause-given c = rw (← c.sight.view_is) (
    passed_on _ _ _ _ c.from_residual-in_err-settled.result c.from_residual-in_err-settled.ensures.1 (λ e p. p)
    (λ n. hidden_unknown (sight_view c.sight.inside) (tree.port_view c.args.port.now) (rw (← c.sight.view_is) at (c.in_err-settled.ensures.given n))))

pub returns-in_err-settled-clause-told : goal.returns-in_err-settled-clause-told
returns-in_err-settled-clause-told c = rw (← c.sight.view_is) (
    let s = sight_view c.sight.inside in
    let p = tree.port_view c.args.port.now in
    let hides = hidden s.region c.deref.result.now c.args.port.now.names.items c.deref.ensures.value (region_view c.hide.new.region) c.in_ok-hide.ensures.given in
    told_second (standing_twice s.region p.names) (typed_port s p) c.in_err-settled.field-0.0 _ c.from_residual-in_err-settled.result c.from_residual-in_err-settled.ensures.1 (λ e p. p)
    (standing_once s.region (unfinished p.names) p.names (names-all visibility.unfinished (names_of p.names)) (region_view c.hide.new.region) hides)
    (rw (← c.sight.view_is) at c.in_err-settled.ensures.told))

pub returns-clause-given : goal.returns-clause-given
returns-clause-given c = rw (← c.sight.view_is) (
    let s = sight_view c.sight.inside in
    let p = tree.port_view c.args.port.now in
    let hides = hidden s.region c.deref.result.now c.args.port.now.names.items c.deref.ensures.value (region_view c.hide.new.region) c.in_ok-hide.ensures.given in
    let x : Port = port_view c.in_ok-settled.field-0 in
    let as_port : Mode → u.Object → u.Port = λ m o. record { mode = m; object = o } in
    hidden_whole s p x (region_view c.hide.new.region) hides (rw (← c.sight.view_is) at c.in_ok-settled.ensures.given)
    ∙ ap (λ ps. Some (record s { region = region_view c.hide.new.region }, (x.standing, ps)))
    (sym (ap (λ m. map (as_port m) (object_view c.in_ok-objects.objects)) c.unwrap_or-mode.ensures
    ∙ ap (map (as_port (mode_of p.mode))) (c.in_ok-objects.ensures ∙ ap (λ l. for_each (object x.subtype x.default) (map ident_view l)) c.deref-2.ensures.value)
    ∙ map-map (as_port (mode_of p.mode)) (object x.subtype x.default) p.names)))
