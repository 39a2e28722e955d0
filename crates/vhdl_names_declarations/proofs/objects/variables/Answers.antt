use Rattle.std.proofs.Common.{Bool, map, option_map, Option, ap, ◌∙◌, sym}
use Rattle.std.proofs.lemmas.List.{length-map}
use Rattle.vhdl_names_rules.specs.units.Units as u
use Rattle.vhdl_names_rules.specs.units.Units.{Fixed}
use Rattle.vhdl_names_rules.specs.Subtypes.{Subtype, form_direction, object}
use Rattle.vhdl_names_rules.specs.Declarations.{is_global, for_each, within_variables}
use Rattle.vhdl_names_rules.specs.Visibility as visibility
use Rattle.vhdl_names_rules.specs.Visibility.{names_of, all_declared, with_variables}
use Rattle.vhdl_tree.specs.declared.operator.Direction.{Direction}
use Rattle.vhdl_tree.specs.View as tree
use Rattle.vhdl_tree.specs.View.{ident_view}
use Rattle.vhdl_names_sight.specs.Seen.{sight_view}
use Rattle.vhdl_names_sight.specs.Views.{region_view, entry_view}
use Rattle.vhdl_names_units.specs.views.Answers.{subtype_view, fixed_view}
use Rattle.vhdl_names_declarations.specs.declared.class.ObjectClass.TheVariants as k
use Rattle.vhdl_names_declarations.specs.declared.region.Settled.{Settled}
use Rattle.vhdl_names_declarations.specs.Entered.{more}
use Rattle.vhdl_names_declarations.specs.Porting.{Standing}
use Rattle.vhdl_names_declarations.specs.Typed.{typed_object}
use Rattle.vhdl_names_declarations.proofs.Classes.{variables_is, variable_standing, variables_of, map-map}
use Rattle.vhdl_names_declarations.proofs.Turns.{refused, unknown, hidden, settled_whole, more_is, first_within}
use Rattle.vhdl_names_declarations.proofs.Numbering.{small_in_process}
use Rattle.vhdl_names_rules.proofs.Passing.{passed_on}
use Rattle.vhdl_names_declarations.proofs.objects.variables.Goals as goal
use Rattle.vhdl_names_rules.specs.problems.Declarations as broken
use Rattle.vhdl_names_declarations.proofs.Breaking.{twice_first, hidden_behind}

pub returns-in_err-hide-clause-given : goal.returns-in_err-hide-clause-given
returns-in_err-hide-clause-given c = rw (← c.sight.view_is) (
    let s = sight_view c.sight.inside in
    let g = tree.variables_view c.args.declaration.now in
    passed_on _ _ _ _ c.from_residual.result c.from_residual.ensures.1 (λ e p. p)
    (λ n. variables_is s g c.args.counts (rw (← c.sight.view_is) at c.requires)
    ∙ refused (λ s. s.variables) with_variables s c.args.counts (names_of g.names) (variable_standing s g) (variables_of g)
    (ap (λ l. more s.variables (all_declared visibility.unfinished (names_of (map ident_view l)))) (sym c.deref.ensures.value) ∙ c.in_err-hide.ensures.given n) (typed_object (within_variables s g.names) g.subtype g.default)))

pub returns-in_err-subtype-clause-given : goal.returns-in_err-subtype-clause-given
returns-in_err-subtype-clause-given c = rw (← c.sight.view_is) (
    let s = sight_view c.sight.inside in
    let g = tree.variables_view c.args.declaration.now in
    passed_on _ _ _ _ c.from_residual-in_err-subtype.result c.from_residual-in_err-subtype.ensures.1 (λ e p. p)
    (λ n. variables_is s g c.args.counts (rw (← c.sight.view_is) at c.requires)
    ∙ unknown (λ s. s.variables) with_variables s c.args.counts (names_of g.names) (variable_standing s g) (variables_of g) (typed_object (within_variables s g.names) g.subtype g.default) (ap (λ r. typed_object (record s { variables = r }) g.subtype g.default) (sym (more_is s.variables (all_declared visibility.unfinished (names_of g.names)) _ (hidden s.variables c.deref.result.now c.args.declaration.now.names.items c.deref.ensures.value _ c.in_ok-hide.ensures.given))) ∙ c.in_err-subtype.ensures.given n)))

pub settle-requires-clause-place : goal.settle-requires-clause-place
settle-requires-clause-place c = first_within c.sight.inside.variables.entries c.hide.new.region.entries _ _ c.in_ok-hide.ensures.given c.len-first.ensures.len

pub settle-requires-clause-counts : goal.settle-requires-clause-counts
settle-requires-clause-counts c = small_in_process c.args.counts c.sight.inside.region.entries c.sight.inside.variables.entries c.len-first.result c.region_is_small.ensures c.len-first.ensures.len (rw (← c.sight.view_is) at c.requires)

pub returns-clause-given : goal.returns-clause-given
returns-clause-given c = rw (← c.sight.view_is) (
    let s = sight_view c.sight.inside in
    let g = tree.variables_view c.args.declaration.now in
    let hides = hidden s.variables c.deref.result.now c.args.declaration.now.names.items c.deref.ensures.value (region_view c.hide.new.region) c.in_ok-hide.ensures.given in
    let is = more_is s.variables (all_declared visibility.unfinished (names_of g.names)) _ hides in
    let x : Subtype × Option Fixed = (subtype_view c.in_ok-subtype.subtype, option_map fixed_view c.in_ok-subtype.default) in
    let by : Option Direction → Bool → Standing = λ d b. record { meaning = λ n. visibility.variable n x.0.type; direction = d; is_global = b } in
    let how : Settled = record { class = k.Variable c.in_ok-subtype.subtype.object_type; direction = c.direction.result; is_global = c.is_global.result } in
    let stands = ap (λ d. by d c.is_global.result) c.direction.ensures ∙ ap (by (form_direction x.0.form)) (c.is_global.ensures ∙ ap (λ r. is_global (record s { variables = r }) g.subtype) is) in
    variables_is s g c.args.counts (rw (← c.sight.view_is) at c.requires)
    ∙ settled_whole (λ s. s.variables) (λ s r. record s { variables = r }) s c.args.counts (names_of g.names) (variable_standing s g) (variables_of g) (typed_object (within_variables s g.names) g.subtype g.default) x how _ _ _ _
    stands (c.len-first.ensures.len ∙ sym (length-map c.sight.inside.variables.entries entry_view)) hides (ap (λ r. typed_object (record s { variables = r }) g.subtype g.default) (sym is) ∙ c.in_ok-subtype.ensures.given)
    c.in_ok-settle.ensures
    (sym (ap (map u.variable) (c.in_ok-objects.ensures ∙ ap (λ l. for_each (object x.0 x.1) (map ident_view l)) c.deref-2.ensures.value) ∙ map-map u.variable (object x.0 x.1) g.names)))

pub returns-in_err-hide-clause-told : goal.returns-in_err-hide-clause-told
returns-in_err-hide-clause-told c = rw (← c.sight.view_is) (twice_first _ _ _ _ _ c.from_residual.result _ c.from_residual.ensures.1 (λ e p. p) c.deref.ensures.value c.in_err-hide.ensures.told)

pub returns-in_err-subtype-clause-told : goal.returns-in_err-subtype-clause-told
returns-in_err-subtype-clause-told c = rw (← c.sight.view_is) (
    hidden_behind _ _ c.args.declaration.now.names.items _ _ c.from_residual-in_err-subtype.result (region_view c.hide.new.region) (λ r. broken.object (record (sight_view c.sight.inside) { variables = r }) (tree.variables_view c.args.declaration.now).subtype (tree.variables_view c.args.declaration.now).default)
    c.from_residual-in_err-subtype.ensures.1 (λ e p. p) c.deref.ensures.value c.in_ok-hide.ensures.given c.in_err-subtype.ensures.told)
