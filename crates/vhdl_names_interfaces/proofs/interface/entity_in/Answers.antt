use Rattle.std.proofs.Common.{option_map, Some, Vec, Global, sym, ap, subst, ◌∙◌}
use Rattle.vhdl_tree.specs.View as view
use Rattle.vhdl_names_units.specs.declared.declaration.Generics.{Generics}
use Rattle.vhdl_names_units.specs.declared.declaration.Ports.{Ports}
use Rattle.vhdl_names_rules.specs.Files.{labelled}
use Rattle.vhdl_names_rules.specs.Rules.{◌>>=◌, all_of}
use Rattle.vhdl_names_rules.specs.Visibility as visibility
use Rattle.vhdl_names_rules.specs.Visibility.{Sight}
use Rattle.vhdl_names_rules.specs.Interfaces.{Interface, interface, assertion_labels}
use Rattle.vhdl_names_rules.specs.problems.Broken.{Tells, ◌▸◌}
use Rattle.vhdl_names_rules.specs.problems.Declarations.{end_name, standing_twice}
use Rattle.vhdl_names_rules.specs.problems.Interfaces as broken
use Rattle.vhdl_names_rules.proofs.Passing.{passed_on, told_by, told_second}
use Rattle.vhdl_names_rules.proofs.Telling.{told_left, told_right, told_given, given_kept}
use Rattle.vhdl_names_rules.proofs.kept.Interfaces.{interface_kept}
use Rattle.vhdl_names_sight.specs.Views.{region_view}
use Rattle.vhdl_names_declarations.specs.Entered.{more}
use Rattle.vhdl_names_declarations.proofs.Breaking.{standing_once}
use Rattle.vhdl_names_declarations.proofs.Regions.{names-all}
use Rattle.vhdl_names_packages.specs.Contexts.{context_view}
use Rattle.vhdl_names_interfaces.specs.Assertions.{labels_of}
use Rattle.vhdl_names_interfaces.specs.Views.{interface_in, entity_view, entity_of, behind_interface}
use Rattle.vhdl_names_interfaces.proofs.Asserting.{labels_twice, labels_stand, names_are}
use Rattle.vhdl_names_interfaces.proofs.interface.entity_in.Goals as goal

pub returns-in_err-generics-clause-given : goal.returns-in_err-generics-clause-given
returns-in_err-generics-clause-given c =
    let name = option_map (λ i. i.now.text.items) c.args.architecture in
    passed_on entity_view _ c.in_err-generics.field-0.0 _ c.from_residual.result c.from_residual.ensures.1 (λ e p. p)
    (λ n. ap (behind_interface (context_view c.args.context) (view.entity_view c.args.tree.now) name) (c.in_err-generics.ensures.given n))

pub returns-in_err-generics-clause-told : goal.returns-in_err-generics-clause-told
returns-in_err-generics-clause-told c =
    let s = c.args.sight.now in
    let e = view.entity_view c.args.tree.now in
    told_by _ c.in_err-generics.field-0.0 _ c.from_residual.result c.from_residual.ensures.1 (λ e p. p)
    (told_left (broken.interface s e.generics e.ports) (broken.assertions s e ▸ end_name e.name e.end_name) c.in_err-generics.field-0.0 c.in_err-generics.ensures.told)

pub returns-in_err-assertion_labels-clause-given : goal.returns-in_err-assertion_labels-clause-given
returns-in_err-assertion_labels-clause-given c =
    let name = option_map (λ i. i.now.text.items) c.args.architecture in
    let k = context_view c.args.context in
    let e = view.entity_view c.args.tree.now in
    let i : Interface = interface_in c.interface_of.new.sight.region (c.in_ok-generics.generics, c.in_ok-generics.ports) in
    let ls = assertion_labels e.statements in
    passed_on entity_view _ c.in_err-assertion_labels.field-0.0 _ c.from_residual-in_err-assertion_labels.result c.from_residual-in_err-assertion_labels.ensures.1 (λ e p. p)
    (λ n. ap (behind_interface k e name) c.in_ok-generics.ensures.given
    ∙ labels_twice k e name i ls (ap (λ (s : Sight). more s.region (labelled ls)) (sym c.sight.view_is) ∙ c.in_err-assertion_labels.ensures.given n))

pub returns-in_err-assertion_labels-clause-told : goal.returns-in_err-assertion_labels-clause-told
returns-in_err-assertion_labels-clause-told c =
    let s = c.args.sight.now in
    let e = view.entity_view c.args.tree.now in
    let i : Interface = interface_in c.interface_of.new.sight.region (c.in_ok-generics.generics, c.in_ok-generics.ports) in
    let f = c.in_err-assertion_labels.field-0.0 in
    told_second (broken.interface s e.generics e.ports) (broken.assertions s e ▸ end_name e.name e.end_name) f _ c.from_residual-in_err-assertion_labels.result c.from_residual-in_err-assertion_labels.ensures.1 (λ e p. p)
    (interface_kept s e.generics e.ports i c.requires c.in_ok-generics.ensures.given)
    (told_left (broken.assertions s e) (end_name e.name e.end_name) f
    (told_given (λ i. standing_twice i.declared (labels_of e.statements)) (interface s e.generics e.ports) i f c.in_ok-generics.ensures.given
    (subst (λ (s : Sight). Tells (standing_twice s.region (labels_of e.statements)) f) c.sight.view_is c.in_err-assertion_labels.ensures.told)))

pub returns-in_err-ends-clause-given : goal.returns-in_err-ends-clause-given
returns-in_err-ends-clause-given c =
    let name = option_map (λ i. i.now.text.items) c.args.architecture in
    let k = context_view c.args.context in
    let e = view.entity_view c.args.tree.now in
    let i : Interface = interface_in c.interface_of.new.sight.region (c.in_ok-generics.generics, c.in_ok-generics.ports) in
    let ls = assertion_labels e.statements in
    let r = region_view c.assertion_labels.new.region in
    passed_on entity_view _ c.in_err-ends.field-0.0 _ c.from_residual-in_err-ends.result c.from_residual-in_err-ends.ensures.1 (λ e p. p)
    (λ n. ap (behind_interface k e name) c.in_ok-generics.ensures.given
    ∙ labels_stand k e name i ls r (ap (λ (s : Sight). more s.region (labelled ls)) (sym c.sight.view_is) ∙ c.in_ok-assertion_labels.ensures.given)
    ∙ ap (λ o. o >>= λ _. Some (entity_of k (record i { declared = r }) e name)) (c.in_err-ends.ensures.given n))

pub returns-in_err-ends-clause-told : goal.returns-in_err-ends-clause-told
returns-in_err-ends-clause-told c =
    let s = c.args.sight.now in
    let e = view.entity_view c.args.tree.now in
    let i : Interface = interface_in c.interface_of.new.sight.region (c.in_ok-generics.generics, c.in_ok-generics.ports) in
    let ls = assertion_labels e.statements in
    let labels = labels_of e.statements in
    told_second (broken.interface s e.generics e.ports) (broken.assertions s e ▸ end_name e.name e.end_name) c.in_err-ends.field-0.0 _ c.from_residual-in_err-ends.result c.from_residual-in_err-ends.ensures.1 (λ e p. p)
    (interface_kept s e.generics e.ports i c.requires c.in_ok-generics.ensures.given)
    (told_right (broken.assertions s e) (end_name e.name e.end_name) c.in_err-ends.field-0.0
    (given_kept (λ i. standing_twice i.declared labels) (interface s e.generics e.ports) i c.in_ok-generics.ensures.given
    (standing_once i.declared (labelled ls) labels (names-all visibility.label ls ∙ sym (names_are (all_of e.statements))) (region_view c.assertion_labels.new.region)
    (ap (λ (s : Sight). more s.region (labelled ls)) (sym c.sight.view_is) ∙ c.in_ok-assertion_labels.ensures.given)))
    c.in_err-ends.ensures.told)

pub returns-clause-given : goal.returns-clause-given
returns-clause-given c =
    let name = option_map (λ i. i.now.text.items) c.args.architecture in
    let k = context_view c.args.context in
    let e = view.entity_view c.args.tree.now in
    let made : Vec Generics Global × Vec Ports Global = (c.in_ok-generics.generics, c.in_ok-generics.ports) in
    let i : Interface = interface_in c.interface_of.new.sight.region made in
    let ls = assertion_labels e.statements in
    let r = region_view c.assertion_labels.new.region in
    ap (behind_interface k e name) c.in_ok-generics.ensures.given
    ∙ labels_stand k e name i ls r (ap (λ (s : Sight). more s.region (labelled ls)) (sym c.sight.view_is) ∙ c.in_ok-assertion_labels.ensures.given)
    ∙ ap (λ o. o >>= λ _. Some (entity_of k (record i { declared = r }) e name)) c.in_ok-ends.ensures.given
    ∙ ap (λ r. Some (entity_of k (interface_in (region_view r) made) e name)) (sym c.replace.ensures.value)
