use Rattle.std.proofs.Common.{map, Some, ap, sym, ◌∙◌}
use Rattle.std.proofs.lemmas.List.{map-set}
use Rattle.std.specs.Prelude.{option_map}
use Rattle.vhdl_tree.specs.View as view
use Rattle.vhdl_names_rules.specs.Files as rules
use Rattle.vhdl_names_units.specs.Once.{names_view}
use Rattle.vhdl_names_rules.specs.problems.Files as broken
use Rattle.vhdl_names_rules.proofs.Telling.{told_same}
use Rattle.vhdl_names_interfaces.specs.Views.{entities_view, entity_view}
use Rattle.vhdl_names_units.specs.views.Units.{architecture_view}
use Rattle.vhdl_names.proofs.Finding.{found_same, passed_told}
use Rattle.vhdl_names.proofs.Described.{described_at, described_nowhere, with_at, with_nowhere, put_there, ok_all}
use Rattle.vhdl_names.proofs.architectures.add_architecture.Goals as goal

pub returns-in_err-all-in-Some-clause-told : goal.returns-in_err-all-in-Some-clause-told
returns-in_err-all-in-Some-clause-told c =
    let g = c.args.given.now in
    let items = map view.context_view c.args.items.now in
    let a = view.architecture_view c.args.tree.now in
    let is = described_at g.language g.entities.now.entries items a c.as_slice.result.now c.as_slice.ensures.value (names_view g.names.now) c.in-Some.place c.in-Some.entity.now c.in-Some.ensures.index c.in-Some.ensures.value in
    passed_told _ c.in_err-all-in-Some.field-0.0 _ c.from_residual.result c.from_residual.ensures.1 (λ e p. p)
    (told_same _ _ c.in_err-all-in-Some.field-0.0 (sym is)
    (c.in_err-all-in-Some.ensures.told (broken.architecture (entities_view g.entities.now) (entity_view c.in-Some.entity.now) items a) c.architecture-read.ensures.told))

pub returns-in-None-clause-told : goal.returns-in-None-clause-told
returns-in-None-clause-told c =
    let g = c.args.given.now in
    let items = map view.context_view c.args.items.now in
    let a = view.architecture_view c.args.tree.now in
    found_same _ _ c.context.result
    (sym (described_nowhere g.language g.entities.now.entries items a c.as_slice.result.now c.as_slice.ensures.value (names_view g.names.now) c.in-None.ensures.index)) c.context.ensures

pub returns-in-None-clause-given : goal.returns-in-None-clause-given
returns-in-None-clause-given c = λ hidden.
    let items = map view.context_view c.args.items.now in
    let a = view.architecture_view c.args.tree.now in
    ok_all c.context.result
    (with_nowhere c.args.given.now.language c.args.given.now.entities.now.entries items a c.as_slice.result.now c.as_slice.ensures.value (map (option_map architecture_view) c.args.all.now) c.in-None.ensures.index)

pub returns-in_ok-all-in-Some-clause-told : goal.returns-in_ok-all-in-Some-clause-told
returns-in_ok-all-in-Some-clause-told c =
    let g = c.args.given.now in
    let items = map view.context_view c.args.items.now in
    let a = view.architecture_view c.args.tree.now in
    described_at g.language g.entities.now.entries items a c.as_slice.result.now c.as_slice.ensures.value (names_view g.names.now) c.in-Some.place c.in-Some.entity.now c.in-Some.ensures.index c.in-Some.ensures.value
    ∙ c.in_ok-all-in-Some.ensures.told (broken.architecture (entities_view g.entities.now) (entity_view c.in-Some.entity.now) items a) c.architecture-read.ensures.told

pub returns-in_ok-all-in-Some-clause-given : goal.returns-in_ok-all-in-Some-clause-given
returns-in_ok-all-in-Some-clause-given c = λ hidden.
    let g = c.args.given.now in
    let items = map view.context_view c.args.items.now in
    let a = view.architecture_view c.args.tree.now in
    let k = c.in-Some.place in
    let e = c.in-Some.entity.now in
    let os = map (option_map architecture_view) c.args.all.now in
    let o = rules.architecture (entities_view g.entities.now) (entity_view e) items a in
    with_at g.language g.entities.now.entries items a c.as_slice.result.now c.as_slice.ensures.value os k e c.in-Some.ensures.index c.in-Some.ensures.value
    ∙ put_there os k o (option_map architecture_view c.in_ok-all-in-Some.field-0) (c.in_ok-all-in-Some.ensures.given hidden o c.architecture-read.ensures.given)
    ∙ ap Some (sym (map-set (option_map architecture_view) c.args.all.now k c.in_ok-all-in-Some.field-0))
