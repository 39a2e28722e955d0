use Rattle.std.proofs.Common.{[], ◌∷◌, Some, ap, subst, ◌∙◌, sym, refl}
use Rattle.std.proofs.lemmas.List.{length-map}
use Rattle.vhdl_tree.specs.View as tree
use Rattle.vhdl_names_rules.specs.Declarations.{within}
use Rattle.vhdl_names_rules.specs.Rules.{◌>>=◌}
use Rattle.vhdl_names_rules.specs.Visibility as visibility
use Rattle.vhdl_names_rules.specs.Visibility.{declare}
use Rattle.vhdl_names_rules.specs.problems.Broken.{Tells}
use Rattle.vhdl_names_rules.specs.problems.Declarations as broken
use Rattle.vhdl_names_rules.proofs.Passing.{passed_on, told_first, told_second}
use Rattle.vhdl_names_sight.specs.Seen.{sight_view}
use Rattle.vhdl_names_sight.specs.Views.{entry_view, region_view}
use Rattle.vhdl_names_declarations.specs.Subtyping as typed
use Rattle.vhdl_names_declarations.specs.Subtyping.{Subtype}
use Rattle.vhdl_names_declarations.proofs.Breaking.{standing_once}
use Rattle.vhdl_names_declarations.proofs.Subtypings.{region_of, with_region, subtype_is, enters_by, name_refused, name_settled}
use Rattle.vhdl_names_declarations.proofs.Turns.{more_is, place_there}
use Rattle.vhdl_names_declarations.proofs.subtypes.subtype_declaration.Goals as goal

pub returns-in_err-declare-clause-given : goal.returns-in_err-declare-clause-given
returns-in_err-declare-clause-given c = rw (← c.sight.view_is) (
    let s = sight_view c.sight.inside in
    let d = tree.subtype_declaration_view c.args.declaration.now in
    passed_on _ _ _ _ c.from_residual.result c.from_residual.ensures.1 (λ e p. p)
    (λ n. subtype_is s d c.args.counts (rw (← c.sight.view_is) at c.requires)
    ∙ name_refused region_of with_region s d.name.text c.args.counts (c.in_err-declare.ensures.given n) (typed.subtype (within s (d.name ∷ [])) d)))

pub returns-in_err-declare-clause-told : goal.returns-in_err-declare-clause-told
returns-in_err-declare-clause-told c = rw (← c.sight.view_is) (told_first _ _ _ _ c.from_residual.result c.from_residual.ensures.1 (λ e p. p) c.in_err-declare.ensures.told)

pub returns-in_err-subtype-clause-given : goal.returns-in_err-subtype-clause-given
returns-in_err-subtype-clause-given c = rw (← c.sight.view_is) (
    let s = sight_view c.sight.inside in
    let d = tree.subtype_declaration_view c.args.declaration.now in
    passed_on _ _ _ _ c.from_residual-in_err-subtype.result c.from_residual-in_err-subtype.ensures.1 (λ e p. p)
    (λ n. subtype_is s d c.args.counts (rw (← c.sight.view_is) at c.requires)
    ∙ ap (λ o. o >>= enters_by region_of with_region s d.name.text c.args.counts)
    (ap (λ r. typed.subtype (record s { region = r }) d) (sym (more_is s.region (declare d.name.text visibility.unfinished ∷ []) _ c.in_ok-declare.ensures.given)) ∙ c.in_err-subtype.ensures.given n)))

pub returns-in_err-subtype-clause-told : goal.returns-in_err-subtype-clause-told
returns-in_err-subtype-clause-told c = rw (← c.sight.view_is) (
    let s = sight_view c.sight.inside in
    let d = tree.subtype_declaration_view c.args.declaration.now in
    let hides = c.in_ok-declare.ensures.given in
    told_second (broken.standing_twice s.region (d.name ∷ [])) (broken.typed_subtype (within s (d.name ∷ [])) d) c.in_err-subtype.field-0.0 _ c.from_residual-in_err-subtype.result c.from_residual-in_err-subtype.ensures.1 (λ e p. p)
    (standing_once s.region (declare d.name.text visibility.unfinished ∷ []) (d.name ∷ []) refl (region_view c.declare.new.region) hides)
    (subst (λ r. Tells (broken.typed_subtype (record s { region = r }) d) c.in_err-subtype.field-0.0) (more_is s.region (declare d.name.text visibility.unfinished ∷ []) _ hides) c.in_err-subtype.ensures.told))

pub finish-requires : goal.finish-requires
finish-requires c = place_there c.sight.inside.region.entries c.declare.new.region.entries _ c.len-place.result c.in_ok-declare.ensures.given c.len-place.ensures.len

pub returns-clause-given : goal.returns-clause-given
returns-clause-given c = rw (← c.sight.view_is) (
    let s = sight_view c.sight.inside in
    let d = tree.subtype_declaration_view c.args.declaration.now in
    let x : Subtype = typed.subtype_view c.in_ok-subtype.subtype in
    let hides = c.in_ok-declare.ensures.given in
    subtype_is s d c.args.counts (rw (← c.sight.view_is) at c.requires)
    ∙ name_settled region_of with_region s d.name.text c.args.counts (typed.subtype (within s (d.name ∷ [])) d) x c.into_entry-entry.result.0 (region_view c.declare.new.region) (region_view c.finish.new.region) c.len-place.result hides
    (ap (λ r. typed.subtype (record s { region = r }) d) (sym (more_is s.region (declare d.name.text visibility.unfinished ∷ []) _ hides)) ∙ c.in_ok-subtype.ensures.given)
    (c.into_entry-entry.ensures.entry d.name.text) (c.len-place.ensures.len ∙ sym (length-map c.sight.inside.region.entries entry_view)) c.finish.ensures
    ∙ ap (λ a. Some (with_region s (region_view c.finish.new.region), typed.analysed_view a)) (sym c.into_entry-entry.ensures.analysed))
