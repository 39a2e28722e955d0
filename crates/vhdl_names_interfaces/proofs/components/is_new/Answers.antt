use Rattle.std.proofs.Common.{[], ◌∷◌, sym, ap, subst, ◌∙◌}
use Rattle.std.specs.Prelude.{bytes_eq, is_some}
use Rattle.std.specs.Map.{lookup}
use Rattle.vhdl_tree.specs.View.{ident_view}
use Rattle.vhdl_names_rules.specs.Interfaces.{declared_names}
use Rattle.vhdl_names_sight.specs.Views.{region_view}
use Rattle.vhdl_names_rules.specs.problems.Broken.{Tells}
use Rattle.vhdl_names_rules.specs.problems.Declarations.{standing_twice}
use Rattle.vhdl_names_declarations.proofs.Breaking.{twice_here}
use Rattle.vhdl_names_declarations.proofs.Regions.{among_keys}
use Rattle.vhdl_names_interfaces.proofs.Standing.{is_twice, is_once}
use Rattle.vhdl_names_interfaces.proofs.components.is_new.Goals as goal

pub returns-then-contains_key-clause-given : goal.returns-then-contains_key-clause-given
returns-then-contains_key-clause-given c = rw (← c.sight.view_is) (λ n.
    let es = c.sight.inside.region.entries in
    is_twice es c.args.name.now.text.items c.names_are_apart.ensures
    (ap (λ x. is_some (lookup (λ k. bytes_eq x k.items) es)) (sym c.as_slice.ensures.value) ∙ sym c.contains_key.ensures ∙ c.if-contains_key.true))

pub returns-else-contains_key-clause-given : goal.returns-else-contains_key-clause-given
returns-else-contains_key-clause-given c = rw (← c.sight.view_is) (
    let es = c.sight.inside.region.entries in
    is_once es c.args.name.now.text c.names_are_apart.ensures
    (ap (λ x. is_some (lookup (λ k. bytes_eq x k.items) es)) (sym c.as_slice.ensures.value) ∙ sym c.contains_key.ensures ∙ c.if-contains_key.false))

pub returns-then-contains_key-clause-told : goal.returns-then-contains_key-clause-told
returns-then-contains_key-clause-told c = rw (← c.sight.view_is) (
    let es = c.sight.inside.region.entries in
    let ds = region_view c.sight.inside.region in
    let i = ident_view c.args.name.now in
    subst (Tells (standing_twice ds (i ∷ []))) (sym c.at.ensures)
    (twice_here (declared_names ds) i [] (sym (among_keys i.text es)
    ∙ (ap (λ x. is_some (lookup (λ k. bytes_eq x k.items) es)) (sym c.as_slice.ensures.value) ∙ sym c.contains_key.ensures ∙ c.if-contains_key.true))))
