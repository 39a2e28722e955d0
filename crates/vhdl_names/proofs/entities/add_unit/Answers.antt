use Rattle.std.proofs.Common.{[], ◌∷◌, map, ap, sym}
use Rattle.vhdl_tree.specs.Tree as t
use Rattle.vhdl_tree.specs.View as view
use Rattle.vhdl_names_rules.specs.problems.Broken.{any_of, nothing}
use Rattle.vhdl_names_rules.specs.problems.Interfaces.{entity}
use Rattle.vhdl_names_rules.proofs.Telling.{told_left, told_same, told_on}
use Rattle.vhdl_names_rules.specs.Files.{entities_of}
use Rattle.vhdl_names.proofs.Entering.{broken}
use Rattle.vhdl_names.proofs.entities.add_unit.Goals as goal

pub returns-in-Entity-clause-told : goal.returns-in-Entity-clause-told
returns-in-Entity-clause-told c =
    let items = view.contexts_view c.args.unit.now.context in
    let e = view.entity_view c.in-Entity.tree in
    told_on _ (any_of (broken c.args.language) (entities_of (view.unit_view c.args.unit.now ∷ []))) c.add_viewed.result
    (λ f w. told_same (any_of (broken c.args.language) (entities_of (record { context = items; unit = t.LibraryUnit.entity e } ∷ []))) (any_of (broken c.args.language) (entities_of (view.unit_view c.args.unit.now ∷ []))) f
    (ap (λ u. any_of (broken c.args.language) (entities_of (record { context = items; unit = view.library_unit_view u } ∷ []))) (sym c.in-Entity.is))
    (told_left (entity c.args.language items e) nothing f (told_same _ (entity c.args.language items e) f (ap (λ l. entity c.args.language (map view.context_view l) e) c.deref.ensures.value) w))) c.add_viewed.ensures.told
