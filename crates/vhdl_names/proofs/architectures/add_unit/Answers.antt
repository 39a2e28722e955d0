use Rattle.std.proofs.Common.{[], ◌∷◌, map, ap, sym, ◌∙◌}
use Rattle.vhdl_tree.specs.View as view
use Rattle.vhdl_names_rules.specs.Files.{architectures_of}
use Rattle.vhdl_names_units.specs.Once.{names_view}
use Rattle.vhdl_names_rules.specs.problems.Broken.{any_of}
use Rattle.vhdl_names_rules.specs.problems.Files.{described}
use Rattle.vhdl_names_interfaces.specs.Views.{entities_view}
use Rattle.vhdl_names.proofs.Finding.{found_same}
use Rattle.vhdl_names.proofs.Described.{alone_is}
use Rattle.vhdl_names.proofs.architectures.add_unit.Goals as goal

pub returns-in-Architecture-clause-told : goal.returns-in-Architecture-clause-told
returns-in-Architecture-clause-told c =
    let ns = names_view c.args.given.now.names.now in
    let es = entities_view c.args.given.now.entities.now in
    found_same _ _ c.add_architecture.result
    (ap (λ l. described c.args.given.now.language ns es (map view.context_view l, view.architecture_view c.in-Architecture.tree)) c.deref.ensures.value
    ∙ alone_is (described c.args.given.now.language ns es (view.contexts_view c.args.unit.now.context, view.architecture_view c.in-Architecture.tree))
    ∙ sym (ap (λ u. any_of (described c.args.given.now.language ns es) (architectures_of (record { context = view.contexts_view c.args.unit.now.context; unit = view.library_unit_view u } ∷ []))) c.in-Architecture.is))
    c.add_architecture.ensures.told
