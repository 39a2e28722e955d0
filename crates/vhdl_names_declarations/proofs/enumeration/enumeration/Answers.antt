use Rattle.std.proofs.Common.{refl}
use Rattle.vhdl_tree.specs.View.{enumeration_view}
use Rattle.vhdl_names_sight.specs.Seen.{sight_view}
use Rattle.vhdl_names_sight.specs.Views.{region_view}
use Rattle.vhdl_names_declarations.specs.Enumerating.{enumerated}
use Rattle.vhdl_names_declarations.proofs.Declaring.{enumeration_is, in_region, gives_through}
use Rattle.vhdl_names_declarations.proofs.enumeration.enumeration.Goals as goal

pub returns-clause-given : goal.returns-clause-given
returns-clause-given c = rw (← c.sight.view_is) (
    let s = sight_view c.sight.inside in
    let d = enumeration_view c.args.declaration.now in
    gives_through (λ _. region_view c.enumeration_in.new.region) _ (enumerated s.region c.args.counts.enumerations d) _ (in_region s) c.enumeration_in.result
    (enumeration_is s d c.args.counts (rw (← c.sight.view_is) at c.requires)) (λ x. refl) c.enumeration_in.ensures.given)
