use Rattle.std.proofs.Common.{[], ◌∷◌, subst}
use Rattle.vhdl_names_rules.specs.Gives.{Gives}
use Rattle.vhdl_names_sight.specs.Views.{region_view}
use Rattle.vhdl_names_declarations.specs.Entered.{more}
use Rattle.vhdl_names_declarations.proofs.region.declare_name.Goals as goal

pub returns-clause-given : goal.returns-clause-given
returns-clause-given c =
    subst (λ d. Gives (λ _. region_view c.declare_entry.new.region) (more (region_view c.args.region.now) (d ∷ [])) c.declare_entry.result)
    (c.entry.ensures c.args.name.now) c.declare_entry.ensures.given
