use Rattle.std.proofs.Common.{ap, ◌∙◌}
use Rattle.vhdl_names_rules.specs.Files.{labelled}
use Rattle.vhdl_names_rules.specs.Statements.{label_names}
use Rattle.vhdl_tree.specs.View.{option_ident_view}
use Rattle.vhdl_names_sight.specs.Views.{region_view}
use Rattle.vhdl_names_declarations.specs.Entered.{more}
use Rattle.vhdl_names_declarations.proofs.Regions.{more_none, names_apart}
use Rattle.vhdl_names_declarations.proofs.labels.declare_if_any.Goals as goal

pub returns-in-None-clause-given : goal.returns-in-None-clause-given
returns-in-None-clause-given c =
    ap (λ l. more (region_view c.args.region.now) (labelled (label_names (option_ident_view l)))) c.in-None.is
    ∙ more_none (region_view c.args.region.now) (names_apart c.args.region.now.entries c.names_are_apart.ensures)
