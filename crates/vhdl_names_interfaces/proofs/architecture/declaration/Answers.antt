use Rattle.std.proofs.Common.{◌≡◌, true, [], Some, ap, ◌∙◌, append-nil}
use Rattle.vhdl_tree.specs.View as tree
use Rattle.vhdl_names_rules.specs.units.Units as u
use Rattle.vhdl_names_rules.specs.Rules.{◌>>=◌, met}
use Rattle.vhdl_names_rules.specs.Files.{declaration}
use Rattle.vhdl_names_rules.specs.Interfaces.{declared_names}
use Rattle.vhdl_names_rules.specs.Visibility.{Sight, Declares, are_distinct}
use Rattle.vhdl_names_declarations.specs.Entered.{entered, entering}
use Rattle.vhdl_names_declarations.proofs.Regions.{names_apart}
use Rattle.vhdl_names_interfaces.specs.Views.{entities_view}
use Rattle.vhdl_names_interfaces.proofs.Interfacing.{pair}
use Rattle.vhdl_names_interfaces.proofs.Standing.{none_analysed}
use Rattle.vhdl_names_interfaces.proofs.architecture.declaration.Goals as goal

abbrev none_declared : Declares u.Declaration
none_declared = record { declared = []; analysed = [] }

-- what declares nothing leaves what is in sight
unchanged : (s : Sight) → are_distinct (declared_names s.region) ≡ true → entered s none_declared ≡ Some (pair s none_analysed)
unchanged s apart =
    ap (λ r. met (are_distinct (declared_names r)) >>= λ _. Some (pair (record s { region = r }) none_analysed)) (append-nil s.region)
    ∙ ap (λ b. met b >>= λ _. Some (pair s none_analysed)) apart

pub returns-in-Attribute-clause-given : goal.returns-in-Attribute-clause-given
returns-in-Attribute-clause-given c =
    ap (λ d. entering (declaration (entities_view c.args.entities.now)) c.args.sight.now (tree.declaration_view d)) c.in-Attribute.is
    ∙ unchanged c.args.sight.now (rw (← c.sight.view_is) (names_apart c.sight.inside.region.entries c.names_are_apart.ensures))
