use Rattle.vhdl_tree.specs.View as view
use Rattle.vhdl_names_units.specs.views.Declarations.{all_generics_view}
use Rattle.vhdl_names_rules.proofs.Passing.{told_by}
use Rattle.vhdl_names_interfaces.proofs.Interfacing.{generics_told, ports_told}
use Rattle.vhdl_names_rules.specs.Rules.{all_of}
use Rattle.vhdl_names_interfaces.proofs.Portless.{no_ports}
use Rattle.vhdl_names_interfaces.proofs.interface.interface_of.Goals as goal

pub ports_if_any-requires : goal.ports_if_any-requires
ports_if_any-requires c = no_ports c.args.sight.now c.generics_if_any.new.sight (all_of (view.option_generics_view c.args.generics.now)) (all_generics_view c.in_ok-generics.generics) c.requires c.in_ok-generics.ensures.given

pub returns-in_err-generics-clause-told : goal.returns-in_err-generics-clause-told
returns-in_err-generics-clause-told c = told_by _ _ _ c.from_residual.result c.from_residual.ensures.1 (λ e p. p) (generics_told c.args.sight.now (view.option_generics_view c.args.generics.now) (view.option_ports_view c.args.ports.now) _ c.in_err-generics.ensures.told)

pub returns-in_err-ports-clause-told : goal.returns-in_err-ports-clause-told
returns-in_err-ports-clause-told c =
    told_by _ _ _ c.from_residual-in_err-ports.result c.from_residual-in_err-ports.ensures.1 (λ e p. p)
    (ports_told c.args.sight.now c.generics_if_any.new.sight (view.option_generics_view c.args.generics.now) (view.option_ports_view c.args.ports.now) (all_generics_view c.in_ok-generics.generics) _
    c.in_ok-generics.ensures.given c.in_err-ports.ensures.told)
