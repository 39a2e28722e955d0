use Rattle.std.proofs.Common.{sym, ap, ◌∙◌}
use Rattle.std.specs.Prelude.{flat_map}
use Rattle.vhdl_names_units.specs.views.Declarations.{generics_view, ports_view}
use Rattle.vhdl_names_units.specs.views.Units.{entity_view}
use Rattle.vhdl_expand_rules.specs.Elab.{◌>>=◌}
use Rattle.vhdl_expand_rules.specs.Declarations.{ports}
use Rattle.vhdl_expand_bodies.specs.Sites.{site_view}
use Rattle.vhdl_expand_declarations.specs.Generics.{actuals_view, all_generics}
use Rattle.vhdl_expand_declarations.specs.Views.{declared_view}
use Rattle.vhdl_expand_declarations.proofs.Given.{interface_of}
use Rattle.vhdl_expand_declarations.proofs.declarative.interface_with.Goals as goal

pub returns : goal.returns
returns c =
    let above = site_view c.args.above.now in
    let actuals = actuals_view c.args.actuals.now in
    let unit = entity_view c.args.unit.now in
    let known =
    ap (λ d. all_generics above actuals d unit.generics) (sym c.new-declared.ensures)
    ∙ ap (λ gs. all_generics above actuals (declared_view c.new-declared.result) (flat_map generics_view gs)) (sym c.deref.ensures.value) ∙ c.in_ok-add_all_generics.ensures.given in
    interface_of above actuals unit ∙ ap (λ r. r >>= λ d. ports d unit.ports) known
    ∙ ap (λ ps. ports (declared_view c.add_all_generics.new.declared) (flat_map ports_view ps)) (sym c.deref-2.ensures.value) ∙ c.in_ok-add_ports.ensures
