use Rattle.std.proofs.Common.{◌≡◌, [], drop}
use Rattle.std.specs.Prelude.{flat_map}
use Rattle.vhdl_names_units.specs.views.Declarations as units
use Rattle.vhdl_expand_declarations.specs.Views.{declared_view}
use Rattle.vhdl_expand_declarations.specs.Stepwise.{stepwise}
use Rattle.vhdl_expand_declarations.proofs.ObjectSteps.{next_port}
use Rattle.vhdl_expand_declarations.proofs.objects.add_ports.Given as goal

-- the ports so far, and those of the declarations that are left
abbrev pub invariant-loop-declaration : goal.invariant-loop-declaration
invariant-loop-declaration l = record {
  rest : stepwise next_port (declared_view l.fn.declared) (flat_map units.ports_view l.declarations)
      ≡ stepwise next_port (declared_view l.declared) (flat_map units.ports_view (drop l.declaration-index l.declarations));
  none : (declared_view l.declared).site.signals ≡ [];
}
