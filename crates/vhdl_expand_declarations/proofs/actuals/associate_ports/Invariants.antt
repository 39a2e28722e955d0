use Rattle.std.proofs.Common.{◌≡◌, ◌≤◌, drop, length}
use Rattle.std.specs.Prelude.{flat_map}
use Rattle.vhdl_names_units.specs.views.Declarations.{ports_view}
use Rattle.vhdl_expand_bodies.specs.Sites.{site_view}
use Rattle.vhdl_expand_declarations.specs.Associations.{associated_to, next_associated, places_view}
use Rattle.vhdl_expand_declarations.specs.Stepwise.{stepwise}
use Rattle.vhdl_expand_declarations.proofs.actuals.associate_ports.Given as goal

-- the ports so far, and those of the declarations that are left
abbrev pub invariant-loop-declaration : goal.invariant-loop-declaration
invariant-loop-declaration l = record {
  rest : stepwise (next_associated (site_view l.above) l.fn.at (places_view l.actuals)) (associated_to 0 l.fn.ports.items) (flat_map ports_view l.declarations)
      ≡ stepwise (next_associated (site_view l.above) l.fn.at (places_view l.actuals)) (associated_to l.count l.ports.items) (flat_map ports_view (drop l.declaration-index l.declarations));
  within : l.count ≤ length l.ports.items;
}
