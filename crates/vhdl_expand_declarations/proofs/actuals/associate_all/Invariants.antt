use Rattle.std.proofs.Common.{◌≡◌, ◌≤◌, map, drop, length}
use Rattle.vhdl_tree.specs.declared.expression.Identifier.{Identifier}
use Rattle.vhdl_names_units.specs.views.Declarations.{ports_view}
use Rattle.vhdl_expand_bodies.specs.Sites.{site_view}
use Rattle.vhdl_expand_declarations.specs.Associations.{any_port, associated_to, next_associated, places_view}
use Rattle.vhdl_expand_declarations.specs.Stepwise.{stepwise}
use Rattle.vhdl_expand_declarations.proofs.actuals.associate_all.Given as goal

-- the ports so far, and those that are left
abbrev pub invariant-loop-name : goal.invariant-loop-name
invariant-loop-name l = record {
  rest : stepwise (next_associated (site_view l.above) l.fn.at (places_view l.actuals)) (associated_to l.before l.fn.ports.items) (ports_view l.declaration)
      ≡ stepwise (next_associated (site_view l.above) l.fn.at (places_view l.actuals)) (associated_to l.count l.ports.items) (map (λ (n : Identifier). any_port l.declaration) (drop l._name-index l.names));
  within : l.count ≤ length l.ports.items;
}
