use Rattle.std.proofs.Common.{◌≡◌, map, drop}
use Rattle.vhdl_tree.specs.declared.expression.Identifier.{Identifier}
use Rattle.vhdl_tree.specs.View.{ident_view}
use Rattle.vhdl_names_units.specs.views.Declarations.{generics_view}
use Rattle.vhdl_expand_bodies.specs.Sites.{site_view}
use Rattle.vhdl_expand_declarations.specs.Generics.{actuals_view, further_view, generic_view, next_generic}
use Rattle.vhdl_expand_declarations.specs.Stepwise.{stepwise}
use Rattle.vhdl_expand_declarations.proofs.generics.add_generics.Given as goal

-- what is declared so far, and the names that are left
abbrev pub invariant-loop-name : goal.invariant-loop-name
invariant-loop-name l = record {
  rest : stepwise (next_generic (site_view l.above) (actuals_view l.actuals)) (further_view l.fn.before l.fn.declared) (generics_view l.declaration)
      ≡ stepwise (next_generic (site_view l.above) (actuals_view l.actuals)) (further_view l.count l.declared) (map (λ (n : Identifier). generic_view (ident_view n) l.declaration) (drop l.name-index l.name-items));
  signals : l.declared.signals ≡ l.fn.declared.signals;
}
