use Rattle.std.proofs.Common.{◌≡◌, drop}
use Rattle.std.specs.Prelude.{flat_map}
use Rattle.vhdl_names_units.specs.views.Declarations.{generics_view}
use Rattle.vhdl_expand_bodies.specs.Sites.{site_view}
use Rattle.vhdl_expand_declarations.specs.Generics.{actuals_view, further_view, next_generic}
use Rattle.vhdl_expand_declarations.specs.Stepwise.{stepwise}
use Rattle.vhdl_expand_declarations.proofs.generics.add_all_generics.Given as goal

-- what is declared so far, and the declarations that are left
abbrev pub invariant-loop-declaration : goal.invariant-loop-declaration
invariant-loop-declaration l = record {
  rest : stepwise (next_generic (site_view l.above) (actuals_view l.actuals)) (further_view 0 l.fn.declared) (flat_map generics_view l.declarations)
      ≡ stepwise (next_generic (site_view l.above) (actuals_view l.actuals)) (further_view l.count l.declared) (flat_map generics_view (drop l.declaration-index l.declarations));
  signals : l.declared.signals ≡ l.fn.declared.signals;
}
