use Rattle.std.proofs.Common.{◌≡◌, drop}
use Rattle.std.specs.Prelude.{flat_map}
use Rattle.vhdl_expand_rules.specs.Declarations as definition
use Rattle.vhdl_names_units.specs.views.Declarations.{declaration_view}
use Rattle.vhdl_expand_declarations.specs.Views.{declared_view}
use Rattle.vhdl_expand_declarations.specs.Stepwise.{stepwise}
use Rattle.vhdl_expand_declarations.proofs.declarative.declarations.Given as goal

-- what is declared so far, and the declarations that are left
abbrev pub invariant-loop-declaration : goal.invariant-loop-declaration
invariant-loop-declaration l =
    stepwise definition.declaration (declared_view l.fn.declared) (flat_map declaration_view l.list)
    ≡ stepwise definition.declaration (declared_view l.declared) (flat_map declaration_view (drop l.declaration-index l.list))
