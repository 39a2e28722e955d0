use Rattle.std.proofs.Common.{◌≡◌, drop}
use Rattle.std.specs.Prelude.{flat_map}
use Rattle.vhdl_names_units.specs.views.Declarations.{declaration_view}
use Rattle.vhdl_expand_rules.specs.Declarations as definition
use Rattle.vhdl_expand_bodies.specs.Sites.{site_view}
use Rattle.vhdl_expand_declarations.specs.Stepwise.{stepwise}
use Rattle.vhdl_expand_declarations.specs.Variables.{variables_view}
use Rattle.vhdl_expand_declarations.proofs.variables.process_declarations.Given as goal

-- what is declared so far, and the declarations that are left
abbrev pub invariant-loop-declaration : goal.invariant-loop-declaration
invariant-loop-declaration l =
    stepwise definition.process_declaration (definition.no_variables (site_view l.site)) (flat_map declaration_view l.declarations)
    ≡ stepwise definition.process_declaration (variables_view (site_view l.site) l.declared) (flat_map declaration_view (drop l.declaration-index l.declarations))
