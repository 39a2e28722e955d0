use Rattle.std.proofs.Common.{◌≡◌, map, drop}
use Rattle.vhdl_tree.specs.declared.expression.Identifier.{Identifier}
use Rattle.vhdl_tree.specs.View.{ident_view}
use Rattle.vhdl_names_units.specs.views.Declarations.{object_view}
use Rattle.vhdl_expand_bodies.specs.Sites.{site_view}
use Rattle.vhdl_expand_declarations.specs.Objects.{named_object}
use Rattle.vhdl_expand_declarations.specs.Stepwise.{stepwise}
use Rattle.vhdl_expand_declarations.specs.Variables.{next_variable, variables_view}
use Rattle.vhdl_expand_declarations.proofs.variables.add_variables.Given as goal

-- what is declared so far, and the names that are left
abbrev pub invariant-loop-name : goal.invariant-loop-name
invariant-loop-name l =
    stepwise next_variable (variables_view (site_view l.site) l.fn.declared) (object_view l.objects)
    ≡ stepwise next_variable (variables_view (site_view l.site) l.declared) (map (λ (n : Identifier). named_object l.objects (ident_view n)) (drop l.name-index l.name-items))
