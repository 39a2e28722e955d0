use Rattle.std.proofs.Common.{◌≡◌, ℕ, [], map, drop, Ok, option_map}
use Rattle.std.specs.Prelude.{◌≢◌}
use Rattle.vhdl_tree.specs.declared.expression.Identifier.{Identifier}
use Rattle.vhdl_tree.specs.View.{ident_view}
use Rattle.vhdl_expand_tree.specs.Views.{role_view}
use Rattle.vhdl_names_units.specs.views.Answers.{fixed_view, form_view}
use Rattle.vhdl_names_units.specs.views.Declarations as units
use Rattle.vhdl_expand_rules.specs.Tree.{internal}
use Rattle.vhdl_expand_rules.specs.views.Kinds.{kind_view}
use Rattle.vhdl_expand_declarations.specs.Objects.{named_object, next_object, shape_of}
use Rattle.vhdl_expand_declarations.specs.Views.{declared_view}
use Rattle.vhdl_expand_declarations.specs.Stepwise.{stepwise}
use Rattle.vhdl_expand_declarations.proofs.objects.add_objects.Given as goal

-- what is declared so far, and the names that are left, where the same is computed as at first, whatever byte it is told at
abbrev pub invariant-loop-name : goal.invariant-loop-name
invariant-loop-name l = record {
  rest : stepwise (next_object (role_view l.role)) (declared_view l.fn.declared) (units.object_view l.objects)
      ≡ stepwise (next_object (role_view l.role)) (declared_view l.declared) (map (λ (n : Identifier). named_object l.objects (ident_view n)) (drop l.name-index l.names));
  there : (at : ℕ) → shape_of (declared_view l.declared).site at (form_view l.objects.form) (option_map fixed_view l.objects.default) ≡ Ok (kind_view l.shape.kind, l.shape.starts.items);
  ports : role_view l.role ≢ internal → (declared_view l.declared).site.signals ≡ [];
}
