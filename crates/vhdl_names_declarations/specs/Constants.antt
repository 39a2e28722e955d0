-- What constants of one declaration are, beside their names.
use Rattle.std.specs.Prelude.{ℕ, Bool, not, List, Option, Some, None, is_some, unwrap_or}
use Rattle.vhdl_tree.specs.Tree as t
use Rattle.vhdl_tree.specs.Tree.{Ident, Expr}
use Rattle.vhdl_names_rules.specs.declared.kind.ElementKind.{ElementKind}
use Rattle.vhdl_names_rules.specs.units.Expressions.{Static, Range, StaticTest}
use Rattle.vhdl_names_rules.specs.units.Units as u
use Rattle.vhdl_names_rules.specs.declared.fault.NameProblem.TheVariants.{LeftOut}
use Rattle.vhdl_names_rules.specs.Rules.{◌>>=◌, ◌>>◌, rule}
use Rattle.vhdl_names_rules.specs.Visibility as visibility
use Rattle.vhdl_names_rules.specs.Visibility.{Sight, Declared, Declares, declaration, declared_here}
use Rattle.vhdl_names_rules.specs.Expressions.{static}
use Rattle.vhdl_names_rules.specs.Subtypes as subtypes
use Rattle.vhdl_names_rules.specs.Subtypes.{subtype, integers_of, form_range, form_direction, fixed_value, declaring_literal}
use Rattle.vhdl_names_rules.specs.Declarations.{as_kind, static_test, single_expression, is_global, constant_is_global, constants_in, within_variables, for_each}
use Rattle.vhdl_names_rules.specs.problems.Broken.{Broken, ◌▸◌}
use Rattle.vhdl_names_rules.specs.problems.Places.{start}
use Rattle.vhdl_names_rules.specs.problems.Declarations.{standing_twice, typed_constants}
use Rattle.vhdl_names_trees.specs.views.Integers.{static_view, subtype_view}
use Rattle.vhdl_names_trees.specs.views.Tests.{static_test_view}
use Rattle.vhdl_names_units.specs.views.Answers.{form_view, fixed_view}
use Rattle.vhdl_names_values.specs.Marking.{integers_with}
use Rattle.vhdl_names_declarations.specs.declared.constants.Constant.{Constant}
use Rattle.vhdl_names_declarations.specs.declared.constants.Constant.TheVariants as c
use Rattle.vhdl_names_declarations.specs.declared.constants.TypedConstant.{TypedConstant}
use Rattle.vhdl_names_declarations.specs.declared.region.Settled.{Settled}
use Rattle.vhdl_names_declarations.specs.Porting.{Standing, settled_view}

pub data Value : Type 0 where
  of_integers : (told_at : Option ℕ) → u.IntegerSubtype → Static → Value
  of_truths : StaticTest → Value
  of_values : ElementKind → u.Form → u.Fixed → Value

pub record Constants : Type 0 where
  pub value : Value
  pub is_global : Bool

abbrev pub value_view : Constant → Value
value_view (c.Integer at type s) = of_integers at (subtype_view type) (static_view s)
value_view (c.Truth t) = of_truths (static_test_view t)
value_view (c.Other k form value) = of_values k (form_view form) (fixed_view value)

abbrev pub constant_view : TypedConstant → Constants
constant_view x = record { value = value_view x.constant; is_global = x.is_global }

-- where a wrong value of a subtype is told, if not at a name
abbrev pub told_at : u.IntegerSubtype → Expr → Option ℕ
told_at type e = by type.base type.range
  where
    by : u.Integers → Option (ℕ × Range) → Option ℕ
    by (u.of_type w) None = None
    by _ r = Some (start e)

abbrev pub integer : Sight → u.Integers → t.Constants → Option Constants
integer sight base d = do
  type ← integers_with sight base d.subtype.constraint
  e ← single_expression d.value
  value ← static sight e
  Some (record { value = of_integers (told_at type e) type value; is_global = constant_is_global sight d e })

abbrev pub boolean : Sight → t.Constants → Option Constants
boolean sight d = do
  rule LeftOut (not (is_some d.subtype.constraint))
  e ← single_expression d.value
  value ← static_test sight e
  Some (record { value = of_truths value; is_global = constant_is_global sight d e })

abbrev pub other : Sight → t.Constants → Option Constants
other sight d = do
  s ← subtype sight d.subtype
  kind ← as_kind s.type
  value ← fixed_value sight s.type (form_range s.form) d.value
  Some (record { value = of_values kind s.form value; is_global = is_global sight d.subtype })

abbrev pub by_class : Sight → t.Constants → Declared → subtypes.TypeClass → Option Constants
by_class sight d mark subtypes.integers = integers_of mark >>= λ base. integer sight base d
by_class sight d mark subtypes.booleans = boolean sight d
by_class sight d mark subtypes.others = other sight d

abbrev pub constant : Sight → t.Constants → Option Constants
constant sight d =
    declaration sight d.subtype.mark.text >>= λ mark. by_class sight d mark (subtypes.class_of mark.meaning)

-- how they stand in their region
abbrev pub standing_view : Settled → Standing
standing_view = settled_view

abbrev pub standing : Constants → Standing
standing x = by x.value
  where
    by : Value → Standing
    by (of_integers at type s) =
        record { meaning = visibility.integer_constant; direction = None; is_global = x.is_global }
    by (of_truths t) = record { meaning = visibility.boolean_constant; direction = None; is_global = x.is_global }
    by (of_values kind form value) = record {
      meaning = λ k. visibility.constant k kind (declaring_literal value);
      direction = form_direction form;
      is_global = x.is_global;
    }

abbrev pub declarations : List Ident → Constants → List u.Declaration
declarations ns x = by x.value
  where
    by : Value → List u.Declaration
    by (of_integers at type s) = for_each (λ n. u.Declaration.integer (unwrap_or at n.at) type s) ns
    by (of_truths t) = for_each (λ n. u.Declaration.truth n.at t) ns
    by (of_values kind form value) = for_each (λ n. u.Declaration.constant n.at form value) ns

-- ---- of a process

abbrev pub of_process : Sight → t.Constants → Option (Declares u.Declaration)
of_process sight d = constants_in (within_variables sight d.names) (declared_here sight) d

abbrev pub process_breaks : Sight → t.Constants → Broken
process_breaks sight d =
    standing_twice sight.variables d.names ▸ typed_constants (within_variables sight d.names) d
