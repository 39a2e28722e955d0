-- What is analysed of a declaration beside its names.
use Rattle.std.specs.Prelude.{ℕ, Bool, not, is_some, Option, Some, None, option_map}
use Rattle.vhdl_tree.specs.declared.operator.Direction.{Direction}
use Rattle.vhdl_tree.specs.Tree as t
use Rattle.vhdl_tree.specs.Tree.{Expr}
use Rattle.vhdl_names_rules.specs.declared.fault.NameProblem.TheVariants.{LeftOut}
use Rattle.vhdl_names_rules.specs.units.Units as u
use Rattle.vhdl_names_rules.specs.units.Units.{Fixed}
use Rattle.vhdl_names_rules.specs.Rules.{◌>>=◌, ◌>>◌, rule, if_any, is_wide}
use Rattle.vhdl_names_rules.specs.Visibility as visibility
use Rattle.vhdl_names_rules.specs.Visibility.{Sight, Meaning, Declared, declaration}
use Rattle.vhdl_names_rules.specs.Expressions.{static}
use Rattle.vhdl_names_rules.specs.Declarations.{as_kind, static_test, is_global}
use Rattle.vhdl_names_rules.specs.Subtypes as subtypes
use Rattle.vhdl_names_rules.specs.Subtypes.{Subtype, subtype, object_subtype, form_range, form_direction, integers_of, fixed_value}
use Rattle.vhdl_names_rules.specs.problems.Broken.{Broken, ◌▸◌, where_given, of_any}
use Rattle.vhdl_names_rules.specs.problems.Declarations as broken
use Rattle.vhdl_names_rules.specs.problems.Expressions as expressions_broken
use Rattle.vhdl_names_rules.specs.problems.Subtypes as subtypes_broken
use Rattle.vhdl_names_units.specs.views.Answers.{fixed_view}
use Rattle.vhdl_names_units.specs.views.Declarations.{generic_type_view}
use Rattle.vhdl_names_values.specs.Marking.{integers_with}
use Rattle.vhdl_names_declarations.specs.declared.generics.TypedGeneric.{TypedGeneric}
use Rattle.vhdl_names_declarations.specs.Settled.{class_view}

-- ---- generics: what they are declared to be, by number, with a range or none; their type and default

pub record Generic : Type 0 where
  pub meaning : ℕ → Meaning
  pub direction : Option Direction
  pub is_global : Bool
  pub type : u.GenericType
  pub default : Option Fixed

abbrev pub generic_view : TypedGeneric → Generic
generic_view g = record {
  meaning = class_view g.settled.class;
  direction = g.settled.direction;
  is_global = g.settled.is_global;
  type = generic_type_view g.generic_type;
  default = option_map fixed_view g.default;
}

abbrev pub integer_value : Sight → Expr → Option Fixed
integer_value sight e = option_map u.Fixed.integer (static sight e)

abbrev pub truth_value : Sight → Expr → Option Fixed
truth_value sight e = option_map u.Fixed.truth (static_test sight e)

-- integers of this base
abbrev pub integers : Sight → u.Integers → t.Generic → Option Generic
integers sight base g = do
  type ← integers_with sight base g.subtype.constraint
  default ← if_any (integer_value sight) g.default
  Some (record {
    meaning = visibility.generic;
    direction = None;
    is_global = is_global sight g.subtype;
    type = u.integers type;
    default = default;
  })

abbrev pub booleans : Sight → t.Generic → Option Generic
booleans sight g = do
  rule LeftOut (not (is_some g.subtype.constraint))
  default ← if_any (truth_value sight) g.default
  Some (record {
    meaning = visibility.boolean_generic;
    direction = None;
    is_global = is_global sight g.subtype;
    type = u.truths;
    default = default;
  })

abbrev pub others : Sight → t.Generic → Option Generic
others sight g = do
  x ← subtype sight g.subtype
  kind ← as_kind x.type
  default ← if_any (λ e. fixed_value sight x.type (form_range x.form) (t.single e)) g.default
  Some (record {
    meaning = λ k. visibility.constant k kind None;
    direction = form_direction x.form;
    is_global = is_global sight g.subtype;
    type = u.values x.form;
    default = default;
  })

abbrev pub by_class : Sight → t.Generic → Declared → subtypes.TypeClass → Option Generic
by_class sight g d subtypes.integers = integers_of d >>= λ base. integers sight base g
by_class sight g d subtypes.booleans = rule LeftOut (is_wide sight.language) >> booleans sight g
by_class sight g d subtypes.others = rule LeftOut (is_wide sight.language) >> others sight g

abbrev pub generic : Sight → t.Generic → Option Generic
generic sight g = declaration sight g.subtype.mark.text >>= λ d. by_class sight g d (subtypes.class_of d.meaning)

-- which rules they break behind their mark
abbrev pub integers_break : Sight → t.Generic → Broken
integers_break sight g =
    subtypes_broken.integer_subtype sight g.subtype ▸ of_any (expressions_broken.static sight) g.default

abbrev pub booleans_break : Sight → t.Generic → Broken
booleans_break sight g =
    subtypes_broken.boolean_subtype g.subtype ▸ of_any (expressions_broken.static_condition sight) g.default

abbrev pub others_break : Sight → t.Generic → Broken
others_break sight g =
    subtypes_broken.subtype sight g.subtype
    ▸ where_given (subtype sight g.subtype)
    (λ s. broken.nine_valued g.subtype.mark s ▸ of_any (λ e. broken.value_of sight s (t.single e)) g.default)

-- ---- objects: their type and default

abbrev pub typed_object : Sight → t.Subtype → Option t.Value → Option (Subtype × Option Fixed)
typed_object sight s v = do
  x ← object_subtype sight s
  default ← if_any (fixed_value sight x.type (form_range x.form)) v
  Some (x, default)
