-- What single steps of a subtype indication answer.
use Rattle.std.specs.Prelude.{ℕ, false, Option, Some, None, option_map}
use Rattle.vhdl_tree.specs.Tree as t
use Rattle.vhdl_names_rules.specs.declared.kind.ObjectType.TheVariants.{Integers}
use Rattle.vhdl_names_rules.specs.units.Expressions.{Range}
use Rattle.vhdl_names_rules.specs.units.Units as u
use Rattle.vhdl_names_rules.specs.Rules.{◌>>=◌, if_any}
use Rattle.vhdl_names_rules.specs.Visibility.{Sight, Declared}
use Rattle.vhdl_names_rules.specs.Subtypes as subtypes
use Rattle.vhdl_names_rules.specs.Subtypes.{Subtype, TypeClass, integers_of, marked, one_range, index_range, value_range}

-- a type mark alone
abbrev pub marked_alone : Declared → Option Subtype
marked_alone d = one_range d.range None >>= marked d.meaning

-- a type mark with what stands behind it, if that is one range
abbrev pub marked_with : Sight → Declared → t.Constraint → Option Subtype
marked_with sight d c = do
  r ← index_range sight c
  only ← one_range d.range (Some r)
  marked d.meaning only

-- integers of this base, with what stands behind the mark
abbrev pub integers_with : Sight → u.Integers → Option t.Constraint → Option u.IntegerSubtype
integers_with sight base c = option_map (λ r. record { base = base; range = r }) (if_any (value_range sight) c)

-- with this range
abbrev pub ranged_integers : u.Integers → Option (ℕ × Range) → Option u.IntegerSubtype
ranged_integers base r = option_map (λ x. record { base = base; range = x }) (r >>= λ x. Some (Some x))

-- a signal, port or variable of integers
abbrev pub integers_object : u.IntegerSubtype → Subtype
integers_object x = record { type = Integers; form = u.Form.number x; is_resolved = false }

abbrev pub integer_object : Sight → u.Integers → t.Subtype → Option Subtype
integer_object sight base s = option_map integers_object (integers_with sight base s.constraint)

-- by what its mark is declared to be
abbrev pub object_by_class : Sight → t.Subtype → Declared → TypeClass → Option Subtype
object_by_class sight s d subtypes.integers = integers_of d >>= λ base. integer_object sight base s
object_by_class sight s d subtypes.booleans = subtypes.boolean_object s
object_by_class sight s d subtypes.others = subtypes.subtype sight s
