-- Which rules declarations break (IEEE 1076-2008, clauses 5, 6, 12.1 and 12.4), each with those before it in sight.
use Rattle.std.specs.Prelude.{◌||◌, if◌then◌else◌, nat_le, List, [], ◌∷◌, length, Option, Some}
use Rattle.vhdl_tree.specs.Tree as t
use Rattle.vhdl_tree.specs.Tree.{Ident, Selected, ContextItem, library, uses}
use Rattle.vhdl_names_rules.specs.Rules.{is_wide}
use Rattle.vhdl_names_rules.specs.declared.fault.NameProblem.{NameProblem}
use Rattle.vhdl_names_rules.specs.declared.fault.NameProblem.TheVariants.{Undeclared, WrongKind, TypeMismatch, LeftOut}
use Rattle.vhdl_names_rules.specs.Visibility as visibility
use Rattle.vhdl_names_rules.specs.Visibility.{Declared, Meaning, Sight, Declares, declaration}
use Rattle.vhdl_names_rules.specs.Packages as packages
use Rattle.vhdl_names_rules.specs.Packages.{Context, is_ieee, is_library, is_logic, is_numbers}
use Rattle.vhdl_names_rules.specs.Subtypes as subtypes
use Rattle.vhdl_names_rules.specs.Subtypes.{TypeClass, class_of, form_range}
use Rattle.vhdl_names_rules.specs.Declarations.{within, within_variables, without_ports, as_kind, as_port_type, is_open}
use Rattle.vhdl_names_rules.specs.Interfaces.{declared_names}
use Rattle.vhdl_names_rules.specs.problems.Broken.{Broken, nothing, refused, ◌▸◌, unless, lacking, where_given, of_any, any_of}
use Rattle.vhdl_names_rules.specs.problems.Twice.{twice}
use Rattle.vhdl_names_rules.specs.problems.Expressions.{meaning, static, static_condition}
use Rattle.vhdl_names_rules.specs.problems.Subtypes.{subtype, object_subtype, integer_subtype, boolean_subtype, fixed_value}

-- ---- names

-- a name that the region has already, or of these names one before it
abbrev pub standing_twice : List Declared → List Ident → Broken
standing_twice region names = twice (declared_names region) names

-- an end name, if there is one, repeats the name at the beginning
abbrev pub end_name : Ident → Option Ident → Broken
end_name name = of_any (λ e. unless WrongKind e.at (visibility.ends name.text (Some e)))

-- ---- context clauses

-- a library that is offered
abbrev pub library_named : Ident → Broken
library_named i = unless LeftOut i.at (is_library i)

-- a package of library ieee, which a clause before it names
abbrev pub package_used : Context → Selected → Broken
package_used before s =
    unless LeftOut s.library.at (is_ieee s.library)
    ▸ unless Undeclared s.library.at before.has_ieee
    ▸ unless LeftOut s.name.at (is_logic s || is_numbers s)

-- a use clause; none in a text is without packages
abbrev pub packages_used : Context → List Selected → Broken
packages_used before ss = any_of (package_used before) ss ▸ unless Undeclared 0 before.has_ieee

-- the context items one after another, behind those before them
abbrev pub context : Context → List ContextItem → Broken
context before [] = nothing
context before (library ns ∷ rest) =
    any_of library_named ns ▸ where_given (packages.context before (library ns ∷ [])) (λ c. context c rest)
context before (uses ss ∷ rest) =
    packages_used before ss ▸ where_given (packages.context before (uses ss ∷ [])) (λ c. context c rest)

-- ---- one declaration after another

-- declarations that are given have those behind them in sight of them
abbrev pub in_order : {A B : Type 0} → (Sight → List Declared → Sight)
    → (Sight → A → Option (Declares B)) → (Sight → A → Broken) → Sight → List A → Broken
in_order with_more declares broken sight [] = nothing
in_order with_more declares broken sight (d ∷ ds) =
    broken sight d
    ▸ where_given (declares sight d) (λ x. in_order with_more declares broken (with_more sight x.declared) ds)

-- ---- generics and ports

-- generics are integers; in the narrow language another type is left out
abbrev pub generic_problem : Meaning → NameProblem
generic_problem visibility.boolean_type = LeftOut
generic_problem (visibility.element_type r) = LeftOut
generic_problem (visibility.vector_type k r) = LeftOut
generic_problem (visibility.enumeration_type e count) = LeftOut
generic_problem _ = WrongKind

-- a type of the nine values: enumerations are left out
abbrev pub nine_valued : Ident → subtypes.Subtype → Broken
nine_valued mark s = lacking LeftOut mark.at (as_kind s.type)

abbrev pub value_of : Sight → subtypes.Subtype → t.Value → Broken
value_of sight s v = fixed_value sight s.type (form_range s.form) v

abbrev pub generic_by : Sight → t.Generic → Meaning → TypeClass → Broken
generic_by sight g m subtypes.integers = integer_subtype sight g.subtype ▸ of_any (static sight) g.default
generic_by sight g m subtypes.booleans =
    unless (generic_problem m) g.subtype.mark.at (is_wide sight.language) ▸ boolean_subtype g.subtype
    ▸ of_any (static_condition sight) g.default
generic_by sight g m subtypes.others =
    unless (generic_problem m) g.subtype.mark.at (is_wide sight.language) ▸ subtype sight g.subtype
    ▸ where_given (subtypes.subtype sight g.subtype)
    (λ s. nine_valued g.subtype.mark s ▸ of_any (λ e. value_of sight s (t.single e)) g.default)

abbrev pub typed_generic : Sight → t.Generic → Broken
typed_generic sight g =
    meaning sight g.subtype.mark
    ▸ where_given (visibility.meaning sight g.subtype.mark.text) (λ m. generic_by sight g m (class_of m))

abbrev pub generic : Sight → t.Generic → Broken
generic sight g = standing_twice sight.region g.names ▸ typed_generic sight g

-- where the names of a list's ports mean nothing
abbrev pub typed_port : Sight → t.Port → Broken
typed_port sight p =
    object_subtype sight p.subtype
    ▸ where_given (subtypes.object_subtype sight p.subtype)
    (λ s. lacking LeftOut p.subtype.mark.at (as_port_type s.type) ▸ of_any (value_of sight s) p.default)

abbrev pub port : Sight → t.Port → Broken
port sight p = standing_twice sight.region p.names ▸ typed_port (without_ports sight) p

-- ---- signals, constants and variables

-- an object, whose name isn't declared yet in its own declaration
abbrev pub object : Sight → t.Subtype → Option t.Value → Broken
object inner s v =
    object_subtype inner s ▸ where_given (subtypes.object_subtype inner s) (λ x. of_any (value_of inner x) v)

abbrev pub signals : Sight → t.Signals → Broken
signals sight d = standing_twice sight.region d.names ▸ object (within sight d.names) d.subtype d.default

abbrev pub variables : Sight → t.Variables → Broken
variables sight d = standing_twice sight.variables d.names ▸ object (within_variables sight d.names) d.subtype d.default

-- the value of an integer or boolean constant is one expression
abbrev pub of_single : (t.Expr → Broken) → t.Value → Broken
of_single broken (t.single e) = broken e
of_single broken (t.others at e) = refused TypeMismatch at

abbrev pub integer_constants : Sight → t.Constants → Broken
integer_constants inner d = integer_subtype inner d.subtype ▸ of_single (static inner) d.value

abbrev pub boolean_constants : Sight → t.Constants → Broken
boolean_constants inner d = boolean_subtype d.subtype ▸ of_single (static_condition inner) d.value

abbrev pub other_constants : Sight → t.Constants → Broken
other_constants inner d =
    subtype inner d.subtype
    ▸ where_given (subtypes.subtype inner d.subtype)
    (λ s. nine_valued d.subtype.mark s ▸ value_of inner s d.value)

abbrev pub constants_by : Sight → t.Constants → TypeClass → Broken
constants_by inner d subtypes.integers = integer_constants inner d
constants_by inner d subtypes.booleans = boolean_constants inner d
constants_by inner d subtypes.others = other_constants inner d

-- constants, whose names aren't declared yet
abbrev pub typed_constants : Sight → t.Constants → Broken
typed_constants inner d =
    meaning inner d.subtype.mark
    ▸ where_given (visibility.meaning inner d.subtype.mark.text) (λ m. constants_by inner d (class_of m))

abbrev pub constants : Sight → t.Constants → Broken
constants sight d = standing_twice sight.region d.names ▸ typed_constants (within sight d.names) d

-- ---- subtypes

abbrev pub subtype_by : Sight → t.SubtypeDeclaration → Declared → TypeClass → Broken
subtype_by inner d mark subtypes.integers = integer_subtype inner d.subtype
subtype_by inner d mark subtypes.booleans = boolean_subtype d.subtype
subtype_by inner d mark subtypes.others = if is_open mark d.subtype then nothing else subtype inner d.subtype

abbrev pub typed_subtype : Sight → t.SubtypeDeclaration → Broken
typed_subtype inner d =
    meaning inner d.subtype.mark
    ▸ where_given (declaration inner d.subtype.mark.text) (λ mark. subtype_by inner d mark (class_of mark.meaning))

abbrev pub subtype_declaration : Sight → t.SubtypeDeclaration → Broken
subtype_declaration sight d =
    standing_twice sight.region (d.name ∷ []) ▸ typed_subtype (within sight (d.name ∷ [])) d

-- ---- enumerations, in a region that has these already

abbrev pub enumeration_in : List Declared → t.Enumeration → Broken
enumeration_in region d =
    unless LeftOut d.name.at (nat_le (length d.literals) 256) ▸ standing_twice region (d.name ∷ d.literals)

abbrev pub enumeration : Sight → t.Enumeration → Broken
enumeration sight d = enumeration_in sight.region d

-- ---- declarations of a process

abbrev pub process_declaration : Sight → t.ProcessDeclaration → Broken
process_declaration sight (t.variables d) = variables sight d
process_declaration sight (t.process_constants d) =
    standing_twice sight.variables d.names ▸ typed_constants (within_variables sight d.names) d
process_declaration sight (t.process_enumeration d) = enumeration_in sight.variables d
process_declaration sight (t.process_subtype d) =
    standing_twice sight.variables (d.name ∷ []) ▸ typed_subtype (within_variables sight (d.name ∷ [])) d
