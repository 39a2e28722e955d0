-- Declarations of objects and types (IEEE 1076-2008, clauses 5 and 6): generics, ports, constants, signals, variables,
-- subtypes and enumerations. Each gives what it declares, and what is analysed of it, with the declarations before it
-- in sight.
use Rattle.std.specs.Prelude.{ℕ, suc, Bool, true, false, not, ◌&&◌, ◌||◌, if◌then◌else◌, nat_le, List, [], ◌∷◌, map, length, Option, Some, None, option_map, is_some, unwrap_or}
use Rattle.vhdl_tree.specs.declared.declaration.Mode.{Mode}
use Rattle.vhdl_tree.specs.declared.declaration.Mode.TheVariants.{In}
use Rattle.vhdl_tree.specs.declared.operator.Direction.{Direction}
use Rattle.vhdl_tree.specs.Tree as t
use Rattle.vhdl_tree.specs.Tree.{Ident, Expr}
use Rattle.vhdl_names_rules.specs.declared.kind.ElementKind.{ElementKind}
use Rattle.vhdl_names_rules.specs.declared.kind.ObjectType.{ObjectType}
use Rattle.vhdl_names_rules.specs.declared.kind.ObjectType.TheVariants.{Elements, Enumeration}
use Rattle.vhdl_names_rules.specs.units.Expressions.{Range, StaticTest}
use Rattle.vhdl_names_rules.specs.units.Units as u
use Rattle.vhdl_names_rules.specs.units.Units.{Fixed, IntegerSubtype}
use Rattle.vhdl_names_rules.specs.declared.fault.NameProblem.TheVariants.{LeftOut}
use Rattle.vhdl_names_rules.specs.Rules.{◌>>=◌, ◌>>◌, rule, if_any, is_wide}
use Rattle.vhdl_names_rules.specs.Visibility as visibility
use Rattle.vhdl_names_rules.specs.Visibility.{declare, Name, Meaning, Declared, Sight, declaration, meaning, names_of, numbered, ranged, global_if, all_declared, count_of, ranges_count, declared_here, with_declared, with_variables, Declares, followed_by}
use Rattle.vhdl_names_rules.specs.Local.{is_local, subtype_is_local}
use Rattle.vhdl_names_rules.specs.Expressions.{typed, static, as_static_test}
use Rattle.vhdl_names_rules.specs.Subtypes as subtypes
use Rattle.vhdl_names_rules.specs.Subtypes.{Subtype, subtype, object_subtype, form_range, form_direction, integer_subtype, numbers_direction, TypeClass, class_of, fixed_value, declaring_literal, object}
use Rattle.vhdl_names_rules.specs.problems.Places.{start}

-- ---- one declaration after another

-- each declaration has those before it in sight
abbrev pub in_order : {A B : Type 0} → (Sight → List Declared → Sight)
    → (Sight → A → Option (Declares B)) → Sight → List A → Option (Declares B)
in_order with_more declares sight [] = Some (record { declared = []; analysed = [] })
in_order with_more declares sight (d ∷ ds) = do
  x ← declares sight d
  xs ← in_order with_more declares (with_more sight x.declared) ds
  Some (followed_by x xs)

-- Within the declaration of a signal, constant, variable or subtype its name hides outer ones, and means nothing yet
-- (12.3). In an interface list a name is there, and hides, from the end of its declaration on.
abbrev pub unfinished : List Ident → List Declared
unfinished ns = all_declared visibility.unfinished (names_of ns)

abbrev pub within : Sight → List Ident → Sight
within sight ns = with_declared sight (unfinished ns)

abbrev pub within_variables : Sight → List Ident → Sight
within_variables sight ns = with_variables sight (unfinished ns)

-- what names of one declaration are declared to be, numbered on from those of their class; and their ranges, if they
-- have one of this direction, from those of all classes
abbrev pub declared_as : (Meaning → Bool) → (ℕ → Meaning) → List Declared → List Ident → List Declared
declared_as class meaning before ns = numbered meaning (count_of class before) (names_of ns)

abbrev pub declared_with : (Meaning → Bool) → (ℕ → Meaning) → Option Direction → List Declared → List Ident
    → List Declared
declared_with class meaning direction before ns =
    ranged direction (ranges_count before) (declared_as class meaning before ns)

-- one thing for each name
abbrev pub for_each : {A : Type 0} → (Ident → A) → List Ident → List A
for_each f ns = map f ns

-- whether the range of a subtype indication is globally static alone
abbrev pub is_global : Sight → t.Subtype → Bool
is_global sight s = not (subtype_is_local sight s)

-- ---- generics (6.5.6.2)

-- what a generic is, with its name's meaning by number among those of its class
pub record GenericForm : Type 0 where
  pub class : Meaning → Bool
  pub meaning : ℕ → Meaning
  pub direction : Option Direction
  pub type : u.GenericType
  -- of a default
  pub value : Expr → Option Fixed

abbrev pub integer_generic : Sight → t.Subtype → Option GenericForm
integer_generic sight s = do
  type ← integer_subtype sight s
  Some (record {
    class = visibility.is_generic;
    meaning = visibility.generic;
    direction = None;
    type = u.integers type;
    value = λ e. option_map u.Fixed.integer (static sight e);
  })

abbrev pub static_test : Sight → Expr → Option StaticTest
static_test sight e = typed sight e >>= as_static_test

abbrev pub boolean_generic : Sight → t.Subtype → Option GenericForm
boolean_generic sight s = do
  rule LeftOut (is_wide sight.language && not (is_some s.constraint))
  Some (record {
    class = visibility.is_generic;
    meaning = visibility.boolean_generic;
    direction = None;
    type = u.truths;
    value = λ e. option_map u.Fixed.truth (static_test sight e);
  })

-- constants and generics are of the nine values
abbrev pub as_kind : ObjectType → Option ElementKind
as_kind (Elements k) = Some k
as_kind _ = None

-- a port is of no enumeration
abbrev pub as_port_type : ObjectType → Option ObjectType
as_port_type (Enumeration e count) = None
as_port_type type = Some type

abbrev pub other_generic : Sight → t.Subtype → Option GenericForm
other_generic sight s = do
  rule LeftOut (is_wide sight.language)
  x ← subtype sight s
  kind ← as_kind x.type
  Some (record {
    class = visibility.is_constant;
    meaning = λ k. visibility.constant k kind None;
    direction = form_direction x.form;
    type = u.values x.form;
    value = λ e. fixed_value sight x.type (form_range x.form) (t.single e);
  })

abbrev pub generic_form : Sight → t.Subtype → TypeClass → Option GenericForm
generic_form sight s subtypes.integers = integer_generic sight s
generic_form sight s subtypes.booleans = boolean_generic sight s
generic_form sight s subtypes.others = other_generic sight s

-- an integer; in the wider language also a boolean, or of the nine values
unfoldable pub generic : Sight → t.Generic → Option (Declares u.Generic)
generic sight g = do
  mark ← meaning sight g.subtype.mark.text
  x ← generic_form sight g.subtype (class_of mark)
  default ← if_any x.value g.default
  Some (record {
    declared =
        global_if (is_global sight g.subtype) (declared_with x.class x.meaning x.direction sight.region g.names);
    analysed = for_each (λ n. record { at = n.at; name = n.text; type = x.type; default = default }) g.names;
  })

-- ---- ports (6.5.2, 6.5.6.3)

-- a port with no mode is an input
abbrev pub mode_of : Option Mode → Mode
mode_of mode = unwrap_or mode In

-- The names of a list's ports mean nothing in that list (6.5.6.1); in the narrow language they mean no value.
abbrev pub without_port : Declared → Declared
without_port d = if visibility.is_port d.meaning then declare d.name visibility.unfinished else d

abbrev pub without_ports : Sight → Sight
without_ports sight = if is_wide sight.language then record sight { region = map without_port sight.region } else sight

unfoldable pub port : Sight → t.Port → Option (Declares u.Port)
port sight p = do
  s ← object_subtype (without_ports sight) p.subtype
  type ← as_port_type s.type
  default ← if_any (fixed_value (without_ports sight) s.type (form_range s.form)) p.default
  Some (record {
    declared = global_if (is_global (without_ports sight) p.subtype)
        (declared_with visibility.is_port (λ k. visibility.port k (mode_of p.mode) type) (form_direction s.form)
        sight.region p.names);
    analysed = for_each (λ n. record { mode = mode_of p.mode; object = object s default n }) p.names;
  })

-- ---- signals, constants and variables (6.4.2)

unfoldable pub signals : Sight → t.Signals → Option (Declares u.Declaration)
signals sight d = do
  s ← object_subtype (within sight d.names) d.subtype
  default ← if_any (fixed_value (within sight d.names) s.type (form_range s.form)) d.default
  Some (record {
    declared = global_if (is_global (within sight d.names) d.subtype)
        (declared_with visibility.is_signal (λ k. visibility.signal k s.type) (form_direction s.form)
        sight.region d.names);
    analysed = for_each (λ n. u.signal (object s default n)) d.names;
  })

unfoldable pub variables : Sight → t.Variables → Option (Declares u.Declaration)
variables sight d = do
  s ← object_subtype (within_variables sight d.names) d.subtype
  default ← if_any (fixed_value (within_variables sight d.names) s.type (form_range s.form)) d.default
  Some (record {
    declared = global_if (is_global (within_variables sight d.names) d.subtype)
        (declared_with visibility.is_variable (λ k. visibility.variable k s.type) (form_direction s.form)
        (declared_here sight) d.names);
    analysed = for_each (λ n. u.variable (object s default n)) d.names;
  })

-- the value of an integer or boolean constant is one expression
abbrev pub single_expression : t.Value → Option Expr
single_expression (t.single e) = Some e
single_expression (t.others at e) = None

-- a constant is globally static alone by its type or by its value
abbrev pub constant_is_global : Sight → t.Constants → Expr → Bool
constant_is_global inner d e = is_global inner d.subtype || not (is_local inner e)

-- What is wrong with the value of a constant of a subtype with a range is told where the value starts, and else at the
-- name, as that of a generic always is.
abbrev pub told_at : IntegerSubtype → Ident → Expr → ℕ
told_at type n e = by type.base type.range
  where
    by : u.Integers → Option (ℕ × Range) → ℕ
    by (u.of_type w) None = n.at
    by _ r = start e

-- In a region or a process: `inner` has what is in sight within the declaration, and `before` what is declared before
-- it.
module _ (inner : Sight) (before : List Declared) where
  -- the value of an integer constant is a static integer
  abbrev pub integer_constants : t.Constants → Option (Declares u.Declaration)
  integer_constants d = do
    type ← integer_subtype inner d.subtype
    e ← single_expression d.value
    value ← static inner e
    Some (record {
      declared = global_if (constant_is_global inner d e)
          (declared_as visibility.is_integer_constant visibility.integer_constant before d.names);
      analysed = for_each (λ n. u.Declaration.integer (told_at type n e) type value) d.names;
    })

  abbrev pub boolean_constants : t.Constants → Option (Declares u.Declaration)
  boolean_constants d = do
    rule LeftOut (not (is_some d.subtype.constraint))
    e ← single_expression d.value
    value ← static_test inner e
    Some (record {
      declared = global_if (constant_is_global inner d e)
          (declared_as visibility.is_integer_constant visibility.boolean_constant before d.names);
      analysed = for_each (λ n. u.Declaration.truth n.at value) d.names;
    })

  -- any other constant is of the nine values
  abbrev pub other_constants : t.Constants → Option (Declares u.Declaration)
  other_constants d = do
    s ← subtype inner d.subtype
    kind ← as_kind s.type
    value ← fixed_value inner s.type (form_range s.form) d.value
    Some (record {
      declared = global_if (is_global inner d.subtype)
          (declared_with visibility.is_constant (λ k. visibility.constant k kind (declaring_literal value))
          (form_direction s.form) before d.names);
      analysed = for_each (λ n. u.Declaration.constant n.at s.form value) d.names;
    })

  abbrev pub constants_by : t.Constants → TypeClass → Option (Declares u.Declaration)
  constants_by d subtypes.integers = integer_constants d
  constants_by d subtypes.booleans = boolean_constants d
  constants_by d subtypes.others = other_constants d

  unfoldable pub constants_in : t.Constants → Option (Declares u.Declaration)
  constants_in d = do
    mark ← meaning inner d.subtype.mark.text
    constants_by d (class_of mark)

abbrev pub constants : Sight → t.Constants → Option (Declares u.Declaration)
constants sight d = constants_in (within sight d.names) sight.region d

-- ---- subtypes (6.3), which the wider language alone has

abbrev pub if_ranged : {A : Type 0} → (A → u.Declaration) → Option A → List u.Declaration
if_ranged f None = []
if_ranged f (Some r) = f r ∷ []

-- a type of vectors, and no range
abbrev pub is_open : Declared → t.Subtype → Bool
is_open mark s = is_vector_type mark.meaning && not (is_some mark.range || is_some s.constraint)
  where
    is_vector_type : Meaning → Bool
    is_vector_type (visibility.vector_type k r) = true
    is_vector_type _ = false

module _ (inner : Sight) (before : List Declared) where
  -- what a subtype is declared to be: as its type, with a range if it has one
  abbrev pub declared_subtype : t.SubtypeDeclaration → Meaning → Option Direction → List Declared
  declared_subtype d m direction =
      global_if (is_global inner d.subtype) (ranged direction (ranges_count before) (declare d.name.text m ∷ []))

  abbrev pub integers_declared : t.SubtypeDeclaration → Declared → Option (Declares u.Declaration)
  integers_declared d mark = do
    s ← integer_subtype inner d.subtype
    Some (record {
      declared = declared_subtype d mark.meaning (numbers_direction mark s);
      analysed = if_ranged (λ x. u.integer_subtype d.name.at s) (numbers_direction mark s);
    })

  abbrev pub others_declared : t.SubtypeDeclaration → Declared → Option (Declares u.Declaration)
  others_declared d mark = do
    s ← subtype inner d.subtype
    Some (record {
      declared = declared_subtype d mark.meaning (form_direction s.form);
      analysed = if_ranged (u.vector_subtype d.name.at) (form_range s.form);
    })

  abbrev pub as_it_was : t.SubtypeDeclaration → Declared → Option (Declares u.Declaration)
  as_it_was d mark = Some (record { declared = declared_subtype d mark.meaning None; analysed = [] })

  abbrev pub subtype_by : t.SubtypeDeclaration → Declared → TypeClass → Option (Declares u.Declaration)
  subtype_by d mark subtypes.integers = integers_declared d mark
  subtype_by d mark subtypes.booleans = rule LeftOut (not (is_some d.subtype.constraint)) >> as_it_was d mark
  subtype_by d mark subtypes.others =
      if is_open mark d.subtype then as_it_was d mark else others_declared d mark

  unfoldable pub subtype_in : t.SubtypeDeclaration → Option (Declares u.Declaration)
  subtype_in d = do
    mark ← declaration inner d.subtype.mark.text
    subtype_by d mark (class_of mark.meaning)

abbrev pub subtype_declaration : Sight → t.SubtypeDeclaration → Option (Declares u.Declaration)
subtype_declaration sight d = subtype_in (within sight (d.name ∷ [])) sight.region d

-- ---- enumerations (5.2.2)

-- the literals of an enumeration, by position from here on
abbrev pub literals : (number count position : ℕ) → List Name → List Declared
literals e count p [] = []
literals e count p (n ∷ ns) = declare n (visibility.literal e count p) ∷ literals e count (suc p) ns

-- an enumeration has at most 256 literals
unfoldable pub enumeration_in : (before : List Declared) → t.Enumeration → Option (Declares u.Declaration)
enumeration_in before d = do
  rule LeftOut (nat_le (length d.literals) 256)
  Some (record {
    declared = declare d.name.text (visibility.enumeration_type number (length d.literals))
        ∷ literals number (length d.literals) 0 (names_of d.literals);
    analysed = [];
  })
  where
    number : ℕ
    number = count_of visibility.is_enumeration_type before

abbrev pub enumeration : Sight → t.Enumeration → Option (Declares u.Declaration)
enumeration sight d = enumeration_in sight.region d

-- ---- declarations of a process (11.3): they have those before them in sight, and hide outer ones

abbrev pub process_declaration : Sight → t.ProcessDeclaration → Option (Declares u.Declaration)
process_declaration sight (t.variables d) = variables sight d
process_declaration sight (t.process_constants d) =
    constants_in (within_variables sight d.names) (declared_here sight) d
process_declaration sight (t.process_enumeration d) = enumeration_in (declared_here sight) d
process_declaration sight (t.process_subtype d) =
    subtype_in (within_variables sight (d.name ∷ [])) (declared_here sight) d
