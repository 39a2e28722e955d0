-- Which rule the choices of one alternative of a case statement or a selected assignment break first (IEEE 1076-2008,
-- 10.9 and 11.6).
use Rattle.std.specs.Prelude.{List, [], ◌∷◌, Some, None}
use Rattle.vhdl_tree.specs.Tree as t
use Rattle.vhdl_tree.specs.Tree.{Expr}
use Rattle.vhdl_names_rules.specs.declared.kind.ObjectType.{ObjectType}
use Rattle.vhdl_names_rules.specs.declared.fault.NameProblem.{NameProblem}
use Rattle.vhdl_names_rules.specs.declared.fault.NameProblem.TheVariants.{Undeclared, WrongKind, TypeMismatch, LeftOut}
use Rattle.vhdl_names_rules.specs.Visibility as visibility
use Rattle.vhdl_names_rules.specs.Visibility.{Meaning, Sight}
use Rattle.vhdl_names_rules.specs.Choices.{named_choice, numbers_of, selector}
use Rattle.vhdl_names_rules.specs.Expressions as expressions
use Rattle.vhdl_names_rules.specs.problems.Broken.{Broken, nothing, refused, ◌▸◌, lacking, where_given, any_of}
use Rattle.vhdl_names_rules.specs.problems.Places.{start, choice_place}
use Rattle.vhdl_names_rules.specs.declared.kind.ObjectType.TheVariants.{Integers}
use Rattle.vhdl_names_rules.specs.problems.Expressions.{meaning, typed, typed_choice}
use Rattle.vhdl_names_rules.specs.problems.Subtypes.{literal}

-- ---- one choice

-- a name that isn't declared yet; one of another type; one of no value; what no literal declares is left out
abbrev pub choice_problem : Meaning → NameProblem
choice_problem visibility.unfinished = Undeclared
choice_problem (visibility.literal e count p) = TypeMismatch
choice_problem (visibility.constant k kind (Some values)) = TypeMismatch
choice_problem visibility.label = WrongKind
choice_problem (visibility.component k) = WrongKind
choice_problem _ = LeftOut

-- a name has nothing behind it
abbrev pub chosen : Sight → ObjectType → Expr → Broken
chosen sight type (t.named n t.plain None) =
    meaning sight n
    ▸ where_given (visibility.meaning sight n.text) (λ d. lacking (choice_problem d) n.at (named_choice type d))
chosen sight type (t.named n suffix a) = meaning sight n ▸ refused LeftOut n.at
chosen sight type e = literal type e

-- integers that are no locally static ones are left out
abbrev pub integer_choice : Sight → t.Choice → Broken
integer_choice sight c =
    typed_choice sight c
    ▸ where_given (expressions.typed_choice sight c) (λ x. lacking LeftOut (choice_place c) (numbers_of x))

abbrev pub choice : Sight → ObjectType → t.Choice → Broken
choice sight Integers (t.otherwise at) = refused WrongKind at
choice sight Integers c = integer_choice sight c
choice sight type (t.chosen e) = chosen sight type e
choice sight type (t.chosen_range d direction e) = refused LeftOut (start d)
choice sight type (t.otherwise at) = refused WrongKind at

-- others stands alone
abbrev pub choices : Sight → ObjectType → List t.Choice → Broken
choices sight type (t.otherwise at ∷ []) = nothing
choices sight type cs = any_of (choice sight type) cs

-- ---- what a case selects by

-- elements of the nine values or an enumeration, in the wider language also an integer or a truth
abbrev pub selected_by : Sight → Expr → Broken
selected_by sight e =
    typed sight e
    ▸ where_given (expressions.typed sight e) (λ x. lacking TypeMismatch (start e) (selector sight.language x))
