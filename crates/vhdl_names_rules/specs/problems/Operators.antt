-- Which problem a literal, an operator, an edge or a name bears where the rules don't give what it is (IEEE 1076-2008,
-- clauses 8, 9 and 15; numeric_std, 16.8).
use Rattle.std.specs.Prelude.{ℕ, Bool, true, false, ◌&&◌, ◌||◌, not, if◌then◌else◌, List, [], ◌∷◌}
use Rattle.vhdl_tree.specs.declared.operator.Operator.{Operator}
use Rattle.vhdl_tree.specs.declared.operator.Operator.TheVariants as o
use Rattle.vhdl_names_rules.specs.declared.kind.ElementKind.TheVariants.{Element, Unsigned}
use Rattle.vhdl_names_rules.specs.declared.kind.Function.TheVariants.{EdgeCall, ToInteger}
use Rattle.vhdl_names_rules.specs.declared.fault.NameProblem.{NameProblem}
use Rattle.vhdl_names_rules.specs.declared.fault.NameProblem.TheVariants.{Undeclared, WrongKind, TypeMismatch, NotVisible, LeftOut}
use Rattle.vhdl_names_rules.specs.Visibility as visibility
use Rattle.vhdl_names_rules.specs.Visibility.{Meaning}
use Rattle.vhdl_names_rules.specs.Literals.{quoted}
use Rattle.vhdl_names_rules.specs.units.Expressions as u
use Rattle.vhdl_names_rules.specs.Operators.{Typed, integer, computed, elements, enumerated, is_number}
use Rattle.vhdl_names_rules.specs.Names.{Suffix, arguments}

-- ---- strings

-- the empty string is left out; in any other there is a character that is none of the nine values
abbrev pub characters_problem : List ℕ → NameProblem
characters_problem [] = LeftOut
characters_problem (c ∷ cs) = TypeMismatch

abbrev pub string_problem : List ℕ → NameProblem
string_problem text = characters_problem (quoted text)

-- ---- binary operators

-- what an operator of numeric_std takes: numbers, and an integer beside one
abbrev pub is_numeric : Typed → Bool
is_numeric (integer s) = true
is_numeric (computed x) = true
is_numeric (elements k x) = is_number k
is_numeric _ = false

-- what is ordered by the standard and not here: elements, std_logic_vectors and enumerations
abbrev pub is_unordered : Typed → Bool
is_unordered (elements k x) = not (is_number k)
is_unordered (enumerated e n x) = true
is_unordered _ = false

-- + - *: numbers lack the operators of numeric_std in sight
abbrev pub arithmetic_problem : Typed → Typed → NameProblem
arithmetic_problem x y = if is_numeric x && is_numeric y then NotVisible else TypeMismatch

-- < <= > >=: likewise
abbrev pub order_problem : Typed → Typed → NameProblem
order_problem x y =
    if is_numeric x && is_numeric y then NotVisible
    else if is_unordered x || is_unordered y then LeftOut else TypeMismatch

-- why an operator isn't offered for these operands
abbrev pub operator_problem : Operator → Typed → Typed → NameProblem
operator_problem o.Add = arithmetic_problem
operator_problem o.Subtract = arithmetic_problem
operator_problem o.Multiply = arithmetic_problem
operator_problem o.Less = order_problem
operator_problem o.LessEqual = order_problem
operator_problem o.Greater = order_problem
operator_problem o.GreaterEqual = order_problem
operator_problem _ = λ x y. TypeMismatch

-- ---- edges

-- a static integer, and a variable or a constant by a static name, is of another kind than a signal; anything else is
-- no signal of one element by a static name
abbrev pub edge_problem : Typed → NameProblem
edge_problem (integer s) = WrongKind
edge_problem (elements Element (u.of_variable at k p)) = WrongKind
edge_problem (elements Element (u.of_constant at k p)) = WrongKind
edge_problem _ = TypeMismatch

-- ---- names

-- the integer of a number that names no signal and no variable is left out
abbrev pub number_problem : List Typed → NameProblem
number_problem (elements Unsigned x ∷ []) = LeftOut
number_problem _ = TypeMismatch

-- a name within its own declaration isn't declared yet; a type of anything but vectors, a component or a label has no
-- value; an edge call and to_integer are told by what they are of; all else doesn't take what follows its name
abbrev pub name_problem : Meaning → Suffix → NameProblem
name_problem visibility.unfinished s = Undeclared
name_problem (visibility.integer_type w) s = WrongKind
name_problem visibility.boolean_type s = WrongKind
name_problem (visibility.element_type r) s = WrongKind
name_problem (visibility.enumeration_type e count) s = WrongKind
name_problem (visibility.component k) s = WrongKind
name_problem visibility.label s = WrongKind
name_problem (visibility.function (EdgeCall e)) (arguments true (x ∷ [])) = edge_problem x
name_problem (visibility.function ToInteger) (arguments b xs) = number_problem xs
name_problem _ _ = TypeMismatch
