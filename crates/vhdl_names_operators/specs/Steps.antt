-- What single steps of the code answer.
use Rattle.vhdl_lexer.specs.declared.language.Language.{Language}
use Rattle.vhdl_lexer.specs.declared.byte.ByteClass.{ByteClass}
use Rattle.vhdl_lexer.specs.declared.byte.ByteClass.TheVariants.{Hexadecimal, Octal, Binary}
use Rattle.vhdl_values.specs.declared.kinds.Cmp.{Cmp}
use Rattle.vhdl_values.specs.declared.kinds.Cmp.TheVariants.{Eq, Ne}
use Rattle.vhdl_values.specs.declared.kinds.Logic.{Logic}
use Rattle.vhdl_values.specs.declared.kinds.Logic.TheVariants.{Xor, Xnor}
use Rattle.vhdl_tree.specs.declared.operator.Operator.{Operator}
use Rattle.vhdl_names_rules.specs.units.Expressions as u
use Rattle.vhdl_names_rules.specs.Rules.{◌>>◌, rule, given_that, wider}
use Rattle.vhdl_names_numbers.specs.Integers.{integers_of}
use Rattle.vhdl_names_rules.specs.Literals.{number_of}
use Rattle.std.specs.Prelude.{ℕ, Bool, true, List, Option, Some, None, option_map}
use Rattle.std.specs.Option.{option_or}
use Rattle.vhdl_names_rules.specs.declared.kind.ElementKind.TheVariants.{Unsigned}
use Rattle.vhdl_names_rules.specs.declared.operator.Arithmetic.{Arithmetic}
use Rattle.vhdl_names_rules.specs.declared.operator.Numeric.{Numeric}
use Rattle.vhdl_names_rules.specs.Operators as table
use Rattle.vhdl_names_rules.specs.Operators.{Typed, integer, computed, elements, truth, both, is_number, are_numbers, arithmetic, ordering, truths_related}
use Rattle.vhdl_names_rules.specs.declared.fault.NameProblem.TheVariants.{TypeMismatch, NotVisible}
use Rattle.vhdl_names_rules.specs.units.Expressions.{Vector, Value, Test}
use Rattle.vhdl_names_operators.specs.declared.literals.Base.{Base}
use Rattle.vhdl_names_operators.specs.declared.literals.Base.TheVariants as b

-- equality of the values, or its negation
abbrev pub same_by : (at : ℕ) → Cmp → Value → Value → Test
same_by at Ne = u.unlike at
same_by at _ = u.alike at

-- the logical operator that = or /= of truths is
abbrev pub truth_operator : Cmp → Option Logic
truth_operator Eq = Some Xnor
truth_operator Ne = Some Xor
truth_operator _ = None

abbrev pub truths_equal : Cmp → (x y : Test) → Option Typed
truths_equal op x y = option_map (λ l. truth (both l x y)) (truth_operator op)

-- = and /=, of truths in the wider language alone
abbrev pub equality : Language → (at : ℕ) → Cmp → Typed → Typed → Option Typed
equality language at op (truth x) (truth y) = wider language (truths_equal op x y)
equality language at op x y = table.equality at op (same_by at op) x y

-- what an operator makes of operands
abbrev pub operated : Language → (numbers : Bool) → (at : ℕ) → Operator → Typed → Typed → Option Typed
operated language numbers at op x y =
    option_or (table.operated numbers at op x y) (wider language (truths_related op x y))

-- numbers that are found for an operator of numeric_std, where it is in sight
abbrev pub found : (numbers are_numbers : Bool) → Typed × Typed → Option (Typed × Typed)
found numbers are_numbers p = do
  rule NotVisible numbers
  given_that TypeMismatch are_numbers p

-- the numbers that operands are, as integers and unsigned ones; all but two integers need the operators of numeric_std
-- in sight
abbrev pub numbers_of : (numbers : Bool) → Typed → Typed → Option (Typed × Typed)
numbers_of numbers (elements j x) (elements k y) =
    found numbers (are_numbers j k) (elements Unsigned x, elements Unsigned y)
numbers_of numbers (elements j x) (integer t) = found numbers (is_number j) (elements Unsigned x, integer t)
numbers_of numbers (integer s) (elements k y) = found numbers (is_number k) (integer s, elements Unsigned y)
numbers_of numbers (elements j x) (computed t) = found numbers (is_number j) (elements Unsigned x, computed t)
numbers_of numbers (computed s) (elements k y) = found numbers (is_number k) (computed s, elements Unsigned y)
numbers_of numbers x y = integers_of x y

-- what is calculated of numbers, and how they are compared
abbrev pub calculation : (at : ℕ) → Arithmetic → Numeric → Typed × Typed → Option Typed
calculation at op by p = arithmetic true at op by p.0 p.1

abbrev pub comparing : (at : ℕ) → Cmp → Typed × Typed → Option Typed
comparing at op p = ordering true at op p.0 p.1

-- the digits of a base
abbrev pub class_of : Base → ByteClass
class_of b.Hexadecimal = Hexadecimal
class_of b.Octal = Octal
class_of b.Binary = Binary

-- ---- operands

-- a character literal as it counts in parentheses
abbrev pub closed : Vector → Vector
closed (u.character c) = u.enclosed_character c
closed x = x

-- an integer literal
abbrev pub integer_literal : List ℕ → Option Typed
integer_literal text = option_map (λ n. integer (u.number n)) (number_of text)
