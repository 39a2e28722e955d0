-- What single steps answer of the value of a constant or a default.
use Rattle.std.specs.Prelude.{ℕ, Bool, true, false, Option, Some, None}
use Rattle.std.specs.Option.{option_or}
use Rattle.vhdl_lexer.specs.declared.language.Language.{Language}
use Rattle.vhdl_lexer.specs.declared.language.Language.TheVariants.{Wide}
use Rattle.vhdl_tree.specs.Tree.{Value}
use Rattle.vhdl_names_rules.specs.declared.fault.NameFault.{NameFault}
use Rattle.vhdl_names_rules.specs.declared.fault.NameFault.TheVariants.{At}
use Rattle.vhdl_names_rules.specs.declared.kind.ObjectType.{ObjectType}
use Rattle.vhdl_names_rules.specs.units.Expressions.{Range}
use Rattle.vhdl_names_rules.specs.units.Statements.{Given}
use Rattle.vhdl_names_rules.specs.units.Units as u
use Rattle.vhdl_names_rules.specs.units.Units.{Fixed}
use Rattle.vhdl_names_rules.specs.Names.{Suffix, plain, arguments}
use Rattle.vhdl_names_rules.specs.Operators.{Typed, integer}
use Rattle.vhdl_names_rules.specs.declared.kind.ObjectType.TheVariants.{Elements}
use Rattle.vhdl_names_rules.specs.Operators.{is_vector}
use Rattle.vhdl_names_rules.specs.Literals.{nine_of}
use Rattle.vhdl_names_rules.specs.declared.fault.NameProblem.TheVariants.{TypeMismatch, LeftOut}
use Rattle.vhdl_names_rules.specs.Rules.{◌>>=◌, ◌>>◌, rule, given_that, wider}
use Rattle.vhdl_names_rules.specs.Subtypes.{named_value, encoded_value, plain_value, is_known_value}
use Rattle.vhdl_names_rules.specs.Visibility.{Sight, Meaning}
use Rattle.vhdl_names_rules.specs.Expressions.{value_given}
use Rattle.vhdl_names_rules.specs.problems.Broken.{Broken, ◌▸◌, unless, where_given}
use Rattle.vhdl_names_rules.specs.problems.Expressions as broken

-- a number and a size
abbrev pub encoded_fixed : Option (Typed × Typed) → Option Fixed
encoded_fixed (Some (integer n, integer size)) = Some (u.Fixed.encoded n size)
encoded_fixed _ = None

-- a name, with what stands in parentheses behind it
abbrev pub suffixed_value : ObjectType → Meaning → Suffix → Option Fixed
suffixed_value type m plain = named_value type m
suffixed_value type m (arguments b xs) = encoded_value type m xs
suffixed_value type m _ = None

-- (others => c) by its character
abbrev pub filled_with : ObjectType → Option ℕ → Option Fixed
filled_with (Elements k) (Some c) = do
  rule TypeMismatch (is_vector k)
  v ← nine_of c
  Some (u.Fixed.filled v)
filled_with _ _ = None

-- what is given, if it names no signal and no variable
abbrev pub known_given : Given → Option Fixed
known_given g = given_that LeftOut (is_known_value g) (u.Fixed.given g)

abbrev pub known_value : Sight → ObjectType → Option Range → Value → Option Fixed
known_value sight type r v = value_given sight type r v >>= known_given

-- where that of (others => e) starts at this byte
abbrev pub known_value_breaks : Sight → ObjectType → Option Range → (at : ℕ) → Value → Broken
known_value_breaks sight type r at v =
    broken.value_given sight type r v
    ▸ where_given (value_given sight type r v) (λ g. unless LeftOut at (is_known_value g))

-- whether another value is looked for in the place of a plain one
abbrev pub looks_further : Language → NameFault → Bool
looks_further Wide (At p at) = true
looks_further language fault = false

-- a plain value, or in the wider language any that is known
abbrev pub wider_value : Sight → ObjectType → Option Range → Value → Option Fixed
wider_value sight type r v = option_or (plain_value sight type v) (wider sight.language (known_value sight type r v))
