-- What the packages declare (IEEE 1076-2008, 16.3, 16.7, 16.8), and what context clauses bring in sight (12.4, 13.4).
use Rattle.std.specs.Prelude.{Bool, true, false, ◌&&◌, ◌||◌, if◌then◌else◌, List, [], ◌∷◌, ◌++◌, Option, Some, bytes_eq, codes}
use Rattle.std.specs.List.{list_any, list_all}
use Rattle.vhdl_lexer.specs.declared.language.Language.{Language}
use Rattle.vhdl_lexer.specs.declared.language.Language.TheVariants.{Profile, Wide}
use Rattle.vhdl_values.specs.declared.kinds.Counted.TheVariants.{Resize, Shift}
use Rattle.vhdl_values.specs.declared.kinds.Shift.TheVariants.{Left, Right}
use Rattle.vhdl_values.specs.declared.kinds.Edge.TheVariants.{Rising, Falling}
use Rattle.vhdl_tree.specs.Tree.{Ident, Selected, ContextItem, library, uses}
use Rattle.vhdl_names_rules.specs.declared.kind.ElementKind.TheVariants.{LogicVector, Unsigned}
use Rattle.vhdl_names_rules.specs.declared.kind.Function.TheVariants.{EdgeCall, ByCount, ToUnsigned, ToInteger}
use Rattle.vhdl_names_rules.specs.declared.operator.IntegerType.TheVariants.{Integer, Natural, Positive}
use Rattle.vhdl_names_rules.specs.declared.fault.NameProblem.TheVariants.{Undeclared, LeftOut}
use Rattle.vhdl_names_rules.specs.Rules.{◌>>◌, rule}
use Rattle.vhdl_names_rules.specs.Visibility.{declare, Declared, integer_type, boolean_type, boolean_literal, element_type, vector_type, function, Sight}

-- package standard of library std is always in sight (16.3), its booleans in the wider language alone
abbrev pub integers : List Declared
integers =
    declare (codes "integer") (integer_type Integer) ∷ declare (codes "natural") (integer_type Natural)
    ∷ declare (codes "positive") (integer_type Positive) ∷ []

abbrev pub booleans : List Declared
booleans =
    declare (codes "boolean") boolean_type ∷ declare (codes "false") (boolean_literal false)
    ∷ declare (codes "true") (boolean_literal true) ∷ []

abbrev pub standard : Language → List Declared
standard Profile = integers
standard Wide = integers ++ booleans

-- package std_logic_1164 of library ieee (16.7)
abbrev pub std_logic_1164 : List Declared
std_logic_1164 =
    declare (codes "std_logic") (element_type true) ∷ declare (codes "std_ulogic") (element_type false)
    ∷ declare (codes "std_logic_vector") (vector_type LogicVector true)
    ∷ declare (codes "std_ulogic_vector") (vector_type LogicVector false)
    ∷ declare (codes "rising_edge") (function (EdgeCall Rising))
    ∷ declare (codes "falling_edge") (function (EdgeCall Falling)) ∷ []

-- package numeric_std of library ieee (16.8); its operators stand in the rules of expressions
abbrev pub numbers : List Declared
numbers =
    declare (codes "unsigned") (vector_type Unsigned true) ∷ declare (codes "resize") (function (ByCount Resize))
    ∷ declare (codes "shift_left") (function (ByCount (Shift Left)))
    ∷ declare (codes "shift_right") (function (ByCount (Shift Right)))
    ∷ declare (codes "to_unsigned") (function ToUnsigned) ∷ []

-- the wider language has its integers that a run computes
abbrev pub numeric_std : Language → List Declared
numeric_std Profile = numbers
numeric_std Wide = numbers ++ declare (codes "to_integer") (function ToInteger) ∷ []

-- ---- context clauses

-- the language that is read, whether library ieee is named, and which of its packages are used
pub record Context : Type 0 where
  pub language : Language
  pub has_ieee : Bool
  pub has_logic : Bool
  pub has_numbers : Bool

abbrev pub no_context : Language → Context
no_context language = record { language = language; has_ieee = false; has_logic = false; has_numbers = false }

abbrev pub is_ieee : Ident → Bool
is_ieee i = bytes_eq i.text (codes "ieee")

-- the libraries that a library clause may name; work and std are in sight without one (13.2)
abbrev pub is_library : Ident → Bool
is_library i = is_ieee i || bytes_eq i.text (codes "work") || bytes_eq i.text (codes "std")

abbrev pub is_logic : Selected → Bool
is_logic s = is_ieee s.library && bytes_eq s.name.text (codes "std_logic_1164")

abbrev pub is_numbers : Selected → Bool
is_numbers s = is_ieee s.library && bytes_eq s.name.text (codes "numeric_std")

-- What a list of context items brings, after a context that goes before: the libraries that clauses name are there, and
-- a use clause names one of the two packages, after a library clause for ieee.
abbrev pub context : Context → List ContextItem → Option Context
context before [] = Some before
context before (library ns ∷ rest) = do
  rule LeftOut (list_all is_library ns)
  context (record before { has_ieee = before.has_ieee || list_any is_ieee ns }) rest
context before (uses ss ∷ rest) = do
  rule Undeclared before.has_ieee
  rule LeftOut (list_all (λ s. is_logic s || is_numbers s) ss)
  context (record before {
    has_logic = before.has_logic || list_any is_logic ss;
    has_numbers = before.has_numbers || list_any is_numbers ss;
  }) rest

-- the packages' declarations that are in sight
abbrev pub visible : Context → List Declared
visible c =
    (if c.has_numbers then numeric_std c.language else [])
    ++ ((if c.has_logic then std_logic_1164 else []) ++ standard c.language)

-- where nothing is declared yet
abbrev pub sight_of : Context → List Declared → Sight
sight_of c region = record {
  loops = [];
  variables = [];
  generates = [];
  region = region;
  enclosing = [];
  packages = visible c;
  numbers = c.has_numbers;
  language = c.language;
}
