-- Declarations, the values of constants, and choices.
use Rattle.std.specs.Prelude.{◌≡◌, ℕ, true, false, List, [], ◌∷◌, Option, Some, None, codes}
use Rattle.vhdl_values.specs.declared.scalar.Nine.TheVariants.{Zero, One}
use Rattle.vhdl_tree.specs.declared.declaration.Mode.TheVariants.{In}
use Rattle.vhdl_tree.specs.Tree as t
use Rattle.vhdl_tree.specs.Tree.{Expr}
use Rattle.vhdl_names_rules.specs.declared.kind.ElementKind.TheVariants.{Element, LogicVector, Unsigned}
use Rattle.vhdl_names_rules.specs.declared.kind.ObjectType.TheVariants.{Elements, Enumeration}
use Rattle.vhdl_names_rules.specs.declared.operator.IntegerType.TheVariants.{Natural}
use Rattle.vhdl_names_rules.specs.units.Expressions as u
use Rattle.vhdl_names_rules.specs.units.Statements as s
use Rattle.vhdl_names_rules.specs.units.Units as u'
use Rattle.vhdl_names_rules.specs.Visibility as visibility
use Rattle.vhdl_names_rules.specs.Visibility.{declare, Sight, Declares}
use Rattle.vhdl_names_rules.specs.Packages.{sight_of}
use Rattle.vhdl_names_rules.specs.Subtypes.{fixed_value}
use Rattle.vhdl_names_rules.specs.Declarations.{generic, port, constants, signals}
use Rattle.vhdl_names_rules.specs.Choices.{covered}
use Rattle.vhdl_names_rules.specs.Interfaces.{interface}
use Rattle.rtl_definition_examples.specs.rules.Words.{words, name, with_two, enclosed, number, character, string, plain_type, of_four, sight, both_packages, logic_alone}

-- ---- declarations

abbrev pub empty_sight : Sight
empty_sight = sight_of both_packages []

-- the integers of natural
abbrev pub naturals : u'.IntegerSubtype
naturals = record { base = u'.of_type Natural; range = None }

-- ports of these names and this type, with no mode and no default
abbrev pub ports_of : List (List ℕ) → t.Subtype → t.Port
ports_of ns type = record { signal_word = false; names = words ns; mode = None; subtype = type; default = None }

abbrev pub object_of : (at : ℕ) → List ℕ → u'.Object
object_of at n = record { at = at; name = n; form = u'.element; is_resolved = true; default = None }

abbrev pub signals_of : List (List ℕ) → t.Subtype → t.Signals
signals_of ns type = record { names = words ns; subtype = type; default = None }

abbrev pub generics_of : List ℕ → t.Generic
generics_of mark = record {
  constant_word = false;
  names = words (codes "w" ∷ codes "x" ∷ []);
  in_word = false;
  subtype = plain_type mark;
  default = None;
}

abbrev pub constants_of : t.Subtype → t.Value → t.Constants
constants_of type value = record { names = words (codes "w" ∷ codes "x" ∷ []); subtype = type; value = value }

pub record DeclarationsDeclare : Type 0 where
  -- a, b : std_logic, which are inputs
  pub ports : port empty_sight (ports_of (codes "a" ∷ codes "b" ∷ []) (plain_type (codes "std_logic"))) ≡ Some (record {
    declared =
        declare (codes "a") (visibility.port 0 In (Elements Element))
        ∷ declare (codes "b") (visibility.port 1 In (Elements Element)) ∷ [];
    analysed =
        record { mode = In; object = object_of 10 (codes "a") }
        ∷ record { mode = In; object = object_of 11 (codes "b") } ∷ [];
  })
  -- w, x : natural, which are generics, and constants with the value 1
  pub generics : generic empty_sight (generics_of (codes "natural")) ≡ Some (record {
    declared = declare (codes "w") (visibility.generic 0) ∷ declare (codes "x") (visibility.generic 1) ∷ [];
    analysed =
        record { at = 10; name = codes "w"; type = u'.integers naturals; default = None }
        ∷ record { at = 11; name = codes "x"; type = u'.integers naturals; default = None } ∷ [];
  })
  pub integers : constants empty_sight (constants_of (plain_type (codes "natural")) (t.single (number (codes "1"))))
      ≡ Some (record {
        declared =
            declare (codes "w") (visibility.integer_constant 0)
            ∷ declare (codes "x") (visibility.integer_constant 1) ∷ [];
        analysed =
            u'.Declaration.integer 10 naturals (u.number 1)
            ∷ u'.Declaration.integer 11 naturals (u.number 1) ∷ [];
      })
  -- w, x : std_logic with the value '1'
  pub elements : constants empty_sight (constants_of (plain_type (codes "std_logic")) (t.single (character 49)))
      ≡ Some (record {
        declared =
            declare (codes "w") (visibility.constant 0 Element (Some (One ∷ [])))
            ∷ declare (codes "x") (visibility.constant 1 Element (Some (One ∷ []))) ∷ [];
        analysed =
            u'.Declaration.constant 10 u'.element (u'.Fixed.literal (One ∷ []))
            ∷ u'.Declaration.constant 11 u'.element (u'.Fixed.literal (One ∷ [])) ∷ [];
      })
  -- a, a : std_logic
  pub twice : interface empty_sight None
      (Some (ports_of (codes "a" ∷ codes "a" ∷ []) (plain_type (codes "std_logic")) ∷ [])) ≡ None
  -- a port of an enumeration, of type integer, and of a vector type without a range
  pub enumerated_port : port sight (ports_of (codes "p" ∷ []) (plain_type (codes "colour"))) ≡ None
  pub integer_port : port empty_sight (ports_of (codes "p" ∷ []) (plain_type (codes "integer"))) ≡ None
  pub unconstrained : port empty_sight (ports_of (codes "p" ∷ []) (plain_type (codes "std_logic_vector"))) ≡ None
  -- unsigned without numeric_std in sight
  pub not_visible : signals (sight_of logic_alone []) (signals_of (codes "s" ∷ []) (of_four (codes "unsigned"))) ≡ None
  -- signal std_logic : std_logic, whose type is hidden by its name
  pub self_hidden : signals empty_sight (signals_of (codes "std_logic" ∷ []) (plain_type (codes "std_logic"))) ≡ None
  -- a generic of type std_logic
  pub logic_generic : generic empty_sight (generics_of (codes "std_logic")) ≡ None

-- ---- values of constants and defaults

pub record ValuesAreFixed : Type 0 where
  pub a_character : fixed_value sight (Elements Element) None (t.single (character 49))
      ≡ Some (u'.Fixed.literal (One ∷ []))
  pub a_string : fixed_value sight (Elements Unsigned) None (t.single (string (codes "01")))
      ≡ Some (u'.Fixed.literal (Zero ∷ One ∷ []))
  pub a_filling : fixed_value sight (Elements LogicVector) None (t.Value.others 0 (character 48))
      ≡ Some (u'.Fixed.filled Zero)
  pub a_literal : fixed_value sight (Enumeration 0 2) None (t.single (name (codes "green")))
      ≡ Some (u'.Fixed.position 1)
  pub a_constant : fixed_value sight (Elements Element) None (t.single (name (codes "one")))
      ≡ Some (u'.Fixed.constant 0)
  pub an_encoding : fixed_value sight (Elements Unsigned) None
      (t.single (with_two (codes "to_unsigned") (name (codes "k")) (number (codes "4"))))
      ≡ Some (u'.Fixed.encoded (u.Static.constant 0) (u.number 4))
  -- a signal's name, a literal in parentheses, and not '1'
  pub a_signal : fixed_value sight (Elements Element) None (t.single (name (codes "a"))) ≡ None
  pub enclosed_literal : fixed_value sight (Elements Element) None (t.single (enclosed (character 49))) ≡ None
  pub computed : fixed_value sight (Elements Element) None (t.single (t.negation 0 (character 49))) ≡ None

-- ---- choices

-- when c
abbrev pub on : Expr → List t.Choice
on e = t.chosen e ∷ []

abbrev pub on_others : List t.Choice
on_others = t.Choice.otherwise 0 ∷ []

abbrev pub of_element : List (List t.Choice) → Option (List (List s.Choice))
of_element = covered sight (Elements Element)

abbrev pub of_colour : List (List t.Choice) → Option (List (List s.Choice))
of_colour = covered sight (Enumeration 0 2)

pub record ChoicesCover : Type 0 where
  pub with_others : of_element (on (character 48) ∷ on_others ∷ []) ≡ Some ((s.values (Zero ∷ []) ∷ []) ∷ [] ∷ [])
  -- '0' and '1' alone leave seven values
  pub without_others : of_element (on (character 48) ∷ on (character 49) ∷ []) ≡ None
  -- each literal of an enumeration, and not each
  pub all_literals : of_colour (on (name (codes "red")) ∷ on (name (codes "green")) ∷ [])
      ≡ Some ((s.position 0 ∷ []) ∷ (s.position 1 ∷ []) ∷ [])
  pub one_literal : of_colour (on (name (codes "red")) ∷ []) ≡ None
  -- '1' beside the constant that is '1'
  pub twice : of_element (on (character 49) ∷ on (name (codes "one")) ∷ on_others ∷ []) ≡ None
  -- others first, and beside a choice
  pub others_first : of_element (on_others ∷ on (character 48) ∷ []) ≡ None
  pub others_beside : of_element ((t.Choice.otherwise 0 ∷ on (character 48)) ∷ []) ≡ None
  -- ('0'), and a signal
  pub enclosed_choice : of_element (on (enclosed (character 48)) ∷ on_others ∷ []) ≡ None
  pub signal : of_element (on (name (codes "a")) ∷ on_others ∷ []) ≡ None
